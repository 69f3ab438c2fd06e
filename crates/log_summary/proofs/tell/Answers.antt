use native.Mathlib.Omega.{arith}
use Rattle.wal.specs.Sums.{is_big}
use Rattle.wal.proofs.FrameLaws.{in-force-whole}
use Rattle.log_summary.proofs.TellLaws.{count-whole, is-told}
use Rattle.log_summary.proofs.tell.Goals as goal

pub size_after-pages-requires : goal.size_after-pages-requires
size_after-pages-requires c = let e = c.scan-found.ensures in (c.requires.2, rw e (in-force-whole _ _ _ c.requires.0))

pub frame_at-requires : goal.frame_at-requires
frame_at-requires c =
    let w = count-whole (is_big c.args.order) c.args.size c.args.log.now c.requires.0 in
    (c.requires.2, rw c.scan-found.ensures (omega (arith, w)))

pub stop_at-requires : goal.stop_at-requires
stop_at-requires c =
    let w = count-whole _ c.args.size _ c.requires.0 in
    (c.requires.0, c.requires.1, c.requires.2, rw (c.frame_at.ensures, c.scan-found.ensures) w)

pub returns : goal.returns
returns c =
    is-told _ _ _ c.scan-found.result _ _ _ _ _ c.scan-found.ensures c.size_after-pages.ensures
    c.over_limit.ensures c.whole_frames.ensures c.frame_at.ensures c.stop_at.ensures
