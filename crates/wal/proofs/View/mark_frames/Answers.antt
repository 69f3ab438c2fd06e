use Prim.Native.Nat.{◌+◌, ◌≤◌}
use mathlib.Core.Path.{refl, ◌∙◌}
use native.Mathlib.Omega.{arith}
use lib.ListN.{length}
use Rattle.wal.specs.Frames.{frame_at}
use Rattle.wal.proofs.FrameLaws.{frame-inside}
use Rattle.wal.proofs.MarkLaws.{marks-none, marks-next}
use Rattle.wal.proofs.View.mark_frames.Goals as goal
use Rattle.wal.proofs.View.mark_frames.Goals.{In-loop-k}

pub loop-k-init : goal.loop-k-init
loop-k-init c = (refl, marks-none _ _ _ _ c.requires.1)

-- in a turn: the whole frame lies within the log
inside : (c : In-loop-k) → frame_at c.args.self.now.state.size c.loop-k.k + (24 + c.args.self.now.state.size) ≤ length c.args.self.now.log.now
inside c =
    let view = c.args.self.now in
    frame-inside view.state.size c.loop-k.k view.state.frames _ view.log.now refl c.loop-k-test.true view.bounds.within

pub frame_at-requires : goal.frame_at-requires
frame_at-requires c = (c.args.self.now.bounds.most, omega (arith, inside (goal.at.frame_at-requires c).In-loop-k))

pub be32-page-requires : goal.be32-page-requires
be32-page-requires c = omega (arith, c.frame_at.ensures, inside (goal.at.be32-page-requires c).In-loop-k)

pub loop-k-preserved : goal.loop-k-preserved
loop-k-preserved c =
    (c.note.ensures.same ∙ c.loop-k.invariant.0, marks-next _ _ _ _ _ _ _ _ c.loop-k.invariant.1 c.frame_at.ensures c.be32-page.ensures c.note.ensures)
