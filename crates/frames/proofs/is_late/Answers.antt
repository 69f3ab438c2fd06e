use Prim.Native.Nat.{◌+◌, ◌≤◌}
use mathlib.Core.Path.{refl}
use native.Mathlib.Omega.{arith}
use lib.ListN.{length}
use Rattle.wal.specs.Frames.{frame_at}
use Rattle.wal.proofs.FrameLaws.{frame-inside}
use Rattle.frames.proofs.LateLaws.{late-found, none-next, none-late}
use Rattle.frames.proofs.is_late.Goals as goal
use Rattle.frames.proofs.is_late.Goals.{In-loop-k}

-- in a turn: the whole frame lies within the log
inside : (c : In-loop-k) → frame_at c.args.view.now.state.size c.loop-k.k + (24 + c.args.view.now.state.size) ≤ length c.args.view.now.log.now
inside c =
    let view = c.args.view.now in
    frame-inside view.state.size c.loop-k.k view.state.frames _ view.log.now refl c.loop-k-test.true view.bounds.within

pub loop-k-init : goal.loop-k-init
loop-k-init c = record { none = λ j a b. absurd (omega arith) }

pub frame_at-requires : goal.frame_at-requires
frame_at-requires c = (c.args.view.now.bounds.most, omega (arith, inside (goal.at.frame_at-requires c).In-loop-k))

pub be32-page-requires : goal.be32-page-requires
be32-page-requires c = omega (arith, c.frame_at.ensures, inside (goal.at.be32-page-requires c).In-loop-k)

pub returns-then-of_pages : goal.returns-then-of_pages
returns-then-of_pages c =
    late-found _ _ _ _ _ _ _ _ c.loop-k.auto.k c.loop-k-test.true c.frame_at.ensures c.be32-page.ensures c.of_pages.ensures c.if-of_pages.true

pub loop-k-preserved : goal.loop-k-preserved
loop-k-preserved c = none-next _ _ _ _ _ _ _ c.loop-k.invariant c.frame_at.ensures c.be32-page.ensures c.of_pages.ensures c.if-of_pages.false

pub returns : goal.returns
returns c = none-late _ _ _ _ _ c.loop-k.invariant (omega arith)
