use Prim.Native.Nat.{◌+◌, ◌-◌, ◌≤◌}
use mathlib.Core.Path.{refl}
use native.Mathlib.Omega.{arith}
use lib.ListN.{length}
use Rattle.wal.specs.Frames.{frame_at}
use Rattle.wal.proofs.FrameLaws.{frame-inside}
use Rattle.wal.proofs.MarkLaws.{last-hit, last-miss, last_out}
use Rattle.wal.proofs.View.last_frame.Goals as goal
use Rattle.wal.proofs.View.last_frame.Goals.{In-loop-k}

pub loop-k-init : goal.loop-k-init
loop-k-init c = refl

-- in a turn: the whole frame lies within the log
inside : (c : In-loop-k) → frame_at c.args.self.now.state.size (c.loop-k.k - 1) + (24 + c.args.self.now.state.size) ≤ length c.args.self.now.log.now
inside c =
    let view = c.args.self.now in
    frame-inside view.state.size (c.loop-k.k - 1) view.state.frames _ view.log.now refl (omega arith) view.bounds.within

pub frame_at-requires : goal.frame_at-requires
frame_at-requires c = (c.args.self.now.bounds.most, omega (arith, inside (goal.at.frame_at-requires c).In-loop-k))

pub be32-requires : goal.be32-requires
be32-requires c = omega (arith, c.frame_at.ensures, inside (goal.at.be32-requires c).In-loop-k)

pub returns-then-be32-page : goal.returns-then-be32-page
returns-then-be32-page c =
    let hit = last-hit _ _ _ _ _ c.loop-k-test.true c.loop-k.invariant _ _ c.frame_at.ensures c.be32.ensures c.if-be32-page.true in
    omega (arith, hit)

pub loop-k-preserved : goal.loop-k-preserved
loop-k-preserved c = last-miss _ _ _ _ _ c.loop-k-test.true c.loop-k.invariant _ _ c.frame_at.ensures c.be32.ensures c.if-be32-page.false

pub returns : goal.returns
returns c = last_out _ _ _ _ _ c.loop-k-test.false c.loop-k.invariant
