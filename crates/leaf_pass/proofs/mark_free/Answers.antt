use Prim.Native.Nat.{◌<◌}
use native.Mathlib.Omega.{arith}
use lib.ListN.{length-set}
use Rattle.page.proofs.Free.{left, left_less}
use Rattle.leaf_pass.proofs.EndsLaws.{marking-done, marking-next}
use Rattle.leaf_pass.proofs.mark_free.Goals as goal
use Rattle.leaf_pass.proofs.mark_free.Goals.{In_ok-block}

-- less is left past the freeblock
fewer : (c : In_ok-block) →
    let u = c.args.page.now.usable in left u c.in_ok-block.block.next < left u c.loop-at.at
fewer c =
    let r = c.in_ok-block.ensures.read in
    left_less _ _ _ (omega (arith, c.loop-at-test.true)) (omega (arith, r.head)) r.fine.rises

pub bounds-s-at : goal.bounds-s-at
bounds-s-at c =
    let r = c.in_ok-block.ensures.read in
    omega (arith, r.fine.high, r.fine.least, c.loop-at.invariant.0, c.requires)

pub loop-at-preserved : goal.loop-at-preserved
loop-at-preserved c =
    let r = c.in_ok-block.ensures.read in
    let less = fewer (goal.at.loop-at-preserved c).In_ok-block in (
      simp length-set c.loop-at.invariant.0,
      marking-next _ _ _ _ _ _ _ _ c.loop-at.invariant.1 c.loop-at-test.true r.head _ _ r.next-is r.size-is r.fine,
      omega (arith, c.loop-at.invariant.2, r.fine.high, c.args.page.now.opened.most),
    )

pub returns-clause-marked : goal.returns-clause-marked
returns-clause-marked c = (marking-done _ _ _ _ _ _ _ _ c.loop-at.invariant.1 c.loop-at-test.false, omega (arith, c.loop-at.invariant.2))
