use Prim.Native.Nat.{◌+◌, ◌≤◌}
use native.Mathlib.Omega.{arith}
use lib.ListN.{get_or}
use Rattle.writing.specs.Given.{links_for}
use Rattle.filling.proofs.Sums.{total-on, total-end, links-most}
use Rattle.filling.proofs.links_sum.Goals as goal
use Rattle.filling.proofs.links_sum.Goals.{After-links_of-sum}

-- a payload has few links
few : (c : After-links_of-sum) → links_for (get_or c.args.lengths.now (c.args.i + c.loop-m.m) 0) ≤ 138
few c =
    links-most _ (c.requires.2.limit (c.args.i + c.loop-m.m))

pub overflow_add-sum : goal.overflow_add-sum
overflow_add-sum c = omega (arith, c.links_of-sum.ensures, few (goal.at.overflow_add-sum c).After-links_of-sum)

pub loop-m-preserved : goal.loop-m-preserved
loop-m-preserved c =
    let l = c.loop-m in (
      omega arith,
      omega (arith, c.links_of-sum.ensures, few (goal.at.loop-m-preserved c).After-links_of-sum),
      total-on _ _ _ _ _ _ c.loop-m-test.true c.links_of-sum.ensures l.invariant.2,
    )

pub returns : goal.returns
returns c = total-end _ _ _ _ _ (omega arith) c.loop-m.invariant.2
