use Prim.Native.Nat.{◌≤◌}
use mathlib.Core.Path.{◌≡◌}
use native.Mathlib.Omega.{arith}
use Rattle.page.specs.Header.{pointer}
use Rattle.page.proofs.CellExtent.{at-is}
use Rattle.leaf_pass.proofs.EndsLaws.{counting-done, counting-at, counting-next}
use Rattle.leaf_pass.proofs.gaps_cells.Goals as goal
use Rattle.leaf_pass.proofs.gaps_cells.Goals.{After-be16-at}

-- what was read is the ith cell's pointer, and lies in the content
placed : (c : After-be16-at) →
    let args = c.args in c.be16-at.result ≡ pointer args.page.now.bytes.now args.page.now.head c.loop-i.i
placed c =
    at-is _ _ _ _ _ _ _ c.args.page.now.opened (omega (arith, c.loop-i-test.true, c.requires.0)) _ c.be16-at.ensures.0

inside : (c : After-be16-at) →
    let args = c.args in (args.page.now.start ≤ c.be16-at.result) × (c.be16-at.result ≤ args.page.now.usable)
inside c =
    counting-at _ _ _ _ _ _ _ _ _ _ c.loop-i.invariant.1 c.loop-i-test.true _ (placed c)

pub gap_before-all-requires : goal.gap_before-all-requires
gap_before-all-requires c =
    let lies = inside (goal.at.gap_before-all-requires c).After-be16-at in
    (c.requires.3, lies.0, omega (arith, lies.1, c.requires.1), omega (arith, lies.1, c.args.page.now.opened.most), c.requires.5)

pub loop-i-preserved : goal.loop-i-preserved
loop-i-preserved c = (
  omega arith,
  counting-next _ _ _ _ _ _ _ _ _ _ c.loop-i.invariant.1 c.loop-i-test.true _ (placed (goal.at.loop-i-preserved c).After-be16-at) _ c.gap_before-all.ensures.1,
)

pub returns-clause-gaps : goal.returns-clause-gaps
returns-clause-gaps c =
    λ l. rw c.args.page.now.count at (counting-done _ _ _ _ _ _ _ _ _ _ c.loop-i.invariant.1 (omega arith) l)
