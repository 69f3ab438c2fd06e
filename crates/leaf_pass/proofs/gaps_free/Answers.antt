use native.Mathlib.Omega.{arith}
use Rattle.page.proofs.Free.{left_less}
use Rattle.leaf_pass.proofs.EndsLaws.{BlockHere, summing-all, summing-done, summing-here, summing-next}
use Rattle.leaf_pass.proofs.gaps_free.Goals as goal
use Rattle.leaf_pass.proofs.gaps_free.Goals.{Else-most-all}

pub loop-at-init : goal.loop-at-init
loop-at-init c =
    (omega arith, summing-all _ _ _ _ _ _ _ c.requires.1)

-- the freeblock there
here : (c : Else-most-all) →
    let args = c.args in BlockHere args.page.now.bytes.now args.page.now.usable args.page.now.start c.loop-at.at
here c = summing-here _ _ _ _ _ _ _ _ _ c.loop-at.invariant.1 c.loop-at-test.true

pub gap_before-all-requires : goal.gap_before-all-requires
gap_before-all-requires c =
    let h = here (goal.at.gap_before-all-requires c).Else-most-all in
    (c.requires.2, h.low, omega (arith, h.block.head, c.requires.0), omega (arith, h.block.head, c.args.page.now.opened.most), c.requires.4)

pub be16-at-requires : goal.be16-at-requires
be16-at-requires c =
    omega (arith, (here (goal.at.be16-at-requires c).Else-most-all).block.head, c.args.page.now.opened.whole)

pub loop-at-smaller : goal.loop-at-smaller
loop-at-smaller c =
    let b = (here (goal.at.loop-at-smaller c).Else-most-all).block in
    left_less _ _ c.be16-at.result b.there (omega (arith, b.head)) (rw c.be16-at.ensures.0 b.rises)

pub loop-at-preserved : goal.loop-at-preserved
loop-at-preserved c = (
  omega arith,
  summing-next _ _ _ _ _ _ _ _ _ c.loop-at.invariant.1 c.loop-at-test.true _ _ c.gap_before-all.ensures.1 c.be16-at.ensures.0,
)

pub returns : goal.returns
returns c =
    summing-done _ _ _ _ _ _ _ _ _ c.loop-at.invariant.1 c.loop-at-test.false
