use native.Mathlib.Omega.{arith}
use Rattle.leaf.proofs.RecordLaws.{summed-none, summed-on, summed-all}
use Rattle.leaf.proofs.sum_types.Goals as goal

pub loop-i-init : goal.loop-i-init
loop-i-init c = summed-none c.requires

pub loop-i-preserved : goal.loop-i-preserved
loop-i-preserved c =
    summed-on c.requires c.loop-i.invariant _ _ _ (omega arith) (omega arith) c.size_flat-sum.ensures.0 c.size_flat-sum.ensures.1
    c.odd_flat-odd.ensures.few c.odd_flat-odd.ensures.plain

pub returns : goal.returns
returns c = (omega arith, λ e. summed-all c.requires c.loop-i.invariant (omega arith) (omega arith) (omega arith))
