use Prim.Native.Nat.{◌-◌}
use Rattle.leaf.proofs.RecordLaws.{Summed}
use Rattle.leaf.proofs.sum_types.Given as goal

abbrev pub invariant-loop-i : goal.invariant-loop-i
invariant-loop-i l = Summed l.b l.header l.i l.sum l.odd

abbrev pub decreases-loop-i : goal.decreases-loop-i
decreases-loop-i l = l.header - l.i
