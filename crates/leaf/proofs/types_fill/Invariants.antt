use Prim.Native.Nat.{◌-◌}
use Rattle.leaf.proofs.RecordLaws.{Passed}
use Rattle.leaf.proofs.types_fill.Given as goal

abbrev pub invariant-loop-i : goal.invariant-loop-i
invariant-loop-i l = Passed l.b l.header l.i l.place

abbrev pub decreases-loop-i : goal.decreases-loop-i
decreases-loop-i l = l.header - l.i
