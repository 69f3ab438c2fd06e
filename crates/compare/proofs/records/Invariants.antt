use Prim.Native.Nat.{◌-◌}
use Rattle.compare.proofs.RecordLaws.{Walking}
use Rattle.compare.proofs.records.Given as goal

abbrev pub invariant-loop-i : goal.invariant-loop-i
invariant-loop-i l = Walking l.a l.b l.header l.other l.i l.j l.p l.q

abbrev pub decreases-loop-i : goal.decreases-loop-i
decreases-loop-i l = l.header - l.i
