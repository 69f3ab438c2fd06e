use Prim.Native.Nat.{◌-◌}
use Rattle.quick.proofs.Laws.{Halving}
use Rattle.quick.proofs.halve.Given as goal

abbrev pub invariant-loop-a : goal.invariant-loop-a
invariant-loop-a l = Halving l.p l.u l.head l.row l.n l.a l.z

abbrev pub decreases-loop-a : goal.decreases-loop-a
decreases-loop-a l = l.z - l.a
