use Prim.Native.Nat.{◌-◌}
use Rattle.wire.proofs.Laws.{Comparing}
use Rattle.wire.proofs.compare.Given as goal

abbrev pub invariant-loop-i : goal.invariant-loop-i
invariant-loop-i l = Comparing l.proposal l.n l.kinds l.namers l.steps l.i

abbrev pub decreases-loop-i : goal.decreases-loop-i
decreases-loop-i l = l.n - l.i
