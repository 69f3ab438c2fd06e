use Prim.Native.Nat.{◌≤◌}
use Rattle.prefetch.proofs.look_ahead.Given as goal

abbrev pub invariant-loop-next : goal.invariant-loop-next
invariant-loop-next l = (l.i ≤ l.next) × (l.end ≤ l.cells) × (l.sum ≤ 17179873770)
