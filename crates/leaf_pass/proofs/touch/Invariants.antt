use Prim.Native.Nat.{◌≤◌}
use Rattle.leaf_pass.proofs.touch.Given as goal

abbrev pub invariant-loop-lines : goal.invariant-loop-lines
invariant-loop-lines l = l.sum ≤ 2040
