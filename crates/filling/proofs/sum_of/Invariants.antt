use Prim.Native.Nat.{◌+◌, ◌-◌, ◌*◌, ◌≤◌}
use mathlib.Core.Path.{◌≡◌}
use lib.ListN.{get_or}
use Rattle.filling.specs.Fill.{total}
use Rattle.filling.proofs.sum_of.Given as goal

abbrev pub invariant-loop-m : goal.invariant-loop-m
invariant-loop-m l =
    (l.m ≤ l.k) × (l.sum ≤ l.m * 4294967295) × (l.sum + total (λ j. get_or (l.lengths) j 0) (l.k - l.m) (l.i + l.m) ≡ total (λ j. get_or (l.lengths) j 0) l.k l.i)
