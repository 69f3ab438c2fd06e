use Prim.Native.Nat.{◌+◌, ◌-◌, ◌*◌, ◌≤◌}
use mathlib.Core.Path.{◌≡◌}
use lib.ListN.{get_or}
use Rattle.writing.specs.Given.{links_for}
use Rattle.filling.specs.Fill.{total}
use Rattle.filling.proofs.links_sum.Given as goal

abbrev pub invariant-loop-m : goal.invariant-loop-m
invariant-loop-m l =
    (l.m ≤ l.k) × (l.sum ≤ l.m * 138) × (l.sum + total (λ j. links_for (get_or (l.lengths) j 0)) (l.k - l.m) (l.i + l.m) ≡ total (λ j. links_for (get_or (l.lengths) j 0)) l.k l.i)
