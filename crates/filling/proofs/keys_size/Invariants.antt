use Prim.Native.Nat.{◌+◌, ◌-◌, ◌*◌, ◌≤◌}
use mathlib.Core.Path.{◌≡◌}
use lib.ListN.{get_or}
use Rattle.number.specs.Varint.{varint_size}
use Rattle.filling.specs.Fill.{total}
use Rattle.filling.proofs.keys_size.Given as goal

abbrev pub invariant-loop-m : goal.invariant-loop-m
invariant-loop-m l =
    (l.m ≤ l.k) × (l.sum ≤ l.m * 13) × (l.sum + total (λ j. 4 + varint_size (get_or (l.keys) j 0)) (l.k - l.m) (l.i + l.m) ≡ total (λ j. 4 + varint_size (get_or (l.keys) j 0)) l.k l.i)
