use Prim.Native.Nat.{◌≤◌, ◌+◌, ◌-◌}
use mathlib.Core.Path.{◌≡◌}
use Rattle.leaf_pass.specs.Ends.{gap_before}
use Rattle.leaf_pass.proofs.gap_before.Given as goal

abbrev pub invariant-loop-gap : goal.invariant-loop-gap
invariant-loop-gap l =
    (l.gap ≤ l.at - l.start) × (gap_before l.s (l.at - l.start) l.at ≡ l.gap + gap_before l.s (l.at - l.start - l.gap) (l.at - l.gap))
