use Prim.Native.Nat.{◌-◌, ◌≤◌}
use mathlib.Core.Path.{◌≡◌}
use Rattle.cells.specs.Reading.{rest_fills}
use Rattle.cells.proofs.types_fill.Given as goal

abbrev pub invariant-loop-at : goal.invariant-loop-at
invariant-loop-at l = (l.place ≤ l.end) × (rest_fills l.b l.header l.end l.own l.header ≡ rest_fills l.b l.header l.end l.at l.place)

abbrev pub decreases-loop-at : goal.decreases-loop-at
decreases-loop-at l = l.header - l.at
