use mathlib.Core.Path.{◌≡◌}
use Rattle.dealing.specs.Walk.{largest_root}
use Rattle.maps.proofs.largest_root.Given as goal

abbrev pub invariant-loop-at : goal.invariant-loop-at
invariant-loop-at l = largest_root l.kinds l.n ≡ largest_root l.kinds l.at
