use mathlib.Core.Path.{◌≡◌}
use mathlib.Core.List.{◌++◌}
use lib.ListN.{length, drop}
use Rattle.dealing.specs.Walk.{kinds_to}
use Rattle.image.specs.Image.{file_of}
use Rattle.maps.proofs.fill_kinds.Given as goal

abbrev pub invariant-loop-i : goal.invariant-loop-i
invariant-loop-i l = (length l.kinds ≡ length l.initial.kinds) × (l.kinds ≡ kinds_to (file_of l.image) l.i ++ drop l.i l.initial.kinds)
