-- What becomes of the names left becomes of all.
use Prim.Native.Nat.{ℕ}
use mathlib.Core.Path.{◌≡◌}
use mathlib.Core.List.{List}
use lib.ListN.{drop}
use Rattle.dealing.specs.Walk.{name_checks, settle}
use Rattle.image.specs.Image.{file_of}
use Rattle.names.proofs.check_names.Given as goal

abbrev pub invariant-loop-name : goal.invariant-loop-name
invariant-loop-name l =
    (ns : List ℕ) → settle (name_checks (file_of l.image) l.kinds l.ordered) l.kinds ns ≡ settle (name_checks (file_of l.image) l.kinds (drop l.name-index l.ordered)) l.kinds ns
