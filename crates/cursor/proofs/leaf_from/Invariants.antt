use Prim.Native.Nat.{◌-◌}
use mathlib.Core.Path.{◌≡◌}
use Rattle.dealing.specs.Cursor.{shown_from, leaf_met}
use Rattle.image.specs.Image.{file_of}
use Rattle.cursor.proofs.leaf_from.Given as goal

abbrev pub invariant-loop-i : goal.invariant-loop-i
invariant-loop-i l =
    shown_from (file_of l.image) l.least (leaf_met l.page l.from (l.count - l.from))
    ≡ shown_from (file_of l.image) l.least (leaf_met l.page l.i (l.count - l.i))
