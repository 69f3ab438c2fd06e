use Prim.Native.Nat.{◌+◌, ◌-◌, ◌*◌}
use mathlib.Core.Path.{◌≡◌}
use lib.ListN.{length}
use Rattle.dealing.specs.Cursor.{shown_from, inner_met, listing}
use Rattle.image.specs.Image.{file_of}
use Rattle.cursor.proofs.+child_children_descend.Given as goal

abbrev pub decreases-descend : goal.decreases-descend
decreases-descend l = l.levels * 3

abbrev pub decreases-child : goal.decreases-child
decreases-child l = l.levels * 3 + 1

abbrev pub decreases-children : goal.decreases-children
decreases-children l = l.levels * 3 + 2

abbrev pub invariant-children-loop-i : goal.invariant-children-loop-i
invariant-children-loop-i l =
    (length l.marks ≡ length l.initial.marks)
    × (shown_from (file_of l.image) l.least (inner_met (file_of l.image) (listing (file_of l.image) l.levels) l.page l.from (l.cells + 1 - l.from))
    ≡ shown_from (file_of l.image) l.least (inner_met (file_of l.image) (listing (file_of l.image) l.levels) l.page l.i (l.cells + 1 - l.i)))
