use mathlib.Core.Path.{◌≡◌}
use Rattle.image.specs.Image.{file_of}
use Rattle.dealing.specs.File.{cells_of}
use Rattle.dealing.specs.Lookup.{cell_for}
use Rattle.dealing.proofs.WalkLaws.{rest_of}
use Rattle.lookup.proofs.leaf_cell.Given as goal

abbrev pub invariant-loop-i : goal.invariant-loop-i
invariant-loop-i l =
    cell_for l.row l.page 0 (cells_of (file_of l.image) l.page) ≡ cell_for l.row l.page l.i (rest_of (file_of l.image) l.page l.i)
