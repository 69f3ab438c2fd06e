use mathlib.Core.Path.{◌≡◌}
use Rattle.image.specs.Image.{file_of}
use Rattle.dealing.specs.File.{cells_of}
use Rattle.dealing.specs.Lookup.{child_for}
use Rattle.dealing.proofs.WalkLaws.{rest_of}
use Rattle.lookup.proofs.child_for.Given as goal

abbrev pub invariant-loop-i : goal.invariant-loop-i
invariant-loop-i l =
    let f = file_of l.image in
    child_for l.row (f.right l.page) (cells_of f l.page) ≡ child_for l.row (f.right l.page) (rest_of f l.page l.i)
