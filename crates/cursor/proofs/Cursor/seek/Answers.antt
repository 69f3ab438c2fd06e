use mir.Syntax.{w64}
use mir.ValLaws.{to_z-of_z}
use mathlib.Core.Path.{ap, ◌∙◌}
use Rattle.cursor.specs.Answers.{seek_of}
use Rattle.cursor.specs.Told.{told}
use Rattle.cursor.proofs.Theorems.{seek-good}
use Rattle.cursor.proofs.Cursor.seek.Goals as goal

pub returns : goal.returns
returns c =
    seek-good _ _ (c.handed.ensures ∙ ap (λ kept. told kept c.find_from.result) c.nowhere.ensures ∙ c.find_from.ensures
    ∙ ap (seek_of c.args.image.now c.args.root) (to_z-of_z w64 _ c.ranges.row))
