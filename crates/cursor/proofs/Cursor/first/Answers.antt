use mathlib.Core.Path.{ap, ◌∙◌}
use Rattle.cursor.specs.Told.{told}
use Rattle.cursor.proofs.Theorems.{first_good}
use Rattle.cursor.proofs.Cursor.first.Goals as goal

pub returns : goal.returns
returns c = first_good _ (c.handed.ensures ∙ ap (λ kept. told kept c.find_first.result) c.nowhere.ensures ∙ c.find_first.ensures)
