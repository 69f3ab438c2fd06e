use mathlib.Core.Path.{◌∙◌}
use Rattle.cursor.proofs.Theorems.{step-good}
use Rattle.cursor.proofs.Cursor.step.Goals as goal

pub returns : goal.returns
returns c = step-good _ (c.handed.ensures ∙ c.find_next.ensures)
