use native.Mathlib.Omega.{arith}
use mathlib.Core.Path.{sym, ◌∙◌}
use Rattle.cursor.proofs.Ways.{child-is, child-over}
use Rattle.cursor.proofs.child_at.Goals as goal

pub returns-then-i-count : goal.returns-then-i-count
returns-then-i-count c = child-is c.requires.0 _ _ (omega arith) c.tree_cell.ensures

pub returns-else-i-count : goal.returns-else-i-count
returns-else-i-count c = c.requires.1 ∙ sym (child-over c.requires.0 _ 0 (omega arith))
