use Rattle.tree.proofs.Cells.{cell_row}
use Rattle.tree.proofs.key_at.Goals as goal

pub returns : goal.returns
returns c = cell_row c.requires.0 c.requires.1 c.tree_cell.ensures
