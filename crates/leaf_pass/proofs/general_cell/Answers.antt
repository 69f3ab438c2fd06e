use Rattle.leaf_pass.proofs.ScanLaws.{taken-least, taken-at}
use Rattle.leaf_pass.proofs.general_cell.Goals as goal

pub overflow_sub-size : goal.overflow_sub-size
overflow_sub-size c =
    taken-least _ _ _ _ c.args.page.now.opened.least _ c.read_cell-c.ensures c.if-c-ne0.false

pub returns : goal.returns
returns c = taken-at _ _ _ _ c.args.page.now.opened.least _ c.read_cell-c.ensures c.if-c-ne0.false c.if-c-ne0-2.false
