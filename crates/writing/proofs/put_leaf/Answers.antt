use Rattle.writing.proofs.PageLaws.{leaf-whole}
use Rattle.writing.proofs.put_leaf.Goals as goal

pub returns : goal.returns
returns c =
    leaf-whole _ _ _ _ _ _ _ _ _ _ _ _ c.requires c.put_start.ensures c.put_zeros.ensures _
    c.put_cells.ensures
