use Rattle.writing.proofs.TreeLaid.{start-laid}
use Rattle.writing.proofs.put_start.Goals as goal

pub returns : goal.returns
returns c =
    start-laid _ _ _ _ _ _ _ _ _ _ c.requires c.put_byte.ensures c.put_zeros.ensures c.put_half.ensures
    c.put_half-2.ensures c.put_byte-2.ensures
