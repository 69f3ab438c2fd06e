use Rattle.writing.proofs.RowLaws.{head-laid}
use Rattle.writing.proofs.put_head.Goals as goal

pub returns : goal.returns
returns c =
    head-laid _ _ _ _ _ _ _ _ c.put_bits-a.ensures c.put_bits.ensures c.requires
