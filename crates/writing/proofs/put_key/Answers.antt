use Rattle.writing.proofs.KeyLaws.{key-laid}
use Rattle.writing.proofs.put_key.Goals as goal

pub returns : goal.returns
returns c =
    key-laid _ _ _ _ _ _ _ _ _ _ c.requires c.put_half.ensures c.put_word.ensures c.put_bits-end.ensures
