use Rattle.writing.proofs.PageLaws.{inner-whole}
use Rattle.writing.proofs.put_inner.Goals as goal

pub returns : goal.returns
returns c =
    inner-whole _ _ _ _ _ _ _ _ _ _ c.requires c.put_start.ensures c.put_word.ensures c.put_zeros.ensures _
    c.put_keys.ensures
