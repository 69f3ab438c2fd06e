use Rattle.appending.proofs.LaidLaws.{two-laid}
use Rattle.appending.proofs.put_two.Goals as goal

pub returns : goal.returns
returns c = two-laid _ _ _ _ _ _ c.requires c.put_word.ensures c.put_word-2.ensures
