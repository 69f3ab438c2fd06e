use native.Mathlib.Nat.{pos_of_ne-zero}
use Rattle.leaf.proofs.ShortLaws.{plain_by}
use Rattle.leaf.proofs.plain.Goals as goal

pub returns : goal.returns
returns c = λ f. plain_by _ _ _ _ c.wide.ensures.0 c.if-wide-eq128.false _ (pos_of_ne-zero f) c.varint_word.ensures
