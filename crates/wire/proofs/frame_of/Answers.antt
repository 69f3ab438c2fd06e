use borrow.Author.Rules.{rules}
use Rattle.wire.specs.Wire.{frame, four}
use Rattle.wire.proofs.frame_of.Goals as goal

pub returns : goal.returns
unfolding frame four
returns c = search rules
