use borrow.Author.Rules.{rules}
use Rattle.wire.specs.Wire.{entry, four}
use Rattle.wire.proofs.entry_of.Goals as goal

pub returns : goal.returns
unfolding entry four
returns c = search rules
