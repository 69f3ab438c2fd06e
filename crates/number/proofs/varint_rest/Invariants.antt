use Rattle.std.proofs.Common.{◌+◌}
use Rattle.number.specs.Varint.{word_from}
use Rattle.number.proofs.VarintSteps.{Reading}
use Rattle.number.proofs.varint_rest.Given as goal

abbrev pub invariant-loop-n : goal.invariant-loop-n
invariant-loop-n l = Reading (word_from 7 l.b (l.at + l.left) (l.at + 2) 2 l.start) l.b l.at (l.at + l.left) l.n l.bits
