use Rattle.number.proofs.SpellingLaws.{Sizing}
use Rattle.number.proofs.varint_size.Given as goal

abbrev pub invariant-loop-n : goal.invariant-loop-n
invariant-loop-n l = Sizing l.bits l.n l.rest
