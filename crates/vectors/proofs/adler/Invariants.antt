use Rattle.vectors.proofs.AdlerLaws.{Summing}
use Rattle.vectors.proofs.adler.Given as goal

abbrev pub invariant-loop-byte : goal.invariant-loop-byte
invariant-loop-byte l = Summing l.b l.low l.high l.byte-index
