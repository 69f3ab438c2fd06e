use Rattle.vectors.proofs.AdlerLaws.{Summing}
use Rattle.vectors.proofs.adler_words.Given as goal

abbrev pub invariant-loop-word : goal.invariant-loop-word
invariant-loop-word l = Summing l.b l.low l.high l.word-index
