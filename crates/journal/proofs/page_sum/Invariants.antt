use Rattle.journal.proofs.SumLaws.{Summing}
use Rattle.journal.proofs.page_sum.Given as goal

abbrev pub invariant-loop-offset : goal.invariant-loop-offset
invariant-loop-offset l = Summing l.journal l.nonce l.at l.size l.sum l.offset

abbrev pub decreases-loop-offset : goal.decreases-loop-offset
decreases-loop-offset l = l.offset
