use Rattle.super_journal.proofs.Sums.{Summing}
use Rattle.super_journal.proofs.name_sum.Given as goal

abbrev pub invariant-loop-byte : goal.invariant-loop-byte
invariant-loop-byte l = Summing l.name l.byte-index l.sum
