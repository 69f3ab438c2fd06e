use Rattle.std.proofs.Common.{◌-◌, length}
use Rattle.journal.proofs.ReadingLaws.{Settling}
use Rattle.journal.proofs.RecordsIterator.next.Given as goal

abbrev pub invariant-loop-at : goal.invariant-loop-at
invariant-loop-at l = Settling l.initial.self l.self

abbrev pub decreases-loop-at : goal.decreases-loop-at
decreases-loop-at l = length l.self.journal.bytes.now - l.self.at
