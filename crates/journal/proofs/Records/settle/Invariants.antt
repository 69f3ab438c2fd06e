use Rattle.std.proofs.Common.{◌-◌, length}
use Rattle.journal.proofs.ReadingLaws.{Settling}
use Rattle.journal.proofs.Records.settle.Given as goal

abbrev pub invariant-loop-self : goal.invariant-loop-self
invariant-loop-self l = Settling l.initial.self l.self

abbrev pub decreases-loop-self : goal.decreases-loop-self
decreases-loop-self l = length l.self.journal.bytes.now - l.self.at
