use Rattle.journal.specs.Reading.{rest_from, rest_of}
use Rattle.journal.proofs.ScanLaws.{Scanning}
use Rattle.journal.proofs.Journal.scan_from.Given as goal

abbrev pub invariant-loop-record : goal.invariant-loop-record
invariant-loop-record l =
    (goal.iterator-loop-record).can_next l.record-iterator × (goal.iterator-loop-record).is_finite l.record-iterator ×
    Scanning l.self.bytes.now l.self.size l.self.pages l.initial.marks (rest_from l.self.bytes.now l.fn.start.nonce l.fn.start.left l.fn.start.at)
    l.marks (rest_of l.record-iterator)
