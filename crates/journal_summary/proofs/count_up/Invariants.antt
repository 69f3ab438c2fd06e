use Rattle.std.proofs.Common.{◌+◌, ◌-◌, ◌≤◌, length}
use Rattle.journal_summary.proofs.GoingLaws.{Going}
use Rattle.journal_summary.proofs.count_up.Given as goal

abbrev pub invariant-loop-left-2 : goal.invariant-loop-left-2
invariant-loop-left-2 l =
    Going l.journal.bytes.now l.journal.size l.journal.sector l.journal.pages l.s l.nonce l.left l.at l.segments l.counting l.laid × (l.initial.at ≤ l.at)

abbrev pub decreases-loop-left-2 : goal.decreases-loop-left-2
decreases-loop-left-2 l = l.left

abbrev pub invariant-loop-left : goal.invariant-loop-left
invariant-loop-left l =
    Going l.journal.bytes.now l.journal.size l.journal.sector l.journal.pages l.s l.nonce l.left l.at l.segments l.counting l.laid

abbrev pub decreases-loop-left : goal.decreases-loop-left
decreases-loop-left l = length l.journal.bytes.now + 65536 - l.at
