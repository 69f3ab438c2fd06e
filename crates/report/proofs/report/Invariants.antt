use Rattle.std.proofs.Common.{length}
use Rattle.cursor.specs.Told.{told_stepped}
use Rattle.report.specs.Told.{summary_in, met_in}
use Rattle.report.proofs.Walk.{left_of, Going}
use Rattle.report.proofs.report.Given as goal

abbrev pub invariant-loop-row : goal.invariant-loop-row
invariant-loop-row l = Going l.image l.root l.column l.initial.room l.room (summary_in l.s) (met_in l.s) (told_stepped l.at)

abbrev pub decreases-loop-row : goal.decreases-loop-row
decreases-loop-row l = length (left_of l.image (told_stepped l.at))
