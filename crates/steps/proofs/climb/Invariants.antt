use Rattle.std.proofs.Common.{length}
use Rattle.dealing.specs.Steps.{step_by}
use Rattle.steps.proofs.Laws.{Climbing}
use Rattle.steps.proofs.climb.Given as goal

abbrev pub invariant-loop-p : goal.invariant-loop-p
invariant-loop-p l = Climbing l.namers (length l.steps) l.p l.q l.count

abbrev pub decreases-loop-p : goal.decreases-loop-p
decreases-loop-p l = step_by l.namers (length l.steps) l.q
