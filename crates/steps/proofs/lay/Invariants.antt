use Rattle.std.proofs.Common.{length}
use Rattle.steps.proofs.Laws.{Laying}
use Rattle.steps.proofs.lay.Given as goal

abbrev pub invariant-loop-left : goal.invariant-loop-left
invariant-loop-left l = Laying l.namers (length l.initial.steps) l.initial.steps l.p l.steps l.q l.left

abbrev pub decreases-loop-left : goal.decreases-loop-left
decreases-loop-left l = l.left
