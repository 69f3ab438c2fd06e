use Rattle.steps.proofs.Laws.{Filling}
use Rattle.steps.proofs.fill_steps.Given as goal

abbrev pub invariant-loop-i : goal.invariant-loop-i
invariant-loop-i l = Filling l.namers l.n l.steps l.i l.last
