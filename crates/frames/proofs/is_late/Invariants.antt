use Rattle.frames.proofs.LateLaws.{NoneTo}
use Rattle.frames.proofs.is_late.Given as goal

abbrev pub invariant-loop-k : goal.invariant-loop-k
invariant-loop-k l = NoneTo l.view.state.size l.view.log.now l.view.state.pages l.k
