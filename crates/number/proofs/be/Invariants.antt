use Rattle.number.proofs.BeLaws.{Gathered}
use Rattle.number.proofs.be.Given as goal

abbrev pub invariant-loop-i : goal.invariant-loop-i
invariant-loop-i l = Gathered l.b l.at l.width l.u l.i
