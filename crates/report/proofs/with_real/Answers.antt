use Rattle.std.proofs.Common.{refl}
use Rattle.report.specs.Summary.{added}
use Rattle.report.proofs.with_real.Goals as goal

pub returns-in-None : goal.returns-in-None
unfolding added
returns-in-None c = rw c.in-None.is refl

pub returns-in-Some : goal.returns-in-Some
unfolding added
returns-in-Some c = rw (c.in-Some.is, c.lesser.ensures, c.greater.ensures) refl
