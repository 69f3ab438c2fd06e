use Rattle.builder.proofs.Refused.{OverLeft}
use Rattle.builder.proofs.over_limit.Given as goal

abbrev pub invariant-loop-length : goal.invariant-loop-length
invariant-loop-length l = OverLeft l.lengths l.length-index
