use Rattle.std.proofs.Common.{◌<◌}
use Rattle.vectors.proofs.decimal.Given as goal

abbrev pub invariant-loop-c : goal.invariant-loop-c
invariant-loop-c l = l.value < 1000000000000000000
