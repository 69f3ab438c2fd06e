use Rattle.filling.proofs.Sums.{KeysTaking}
use Rattle.filling.proofs.inner_taken.Given as goal

abbrev pub invariant-loop-m : goal.invariant-loop-m
invariant-loop-m l = KeysTaking l.keys l.k l.i l.m l.used
