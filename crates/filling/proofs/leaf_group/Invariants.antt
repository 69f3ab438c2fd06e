use lib.ListN.{length}
use Rattle.filling.proofs.Sums.{Taking}
use Rattle.filling.proofs.leaf_group.Given as goal

abbrev pub invariant-loop-j : goal.invariant-loop-j
invariant-loop-j l = Taking l.rows l.lengths (length l.rows) l.i l.j l.used
