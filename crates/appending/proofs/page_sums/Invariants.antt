use Rattle.std.proofs.Common.{◌-◌}
use Rattle.wal.specs.Sums.{is_big}
use Rattle.wal.proofs.SumLaws.{Summing}
use Rattle.appending.proofs.page_sums.Given as goal

abbrev pub invariant-loop-i : goal.invariant-loop-i
invariant-loop-i l = Summing (is_big l.order) l.page 0 l.pairs l.initial.i l.initial.sums.s0 l.initial.sums.s1 l.i l.sums.s0 l.sums.s1

abbrev pub decreases-loop-i : goal.decreases-loop-i
decreases-loop-i l = l.pairs - l.i

abbrev pub invariant-loop-k : goal.invariant-loop-k
invariant-loop-k l = Summing (is_big l.order) l.page 0 l.pairs l.initial.k l.initial.sums.s0 l.initial.sums.s1 l.k l.sums.s0 l.sums.s1
