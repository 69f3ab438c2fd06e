use Prim.Native.Nat.{◌+◌, ◌-◌}
use lib.ListN.{length}
use Rattle.wal.specs.Sums.{is_big}
use Rattle.wal.proofs.SumLaws.{Summing}
use Rattle.wal.proofs.ScanLaws.{Scanned}
use Rattle.wal.proofs.scan_words.Given as goal

abbrev pub invariant-loop-i : goal.invariant-loop-i
invariant-loop-i l = Summing (is_big l.order) l.log (l.at + 24) l.pairs l.initial.i l.initial.sums.s0 l.initial.sums.s1 l.i l.sums.s0 l.sums.s1

abbrev pub decreases-loop-i : goal.decreases-loop-i
decreases-loop-i l = l.pairs - l.i

abbrev pub invariant-loop-k : goal.invariant-loop-k
invariant-loop-k l = Summing (is_big l.order) l.log (l.at + 24) l.pairs l.initial.k l.initial.sums.s0 l.initial.sums.s1 l.k l.sums.s0 l.sums.s1

abbrev pub invariant-frames : goal.invariant-frames
invariant-frames l = Scanned (is_big l.order) l.size l.log l.at l.counting l.sums.s0 l.sums.s1 l.commit

abbrev pub decreases-frames : goal.decreases-frames
decreases-frames l = length l.log - l.at
