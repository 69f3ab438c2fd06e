use Prim.Native.Nat.{◌≤◌}
use Rattle.page.proofs.Free.{left}
use Rattle.leaf_pass.proofs.EndsLaws.{Summing}
use Rattle.leaf_pass.proofs.gaps_free.Given as goal

abbrev pub invariant-loop-at : goal.invariant-loop-at
invariant-loop-at l = (l.all ≤ 122) × Summing l.s l.page.bytes.now l.page.usable l.page.start l.first l.gaps l.most l.all l.at

abbrev pub decreases-loop-at : goal.decreases-loop-at
decreases-loop-at l = left l.page.usable l.at
