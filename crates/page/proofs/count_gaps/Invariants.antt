use Prim.Native.Nat.{◌≤◌, ◌-◌, ◌+◌}
use Rattle.page.proofs.Hops.{Hopped}
use Rattle.page.proofs.count_gaps.Given as goal

abbrev pub invariant-loop-j : goal.invariant-loop-j
invariant-loop-j l = (l.a ≤ l.j) × (l.j ≤ l.e) × Hopped l.s l.a l.e l.gaps l.j × (l.gaps + l.a ≤ l.j)

abbrev pub decreases-loop-j : goal.decreases-loop-j
decreases-loop-j l = l.e - l.j
