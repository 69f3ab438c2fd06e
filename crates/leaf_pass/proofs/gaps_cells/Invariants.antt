use Prim.Native.Nat.{◌≤◌}
use Rattle.leaf_pass.proofs.EndsLaws.{Counting}
use Rattle.leaf_pass.proofs.gaps_cells.Given as goal

abbrev pub invariant-loop-i : goal.invariant-loop-i
invariant-loop-i l = (l.all ≤ 122) × Counting l.s l.page.bytes.now l.page.usable l.page.head l.page.start l.page.cells l.gaps l.most l.all l.i
