use Prim.Native.Nat.{◌-◌}
use mathlib.Core.List.{[], map}
use lib.ListN.{length}
use Rattle.paging.specs.Pages.{over}
use Rattle.writing.specs.Pages.{joined}
use Rattle.writing.specs.Rows.{leaf_page}
use Rattle.filling.specs.Fill.{row_counts, leaves_from}
use Rattle.filling.proofs.Loops.{LeavesLeft}
use Rattle.filling.proofs.put_leaves.Given as goal

abbrev pub invariant-loop-i : goal.invariant-loop-i
invariant-loop-i l =
    LeavesLeft l.rows l.lengths l.payloads (length l.initial.out)
    (over l.initial.out l.at (joined (map (leaf_page 1024 []) (leaves_from l.rows l.lengths l.payloads (row_counts l.rows l.lengths) 0 0 l.t)))) l.out l.place l.i l.off l.next

abbrev pub decreases-loop-i : goal.decreases-loop-i
decreases-loop-i l = l.n - l.i
