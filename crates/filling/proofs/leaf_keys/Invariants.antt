use Prim.Native.Nat.{◌-◌}
use lib.ListN.{length, get_or}
use lib.IntN.{pos}
use Rattle.number.specs.Bytes.{word_of}
use Rattle.paging.specs.Pages.{over}
use Rattle.filling.specs.Fill.{rows_grouped, row_counts, last_rows}
use Rattle.filling.proofs.Loops.{LastsLeft}
use Rattle.filling.proofs.leaf_keys.Given as goal

abbrev pub invariant-loop-i : goal.invariant-loop-i
invariant-loop-i l =
    LastsLeft (λ j. word_of (get_or l.rows j (pos 0))) (rows_grouped l.rows l.lengths) (length l.rows) (length l.initial.keys) (length (row_counts l.rows l.lengths))
    (over l.initial.keys 0 (last_rows l.rows (row_counts l.rows l.lengths))) l.keys l.leaves l.i

abbrev pub decreases-loop-i : goal.decreases-loop-i
decreases-loop-i l = l.n - l.i
