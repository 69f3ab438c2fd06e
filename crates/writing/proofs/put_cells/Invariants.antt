use Prim.Native.Nat.{◌+◌, ◌-◌, ◌≤◌}
use lib.ListN.{length}
use Rattle.writing.specs.Rows.{row_cells}
use Rattle.writing.specs.Layout.{size}
use Rattle.writing.specs.Given.{rows_from, cells_laid}
use Rattle.writing.proofs.LeafLaws.{Left}
use Rattle.writing.proofs.put_cells.Given as goal

abbrev pub invariant-loop-k : goal.invariant-loop-k
invariant-loop-k l =
    (l.k ≤ l.count)
    × Left (cells_laid l.initial.out (l.page + 8) (l.page + l.start) (row_cells size (rows_from l.rows l.lengths l.payloads l.count l.i l.off l.t))) (length l.initial.out) l.rows l.lengths
    l.payloads l.page l.out l.k (l.count - l.k) (l.i + l.k) l.at l.from l.next
