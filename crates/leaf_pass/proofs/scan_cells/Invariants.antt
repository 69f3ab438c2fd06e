use Prim.Native.Nat.{◌*◌, ◌≤◌}
use mathlib.Core.Path.{◌≡◌}
use lib.ListN.{length}
use Rattle.leaf_pass.specs.Way.{marks, has_gaps}
use Rattle.leaf_pass.specs.Scan.{Rows}
use Rattle.leaf_pass.proofs.ScanLaws.{Scanning}
use Rattle.leaf_pass.proofs.scan_cells.Given as goal

abbrev pub invariant-loop-i : goal.invariant-loop-i
invariant-loop-i l =
    (length l.s ≡ length l.initial.s) × Scanning l.page.bytes.now l.page.usable l.page.head l.page.first l.page.cells (marks l.way) (has_gaps l.way) l.initial.s l.s l.bytes l.i
    × Rows l.page.bytes.now l.page.usable l.page.head l.i l.lowest l.least l.from l.to × (l.bytes ≤ 65536 * l.i)
