use Prim.Native.Nat.{◌≤◌, ◌*◌}
use mathlib.Core.Path.{◌≡◌}
use lib.ListN.{length}
use Rattle.page.proofs.Cells.{Left}
use Rattle.page.proofs.OpenPage.place_cells.Given as goal

abbrev pub invariant-loop-i : goal.invariant-loop-i
invariant-loop-i l =
    (length l.s ≡ length l.initial.s) × Left l.self.bytes.now l.self.usable l.self.head l.self.cells l.initial.s l.s l.bytes l.low l.i × (l.bytes ≤ 65536 * l.i)
