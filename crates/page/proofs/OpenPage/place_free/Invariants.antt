use Prim.Native.Nat.{◌≤◌, ◌+◌, ◌*◌}
use mathlib.Core.Path.{◌≡◌}
use lib.ListN.{length}
use Rattle.page.proofs.Free.{left, More}
use Rattle.page.proofs.OpenPage.place_free.Given as goal

abbrev pub invariant-loop-at : goal.invariant-loop-at
invariant-loop-at l =
    (length l.s ≡ length l.initial.s) × More l.self.bytes.now l.self.usable l.self.start l.first l.initial.s l.s l.at l.bytes × (l.bytes + 65536 * left l.self.usable l.at ≤ 65536 * 65536)

abbrev pub decreases-loop-at : goal.decreases-loop-at
decreases-loop-at l = left l.self.usable l.at
