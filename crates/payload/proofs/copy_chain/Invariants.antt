use mathlib.Core.Path.{◌≡◌}
use Prim.Native.Nat.{◌-◌, ◌≤◌}
use lib.ListN.{length}
use Rattle.paging.specs.Pages.{over}
use Rattle.payload.specs.Copy.{rest_bytes, Chained}
use Rattle.payload.proofs.copy_chain.Given as goal

abbrev pub invariant-loop-at : goal.invariant-loop-at
invariant-loop-at l =
    (l.at ≤ l.end)
    × (length l.out ≡ length l.initial.out)
    × (l.room ≡ l.h.usable - 4)
    × Chained l.image (l.end - l.at) l.t
    × (over l.out l.at (rest_bytes l.image (l.end - l.at) l.t) ≡ over l.initial.out l.from (rest_bytes l.image (l.end - l.from) l.first))

abbrev pub decreases-loop-at : goal.decreases-loop-at
decreases-loop-at l = l.end - l.at
