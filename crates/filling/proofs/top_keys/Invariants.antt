use Prim.Native.Nat.{◌-◌}
use lib.ListN.{length, get_or}
use Rattle.paging.specs.Pages.{over}
use Rattle.filling.specs.Fill.{keys_grouped, key_counts, last_keys}
use Rattle.filling.proofs.Loops.{LastsLeft}
use Rattle.filling.proofs.top_keys.Given as goal

abbrev pub invariant-loop-i : goal.invariant-loop-i
invariant-loop-i l =
    LastsLeft (λ j. get_or l.keys j 0) (keys_grouped l.keys) l.k (length l.initial.tops) (length (key_counts l.keys l.k))
    (over l.initial.tops 0 (last_keys l.keys (key_counts l.keys l.k))) l.tops l.inners l.i

abbrev pub decreases-loop-i : goal.decreases-loop-i
decreases-loop-i l = l.k - l.i
