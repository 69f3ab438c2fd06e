use Prim.Native.Nat.{◌-◌}
use lib.ListN.{length}
use Rattle.paging.specs.Pages.{over}
use Rattle.writing.specs.Pages.{joined}
use Rattle.filling.specs.Fill.{key_counts, inners_from}
use Rattle.filling.proofs.Loops.{InnersLeft}
use Rattle.filling.proofs.put_inners.Given as goal

abbrev pub invariant-loop-i : goal.invariant-loop-i
invariant-loop-i l =
    InnersLeft l.keys l.k (length l.initial.out) (over l.initial.out l.at (joined (inners_from l.keys (key_counts l.keys l.k) 0 l.child))) l.out l.place l.i l.next

abbrev pub decreases-loop-i : goal.decreases-loop-i
decreases-loop-i l = l.k - l.i
