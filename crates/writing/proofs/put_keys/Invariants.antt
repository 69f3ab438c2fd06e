use Prim.Native.Nat.{◌+◌, ◌-◌, ◌≤◌}
use lib.ListN.{length}
use Rattle.writing.specs.Given.{keys_from, cells_laid}
use Rattle.writing.proofs.KeyLaws.{KeysLeft}
use Rattle.writing.proofs.put_keys.Given as goal

abbrev pub invariant-loop-k : goal.invariant-loop-k
invariant-loop-k l =
    (l.k ≤ l.count)
    × KeysLeft (cells_laid l.initial.out (l.page + 12) (l.page + l.start) (keys_from l.keys l.count l.i l.child)) (length l.initial.out) l.keys l.page l.out l.k (l.count - l.k) (l.i + l.k) l.at l.next
