use Rattle.std.proofs.Common.{◌≡◌, false}
use Rattle.paging.specs.Bits.{lacks}
use Rattle.paging.proofs.is_missing.Given as goal

abbrev pub invariant-loop-k : goal.invariant-loop-k
invariant-loop-k l = lacks l.marks l.long l.size l.k ≡ false
