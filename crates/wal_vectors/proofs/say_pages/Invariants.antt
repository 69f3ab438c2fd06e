use Rattle.std.proofs.Common.{◌≤◌, length}
use Rattle.wal_vectors.proofs.say_pages.Given as goal

abbrev pub invariant-loop : goal.invariant-loop
invariant-loop g l = (l.at ≤ length l.whole) × (l.p ≤ 4097)
