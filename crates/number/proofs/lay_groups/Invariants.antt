use Rattle.std.proofs.Common.{◌≡◌, ◌++◌, drop}
use Rattle.number.specs.Varint.{groups}
use Rattle.number.proofs.lay_groups.Given as goal

abbrev pub invariant-loop-i : goal.invariant-loop-i
invariant-loop-i l = groups l.i l.rest ++ drop l.i l.out ≡ groups l.n l.bits ++ drop l.n l.initial.out
