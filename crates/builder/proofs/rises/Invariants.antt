use Prim.Native.Nat.{◌-◌}
use mathlib.Core.Path.{◌≡◌}
use lib.ListN.{length}
use Rattle.builder.proofs.Refused.{Rising}
use Rattle.builder.proofs.rises.Given as goal

abbrev pub invariant-loop-i : goal.invariant-loop-i
invariant-loop-i l = (l.most ≡ length l.rows - 1) × Rising l.rows l.most l.i l.last
