use mir.Syntax.{w64}
use mir.ValLaws.{to_z-of_z}
use native.Mathlib.Omega.{arith}
use Rattle.urkibasko.proofs.Bounds.{written-length}
use Rattle.urkibasko.proofs.varints.urk_varint_write.Goals as goal

pub overflow_cast-result : goal.overflow_cast-result
overflow_cast-result c =
    let e = rw (to_z-of_z w64 c.args.value c.ranges.value) at c.varint_write.ensures in
    record { fits = omega (arith, written-length c.args.value _ _ _ e.0 c.in-Some.is) }
