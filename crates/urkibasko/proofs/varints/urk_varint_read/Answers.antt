use native.Mathlib.Omega.{arith}
use Rattle.urkibasko.proofs.Bounds.{read_length}
use Rattle.urkibasko.proofs.varints.urk_varint_read.Goals as goal

pub overflow_cast-result : goal.overflow_cast-result
overflow_cast-result c = record { fits = omega (arith, read_length _ _ _ _ _ c.varint_read.ensures c.in-Some.is) }
