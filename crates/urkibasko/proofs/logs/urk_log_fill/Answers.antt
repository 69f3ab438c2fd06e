use native.Mathlib.Omega.{arith}
use Rattle.urkibasko.proofs.Bounds.{filled-small}
use Rattle.urkibasko.proofs.logs.urk_log_fill.Goals as goal

pub overflow_cast-result : goal.overflow_cast-result
overflow_cast-result c = record { fits = omega (arith, filled-small _ _ _ _ c.in-Ok.ensures.answer) }

pub overflow_cast-result-in-Ok : goal.overflow_cast-result-in-Ok
overflow_cast-result-in-Ok c = record { fits = omega (arith, filled-small _ _ _ _ c.in-Ok.ensures.answer) }
