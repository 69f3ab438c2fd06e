use native.Mathlib.Omega.{arith}
use Rattle.urkibasko.proofs.Bounds.{recovered-pages}
use Rattle.urkibasko.proofs.logs.urk_log_recover.Goals as goal

pub overflow_cast-result : goal.overflow_cast-result
overflow_cast-result c = record { fits = omega (arith, recovered-pages _ _ _ _ c.in-Ok.ensures.answer) }
