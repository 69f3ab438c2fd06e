use native.Mathlib.Omega.{arith}
use Rattle.urkibasko.proofs.BuildLaws.{pages-most}
use Rattle.urkibasko.proofs.builds.urk_build.Goals as goal

pub overflow_cast-result : goal.overflow_cast-result
overflow_cast-result c = record { fits = omega (arith, pages-most _ _ _ _ _ _ c.in-Ok.ensures.answer) }

pub overflow_mul-result : goal.overflow_mul-result
overflow_mul-result c = omega (arith, pages-most _ _ _ _ _ _ c.in-Ok.ensures.answer)
