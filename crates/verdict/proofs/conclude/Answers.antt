use native.Mathlib.Omega.{arith}
use Rattle.image.proofs.Shape.{shape}
use Rattle.verdict.proofs.VerdictLaws.{judged-refused, judged-accepted}
use Rattle.verdict.proofs.conclude.Goals as goal

pub overflow_cast-result : goal.overflow_cast-result
overflow_cast-result c = omega (arith, (shape c.requires.0).few)

pub returns-in-Err : goal.returns-in-Err
returns-in-Err c =
    let e = c.refuse.ensures in
    judged-refused _ _ (shape c.requires.0).N-is _ _ _ _ _ _ c.in-Err.ensures e.0 e.1 e.2

pub returns-in-Ok : goal.returns-in-Ok
returns-in-Ok c = judged-accepted _ _ (shape c.requires.0).N-is _ _ _ c.in-Ok.ensures
