use native.Mathlib.Omega.{arith}
use Rattle.std.proofs.lemmas.Result.{err_from_is_err_and}
use Rattle.image.proofs.Shape.{opened_of}
use Rattle.cursor.proofs.Next.{step-refused, step_end, step-long, step-down}
use Rattle.cursor.proofs.find_next.Goals as goal

pub returns-in_err-h : goal.returns-in_err-h
returns-in_err-h c =
    let p = err_from_is_err_and c.from_residual.result c.from_residual.ensures.1 in
    rw (p.1, p.2) (step-refused _ _ _ c.in_err-h.ensures)

pub returns-then-c-eq0 : goal.returns-then-c-eq0
returns-then-c-eq0 c = step_end _ _ (opened_of _ c.in_ok-h.ensures) c.if-c-eq0.true

pub returns-then-c-gt-LEVEL_LIMIT : goal.returns-then-c-gt-LEVEL_LIMIT
returns-then-c-gt-LEVEL_LIMIT c = step-long _ _ (opened_of _ c.in_ok-h.ensures) c.if-c-eq0.false (omega arith)

pub from_path-requires : goal.from_path-requires
from_path-requires c = (opened_of _ c.in_ok-h.ensures, (omega arith, omega arith, omega arith))

pub returns : goal.returns
returns c = step-down _ _ (opened_of _ c.in_ok-h.ensures) c.if-c-eq0.false _ c.from_path.ensures
