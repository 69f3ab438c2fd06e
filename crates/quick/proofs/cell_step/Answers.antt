use native.Mathlib.Omega.{arith}
use Rattle.std.proofs.lemmas.Result.{err_from_is_err_and}
use Rattle.quick.proofs.Laws.{step-refused, step-child, step_other, step-cell, payload-few}
use Rattle.quick.proofs.cell_step.Goals as goal

pub returns-in_err-c : goal.returns-in_err-c
returns-in_err-c c =
    let p = err_from_is_err_and c.from_residual.result c.from_residual.ensures.1 in
    rw (p.1, p.2) (step-refused _ _ _ _ _ _ c.in_err-c.ensures.refused)

pub returns-then-kind-ne13 : goal.returns-then-kind-ne13
returns-then-kind-ne13 c = step-child c.requires.0 _ _ _ c.in_ok-c.ensures.read c.if-kind-ne13.true

pub returns-then-c-row : goal.returns-then-c-row
returns-then-c-row c = step_other c.requires.0 _ _ _ c.in_ok-c.ensures.read c.if-kind-ne13.false c.if-c-row.true

pub overflow_cast-result-2 : goal.overflow_cast-result-2
overflow_cast-result-2 c = omega (arith, payload-few c.requires.0 c.args.row c.args.i c.in_ok-c.c c.in_ok-c.ensures.read)

pub returns : goal.returns
returns c = step-cell c.requires.0 _ _ _ c.in_ok-c.ensures.read c.if-kind-ne13.false c.if-c-row.false
