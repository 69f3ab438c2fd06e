use Rattle.std.proofs.lemmas.Result.{err_from_is_err_and}
use Rattle.header.proofs.Laws.{refused-alone, alone-5, alone-passed}
use Rattle.header.proofs.check_size.Goals as goal

pub returns-in_err-form : goal.returns-in_err-form
returns-in_err-form c =
    let p = err_from_is_err_and c.from_residual.result c.from_residual.ensures.1 in
    rw (p.1, p.2) (refused-alone _ _ c.in_err-form.ensures)

pub returns-then-form-gt-PAGE_LIMIT : goal.returns-then-form-gt-PAGE_LIMIT
returns-then-form-gt-PAGE_LIMIT c = alone-5 _ _ c.in_ok-form.ensures c.if-form-gt-PAGE_LIMIT.true

pub returns : goal.returns
returns c = alone-passed _ _ c.in_ok-form.ensures c.if-form-gt-PAGE_LIMIT.false
