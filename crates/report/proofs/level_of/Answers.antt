use Rattle.std.proofs.Common.{arith, refl, length-take}
use Rattle.std.proofs.lemmas.Result.{err_from_is_err_and}
use Rattle.report.proofs.Laws.{fetch-refuses, fetched-fits, fetch-copies}
use Rattle.report.proofs.level_of.Goals as goal

pub returns-in_err-length : goal.returns-in_err-length
returns-in_err-length c =
    let p = err_from_is_err_and c.from_residual.result c.from_residual.ensures.1 in
    let a = c.args in
    rw (p.1, p.2) (fetch-refuses a.image.now a.column a.page a.cell a.room.now _ _ c.in_err-length.ensures.answer c.in_err-length.ensures.buffer _ _ refl)

pub slice_bounds-level_in-end : goal.slice_bounds-level_in-end
slice_bounds-level_in-end c =
    let a = c.args in
    let e = c.in_ok-length.ensures in
    omega (arith, fetched-fits a.image.now a.page a.cell a.room.now _ _ e.answer e.buffer _ refl, c.payload.auto.out)

pub slice_bounds-level_in-end-2 : goal.slice_bounds-level_in-end-2
slice_bounds-level_in-end-2 c =
    let a = c.args in
    let e = c.in_ok-length.ensures in
    simp length-take (omega (arith, fetched-fits a.image.now a.page a.cell a.room.now _ _ e.answer e.buffer _ refl, c.payload.auto.out))

pub returns : goal.returns
returns c =
    let a = c.args in
    fetch-copies a.image.now a.page a.cell a.room.now _ _ c.in_ok-length.ensures.answer c.in_ok-length.ensures.buffer _ refl a.column _ c.level_in.ensures
