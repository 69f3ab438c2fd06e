use Rattle.std.proofs.lemmas.Result.{err_from_is_err_and}
use Rattle.cursor.proofs.Ways.{first-refused, first-down}
use Rattle.cursor.proofs.find_first.Goals as goal

pub returns-in_err-h : goal.returns-in_err-h
returns-in_err-h c =
    let p = err_from_is_err_and c.from_residual.result c.from_residual.ensures.1 in
    rw (p.1, p.2) (first-refused _ _ _ c.in_err-h.ensures.refused)

pub returns : goal.returns
returns c = first-down c.in_ok-h.ensures.ok _ c.from_root.ensures
