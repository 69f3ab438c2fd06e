use mathlib.Core.Path.{refl}
use Rattle.std.proofs.lemmas.Result.{err_from_is_err_and}
use Rattle.refusal.proofs.Laws.{number-some}
use Rattle.wal.proofs.ViewLaws.{found-bounds, found-refused, found-page}
use Rattle.wal.proofs.locate.Goals as goal

pub returns-in_err-state : goal.returns-in_err-state
returns-in_err-state c =
    let p = err_from_is_err_and c.from_residual.result c.from_residual.ensures.1 in
    rw (p.1, p.2) (found-refused _ _ _ _ c.in_err-state.ensures (number-some _))

pub invariant_of-page : goal.invariant_of-page
invariant_of-page c = record { bounds = found-bounds _ _ 0 _ c.in_ok-state.ensures refl }

pub returns : goal.returns
returns c = found-page _ _ _ _ c.in_ok-state.ensures _ refl c.page.ensures
