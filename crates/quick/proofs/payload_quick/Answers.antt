use mathlib.Core.Path.{refl}
use Rattle.std.proofs.lemmas.Result.{err_from_is_err_and}
use Rattle.quick.proofs.Laws.{fetch-refused, page-there}
use Rattle.quick.proofs.Same.{good-payload}
use Rattle.quick.proofs.payload_quick.Goals as goal

pub returns-in_err-h : goal.returns-in_err-h
returns-in_err-h c =
    let p = err_from_is_err_and c.from_residual.result c.from_residual.ensures.1 in
    rw (p.1, p.2) (good-payload _ _ _ (fetch-refused _ _ _ _ _ c.in_err-h.ensures.refused) refl)

pub returns : goal.returns
returns c = good-payload _ _ _ (page-there _ _ _ _ c.in_ok-h.ensures.ok _ c.fetch_at.ensures.0) c.fetch_at.ensures.1
