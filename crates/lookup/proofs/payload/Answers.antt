use mathlib.Core.Path.{refl}
use Rattle.std.proofs.lemmas.Result.{err_from_is_err_and}
use Rattle.lookup.proofs.Ways.{fetch-refused, page-there}
use Rattle.lookup.proofs.Theorems.{all_three}
use Rattle.lookup.proofs.payload.Goals as goal

pub returns-in_err-h : goal.returns-in_err-h
returns-in_err-h c =
    let p = err_from_is_err_and c.from_residual.result c.from_residual.ensures.1 in
    rw (p.1, p.2) (all_three _ _ _ (fetch-refused _ _ _ _ _ c.in_err-h.ensures.refused) refl)

pub returns : goal.returns
returns c =
    let done = c.fetch_at in
    all_three _ _ _ (page-there _ _ _ _ c.in_ok-h.ensures.ok _ done.ensures.0) done.ensures.1
