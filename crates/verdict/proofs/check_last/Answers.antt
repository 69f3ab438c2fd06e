use Rattle.std.proofs.lemmas.Result.{err_from_is_err_and}
use mathlib.Core.Path.{◌∙◌}
use Rattle.verdict.proofs.VerdictLaws.{last-stops, last-names}
use Rattle.verdict.proofs.check_last.Goals as goal

pub returns-in_err-check_maps : goal.returns-in_err-check_maps
returns-in_err-check_maps c =
    let q = err_from_is_err_and c.from_residual.result c.from_residual.ensures.1 in
    rw (q.1, q.2) (last-stops _ _ _ _ _ _ c.in_err-check_maps.ensures)

pub returns : goal.returns
returns c = last-names _ _ _ _ c.in_ok-check_maps.ensures ∙ c.check_names.ensures c.args.namers.now
