use mir.Syntax.{w64}
use mir.ValLaws.{to_z-of_z}
use mathlib.Core.Path.{ap, ◌∙◌}
use Rattle.std.proofs.lemmas.Result.{err_from_is_err_and}
use Rattle.number.specs.Bytes.{bias_of}
use Rattle.cursor.proofs.Ways.{seek-refused, seek-down}
use Rattle.cursor.proofs.find_from.Goals as goal

pub returns-in_err-h : goal.returns-in_err-h
returns-in_err-h c =
    let p = err_from_is_err_and c.from_residual.result c.from_residual.ensures.1 in
    rw (p.1, p.2) (seek-refused _ _ _ c.in_err-h.ensures.refused _)

pub returns : goal.returns
returns c = seek-down c.in_ok-h.ensures.ok _ _ _ (c.bias_of.ensures ∙ ap bias_of (to_z-of_z w64 _ c.ranges.row)) c.from_root.ensures
