use mathlib.Core.Path.{sym, ◌∙◌}
use Rattle.std.proofs.lemmas.Result.{err_from_is_err_and}
use Rattle.refusal.specs.Rule.{number_of}
use Rattle.header.proofs.Laws.{told-number, told-stops}
use Rattle.image.proofs.Shape.{opened_of}
use Rattle.lookup.proofs.Ways.{page-in-range, open-headed, open-far}
use Rattle.lookup.proofs.open_at.Goals as goal

pub returns-in_err-h : goal.returns-in_err-h
returns-in_err-h c =
    let p = err_from_is_err_and c.from_residual.result c.from_residual.ensures.1 in
    let e = c.in_err-h.ensures in
    rw (p.1, p.2) record { ok = tt; refused = open-headed _ c.args.p (number_of c.args.missing) _ (told-number c.args.image.now _ e) (told-stops c.args.image.now c.in_err-h.field-0.0 e) }

pub returns-then-not-has_page : goal.returns-then-not-has_page
returns-then-not-has_page c =
    record { ok = tt; refused = open-far _ _ (opened_of _ c.in_ok-h.ensures) (sym c.has_page.ensures ∙ c.if-not-has_page.true) }

pub returns : goal.returns
returns c = record { ok = page-in-range _ (opened_of _ c.in_ok-h.ensures) (sym c.has_page.ensures ∙ c.if-not-has_page.false); refused = tt }
