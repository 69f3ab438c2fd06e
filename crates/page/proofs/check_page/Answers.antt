use mathlib.Core.Path.{refl, sym, ◌∙◌}
use Rattle.std.proofs.lemmas.Result.{err_from_is_err_and}
use Rattle.refusal.proofs.Laws.{number-some}
use Rattle.page.proofs.Ways.{checked-type, checked-fault, checked-page}
use Rattle.page.proofs.check_page.Goals as goal

pub returns-then-not-suits : goal.returns-then-not-suits
returns-then-not-suits c = (checked-type _ _ _ _ (sym c.suits.ensures ∙ c.if-not-suits.true), λ j l. refl)

pub returns-in_err-soundness : goal.returns-in_err-soundness
returns-in_err-soundness c =
    let fits = sym c.suits.ensures ∙ c.if-not-suits.false in
    let r = c.in_err-soundness.ensures.refused in
    let p = err_from_is_err_and c.from_residual.result c.from_residual.ensures.1 in
    rw (p.1, p.2) (checked-fault _ _ _ _ fits _ r.is (number-some _), r.past)

pub returns : goal.returns
returns c =
    let fits = sym c.suits.ensures ∙ c.if-not-suits.false in
    let r = c.in_ok-soundness.ensures.sound in
    (checked-page _ _ _ _ fits _ r.is refl _ _ c.be16.ensures.0 c.right_pointer-right.ensures, r.past)
