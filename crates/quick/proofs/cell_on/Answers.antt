use mathlib.Core.Path.{refl, sym, ◌∙◌}
use native.Mathlib.Omega.{arith}
use Rattle.quick.proofs.Laws.{pick-22, pick-46, pick-fault}
use Rattle.quick.proofs.cell_on.Goals as goal

pub returns-then-not-suits-clause-refused : goal.returns-then-not-suits-clause-refused
returns-then-not-suits-clause-refused c =
    let a = c.args in
    pick-22 a.p.now a.u a.head a.page a.i _ (sym c.suits.ensures ∙ c.if-not-suits.true) refl

pub returns-then-be16-i-clause-refused : goal.returns-then-be16-i-clause-refused
returns-then-be16-i-clause-refused c =
    let a = c.args in
    pick-46 a.p.now a.u a.head a.page a.i _ (sym c.suits.ensures ∙ c.if-not-suits.false) (omega arith) c.into.ensures

pub returns-in-Ok-clause-read : goal.returns-in-Ok-clause-read
returns-in-Ok-clause-read c =
    record { fits = sym c.suits.ensures ∙ c.if-not-suits.false; index = omega arith; looked = c.in-Ok.ensures.read }

pub returns-in-Err-clause-refused : goal.returns-in-Err-clause-refused
returns-in-Err-clause-refused c =
    let a = c.args in
    pick-fault a.p.now a.u a.head a.page a.i _ (sym c.suits.ensures ∙ c.if-not-suits.false) (omega arith) c.in-Err.ensures.refused refl
