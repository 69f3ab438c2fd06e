use mathlib.Core.Path.{sym, ◌∙◌}
use Rattle.ledger.proofs.Ways.{key-went, key-bad}
use Rattle.ledger.proofs.take_key.Goals as goal

pub returns-then-not-is_before_key : goal.returns-then-not-is_before_key
returns-then-not-is_before_key c = λ n b ks ns.
    let a = c.args in
    key-bad n b ks ns a.t a.page a.value (sym (c.is_before_key.ensures b) ∙ c.if-not-is_before_key.true)

pub returns : goal.returns
returns c = λ n b ks ns.
    let a = c.args in
    key-went n b ks ns a.t a.page a.value (sym (c.is_before_key.ensures b) ∙ c.if-not-is_before_key.false)
