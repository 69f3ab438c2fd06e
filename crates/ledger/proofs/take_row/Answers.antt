use mathlib.Core.Path.{sym, ◌∙◌}
use Rattle.ledger.proofs.Ways.{row-none, row-went, row-bad}
use Rattle.ledger.proofs.take_row.Goals as goal

pub returns-then-not-table : goal.returns-then-not-table
returns-then-not-table c = λ n b ks ns. let a = c.args in row-none n b ks ns a.t a.table a.page a.row c.if-not-table.true

pub returns-then-not-is_before_row : goal.returns-then-not-is_before_row
returns-then-not-is_before_row c = λ n b ks ns.
    let a = c.args in
    row-bad n b ks ns a.t a.table a.page a.row c.if-not-table.false (sym (c.is_before_row.ensures b) ∙ c.if-not-is_before_row.true)

pub returns : goal.returns
returns c = λ n b ks ns.
    let a = c.args in
    row-went n b ks ns a.t a.table a.page a.row c.if-not-table.false (sym (c.is_before_row.ensures b) ∙ c.if-not-is_before_row.false)
