use mathlib.Core.Path.{sym, ◌∙◌}
use native.Mathlib.Omega.{arith}
use Rattle.quick.proofs.Laws.{look-none, look-fault, look-cell, look-other}
use Rattle.quick.proofs.look.Goals as goal

pub returns-in-None-clause-refused : goal.returns-in-None-clause-refused
returns-in-None-clause-refused c = look-none _ _ _ _ _ c.requires.0.page.type c.in-None.ensures.place

pub read_cell-c-requires : goal.read_cell-c-requires
read_cell-c-requires c =
    let o = c.requires.0 in
    let l = c.in-Some.ensures.below in
    (o.page.least, o.page.most, o.page.whole, omega arith)

pub returns-then-c-eq26-clause-refused : goal.returns-then-c-eq26-clause-refused
returns-then-c-eq26-clause-refused c =
    sym c.if-c-eq26.true ∙ look-fault _ _ _ _ _ c.requires.0.page.type _ c.in-Some.ensures.place _ c.read_cell-c.ensures

pub returns-then-c-ne0-clause-refused : goal.returns-then-c-ne0-clause-refused
returns-then-c-ne0-clause-refused c =
    let o = c.requires.0 in
    look-other _ _ _ _ _ o.page.type _ c.in-Some.ensures.place _ c.read_cell-c.ensures o.page.least c.if-c-ne0.true c.if-c-eq26.false

pub returns-else-c-ne0-clause-read : goal.returns-else-c-ne0-clause-read
returns-else-c-ne0-clause-read c =
    look-cell _ _ _ _ _ c.requires.0.page.type _ c.in-Some.ensures.place _ c.read_cell-c.ensures c.if-c-ne0.false
