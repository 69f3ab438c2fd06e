use mathlib.Core.Bool.{not}
use mathlib.Core.Path.{sym, ap, ◌∙◌}
use lib.Dec.{eqb}
use borrow.Author.Tests.{eq-eqb}
use Rattle.header.proofs.Tests.{no-count, count_by}
use Rattle.header.proofs.count_holds.Goals as goal

pub returns-then-be32-ne0 : goal.returns-then-be32-ne0
returns-then-be32-ne0 c =
    let n = c.be32 in
    count_by _ _ n.ensures _ _ c.if-be32-ne0.true c.be32-then-be32-ne0.ensures c.be32-then-be32-ne0-2.ensures

pub returns-else-be32-ne0 : goal.returns-else-be32-ne0
returns-else-be32-ne0 c =
    let n = c.be32 in
    ap not (eq-eqb _ 0 c.if-be32-ne0.false) ∙ no-count _ _ n.ensures c.if-be32-ne0.false
