use borrow.Author.Tests.{ne_eqb}
use mathlib.Core.Path.{sym, ◌∙◌}
use native.Mathlib.Omega.{arith}
use Rattle.cells.proofs.ReadingLaws.{fill-past, fill-ends}
use Rattle.cells.proofs.types_fill.Goals as goal

pub returns-then-at-header : goal.returns-then-at-header
returns-then-at-header c = sym (c.loop-at.invariant.1 ∙ fill-ends _ _ _ _ _ (omega (arith, c.if-at-header.true)))

pub returns-else-at-header : goal.returns-else-at-header
returns-else-at-header c =
    let l = c.loop-at-test.false in let n = c.if-at-header.false in ne_eqb _ _ n ∙ sym (c.loop-at.invariant.1 ∙ fill-past _ _ _ _ _ (omega arith))
