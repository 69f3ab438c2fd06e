use mathlib.Core.Path.{◌∙◌}
use Rattle.cell.proofs.SplitLaws.{local-all, local-full, local-least}
use Rattle.cell.proofs.local_size.Goals as goal

pub returns-then-payload-most : goal.returns-then-payload-most
returns-then-payload-most c = local-all _ _ _ (rw c.max_local-most.ensures at c.if-payload-most.true)

pub returns-then-full-most : goal.returns-then-full-most
returns-then-full-most c =
    rw c.min_local-least.ensures (local-full _ _ _
    (rw c.max_local-most.ensures at c.if-payload-most.false)
    (rw (c.max_local-most.ensures, c.min_local-least.ensures) at c.if-full-most.true))

pub returns : goal.returns
returns c =
    c.min_local-least.ensures ∙ local-least _ _ _
    (rw c.max_local-most.ensures at c.if-payload-most.false)
    (rw (c.max_local-most.ensures, c.min_local-least.ensures) at c.if-full-most.false)
