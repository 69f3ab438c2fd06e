use borrow.Author.Rules.{rules}
use mathlib.Core.Path.{refl, sym, ap, ◌∙◌}
use Rattle.std.specs.Prelude.{Ok}
use Rattle.quick.specs.declared.Step.{Step}
use Rattle.quick.specs.Step.{told_step}
use Rattle.quick.proofs.Laws.{down-deep, down-refused, down-nothing, down-cell, down-lost, down-child}
use Rattle.quick.proofs.+descend.Goals as goal

pub returns-then-levels-eq0 : goal.returns-then-levels-eq0
returns-then-levels-eq0 t c = search (down-deep, rules)

pub returns-in-Err : goal.returns-in-Err
returns-in-Err t c = down-refused c.requires _ _ c.if-levels-eq0.false _ c.in-Err.ensures _ refl

pub returns-in-Ok-Nothing : goal.returns-in-Ok-Nothing
returns-in-Ok-Nothing t c =
    let step = c.in-Ok-Nothing in
    down-nothing c.requires _ _ c.if-levels-eq0.false _ step.ensures (ap (λ (s : Step). told_step (Ok s)) step.field-0-is)

pub returns-in-Ok-Cell : goal.returns-in-Ok-Cell
returns-in-Ok-Cell t c =
    let step = c.in-Ok-Cell in
    down-cell c.requires _ _ c.if-levels-eq0.false _ step.ensures _ _ (ap (λ (s : Step). told_step (Ok s)) step.field-0-is)

pub returns-then-not-has_page : goal.returns-then-not-has_page
returns-then-not-has_page t c =
    let step = c.in-Ok-Child in
    down-lost c.requires _ _ c.if-levels-eq0.false _ step.ensures _ (ap (λ (s : Step). told_step (Ok s)) step.field-0-is)
    (sym c.has_page.ensures ∙ c.if-not-has_page.true)

pub returns-else-not-has_page : goal.returns-else-not-has_page
returns-else-not-has_page t c =
    let step = c.in-Ok-Child in
    down-child c.requires _ _ c.if-levels-eq0.false _ step.ensures _ (ap (λ (s : Step). told_step (Ok s)) step.field-0-is) _
    (sym c.has_page.ensures ∙ c.if-not-has_page.false) c.descend.ensures
