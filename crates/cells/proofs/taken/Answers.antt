use mathlib.Core.Path.{sym, ◌∙◌}
use Rattle.cells.proofs.ReadingLaws.{taken_refused, taken-over, taken_is}
use Rattle.cells.proofs.taken.Goals as goal

pub returns-then-refuses : goal.returns-then-refuses
returns-then-refuses c = taken_refused _ _ _ _ (sym c.refuses.ensures ∙ c.if-refuses.true)

pub returns-then-end-place : goal.returns-then-end-place
returns-then-end-place c =
    taken-over _ _ _ _ (sym c.refuses.ensures ∙ c.if-refuses.false) _ c.size_of-size.ensures c.if-end-place.true

pub returns : goal.returns
returns c =
    taken_is _ _ _ _ (sym c.refuses.ensures ∙ c.if-refuses.false) _ c.size_of-size.ensures c.if-end-place.false
