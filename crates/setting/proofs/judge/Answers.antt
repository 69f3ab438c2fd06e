use mathlib.Core.Path.{sym, ◌∙◌}
use mir.Syntax.{w64}
use mir.ValLaws.{to_z-of_z}
use Rattle.setting.proofs.Ways as W
use Rattle.setting.proofs.judge.Goals as goal

pub returns-then-reads : goal.returns-then-reads
returns-then-reads c =
    W.fitted _ _ _ _ _ _ _ (sym c.if-may_write.true ∙ c.may_write.ensures) (sym c.if-reads.true ∙ c.reads.ensures) _ (to_z-of_z w64 _ c.ranges.row) _
    c.fit.ensures

pub returns-then-may_write : goal.returns-then-may_write
returns-then-may_write c =
    W.unread _ _ _ _ _ _ _ (sym c.if-may_write.true ∙ c.may_write.ensures) (sym c.if-reads.false ∙ c.reads.ensures) _ c.idle.ensures

pub returns : goal.returns
returns c =
    W.not_there _ _ _ _ _ _ _ (sym c.if-may_write.false ∙ c.may_write.ensures) _ c.idle-2.ensures
