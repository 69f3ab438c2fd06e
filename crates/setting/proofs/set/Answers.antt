use mathlib.Core.Path.{sym, subst}
use Rattle.setting.specs.Answers.{Planned}
use mir.Syntax.{w64}
use mir.ValLaws.{to_z-of_z}
use Rattle.setting.proofs.Ways as W
use Rattle.setting.proofs.set.Goals as goal
use Rattle.setting.proofs.set.Goals.{After-plan_for-p}

planned : (c : After-plan_for-p) → let a = c.args in Planned a.image.now a.kinds.now a.root a.row a.fresh.now c.plan_for-p.result
planned c =
    let a = c.args in
    subst (λ m. Planned a.image.now a.kinds.now a.root m a.fresh.now c.plan_for-p.result) (to_z-of_z w64 _ c.ranges.row) c.plan_for-p.ensures

pub returns-then-p-clause-untouched : goal.returns-then-p-clause-untouched
returns-then-p-clause-untouched c =
    let p = planned (goal.at.returns-then-p-clause-untouched c).After-plan_for-p in
    W.untouched _ _ _ _ _ _ _ p.answer (W.set-done _ _ _ _ _ _ _ _ (to_z-of_z w64 _ c.ranges.row) c.relay.ensures (p.ready c.if-p.true).0)

pub returns-then-p-clause-good : goal.returns-then-p-clause-good
returns-then-p-clause-good c =
    let p = planned (goal.at.returns-then-p-clause-good c).After-plan_for-p in
    W.meant _ _ _ _ _ _ _ c.ranges.row p.answer
    (W.set-done _ _ _ _ _ _ _ _ (to_z-of_z w64 _ c.ranges.row) c.relay.ensures (p.ready c.if-p.true).0)

pub returns-clause-good : goal.returns-clause-good
returns-clause-good c =
    let p = planned (goal.at.returns-clause-good c).After-plan_for-p in
    W.meant _ _ _ _ _ _ _ c.ranges.row p.answer (sym (p.rest c.if-p.false))
