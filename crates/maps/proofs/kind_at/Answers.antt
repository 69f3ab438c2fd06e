use mathlib.Core.Path.{sym, ap, ◌∙◌}
use native.Mathlib.Omega.{arith}
use Rattle.paging.specs.Pages.{lock_page}
use Rattle.maps.proofs.Laws.{kind-lock, kind-none, kind-map, kind-other, past-at}
use Rattle.maps.proofs.kind_at.Goals as goal

pub returns-in_default : goal.returns-in_default
returns-in_default c = λ b h o s u v.
    kind-lock o _ _ (c.requires.0 ∙ ap lock_page s) (λ e. omega arith) c.if-p-lock.true

pub returns-in_default-2 : goal.returns-in_default-2
returns-in_default-2 c = λ b h o s u v.
    kind-map o _ _ (c.requires.0 ∙ ap lock_page s) (λ e. omega arith) c.if-p-lock.false (λ e. c.if-vacuum-ne0.true (v ∙ e))
    (omega arith) _ (past-at c.args.p s u c.past_map.ensures.0) c.if-past_map-eq0.true

pub returns-in_default-3 : goal.returns-in_default-3
returns-in_default-3 c = λ b h o s u v.
    kind-other o _ _ (c.requires.0 ∙ ap lock_page s) (λ e. omega arith) c.if-p-lock.false (λ e. c.if-vacuum-ne0.true (v ∙ e))
    (omega arith) _ (past-at c.args.p s u c.past_map.ensures.0) c.if-past_map-eq0.false

pub returns-in_default-3-2 : goal.returns-in_default-3-2
returns-in_default-3-2 c = λ b h o s u v.
    kind-none o _ _ (c.requires.0 ∙ ap lock_page s) (λ e. omega arith) c.if-p-lock.false (sym v ∙ c.if-vacuum-ne0.false)
