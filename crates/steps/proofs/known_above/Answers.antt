use mathlib.Core.Path.{refl, sym, ap, ◌∙◌}
use native.Mathlib.Omega.{arith}
use Rattle.dealing.specs.Steps.{step_by}
use Rattle.steps.proofs.Laws.{step_fits, entry-fits}
use Rattle.steps.proofs.known_above.Goals as goal
use Rattle.steps.proofs.known_above.Goals.{then-up-p, else-up-p}

pub overflow_add-result : goal.overflow_add-result
overflow_add-result c =
    let e = c.requires.0 in
    elim c.if-up-p.branch [
      | then-up-p w ↦
          omega (
            arith,
            e.few,
            step_fits e.rooted e.low e.high _ refl c.if-up-eq0.false _
                (w.above-is ∙ c.requires.1 (omega arith) ∙ ap (step_by _ _) (sym w.if-up-p.true)),
          )
      | else-up-p w ↦ omega (arith, e.few, w.above-is, entry-fits e.rooted e.low e.high _ refl c.if-up-eq0.false e.some)
    ]
