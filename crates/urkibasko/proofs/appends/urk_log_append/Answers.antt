use Rattle.std.proofs.Common.{◌≡◌, sym, ap, subst, ◌∙◌}
use Rattle.std.specs.Prelude.{Result, Ok, Err, IfOk}
use Rattle.refusal.specs.declared.Rule.{Rule}
use Rattle.refusal.proofs.Laws.{number-some}
use Rattle.appending.specs.Appended.{Appended}
use Rattle.appending.specs.Promises.{Appends}
use Rattle.appending.specs.Told.{appended_is, appended_told}
use Rattle.appending.specs.declared.Appended as A
use Rattle.urkibasko.specs.Appends.{of_appended_c}
use Rattle.urkibasko.specs.declared.answers.UrkAppended.{UrkAppended}
use Rattle.urkibasko.proofs.appends.urk_log_append.Goals as goal

-- what holds on success holds of the answer in numbers, where its refusal is 0
on_success : (P : Appended → Type 0) (r : Result A.Appended Rule) → IfOk r (λ (a : A.Appended). P (appended_is a)) → (appended_told r).refusal ≡ 0 → P (appended_told r)
on_success P (Ok a) h z = h
on_success P (Err rule) h z = absurd (number-some rule z)

pub returns-clause-appends : goal.returns-clause-appends
returns-clause-appends c = λ log t z.
    let done = c.log_append in
    let promised = λ (x : Appended). Appends log c.args.n c.args.numbers.now c.args.pages.now x done.new.tail done.new.out in
    subst (λ (x : UrkAppended). promised (of_appended_c x)) (sym c.appended.ensures)
    (on_success promised done.result (done.ensures.appends log t) (sym (ap (λ (x : UrkAppended). x.refusal) c.appended.ensures) ∙ z))
