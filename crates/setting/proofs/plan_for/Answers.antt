use mathlib.Core.Path.{◌≡◌, sym, ap, ◌∙◌}
use mathlib.Core.List.{List}
use Prim.Native.Nat.{ℕ}
use lib.IntN.{ℤ}
use mir.Syntax.{w64}
use mir.ValLaws.{to_z-of_z}
use Rattle.std.specs.Prelude.{Option, Ok}
use Rattle.lookup.specs.declared.At.{At}
use Rattle.lookup.specs.Found.{told_found}
use Rattle.lookup.specs.Answers.{lookup_of}
use Rattle.setting.specs.Answers.{idle}
use Rattle.setting.proofs.Ways as W
use Rattle.setting.proofs.plan_for.Goals as goal

-- lookup's answer, where it is Ok
found : (b : List ℕ) (root : ℕ) (row row' : ℤ) (x y : Option At) → x ≡ y → row ≡ row' → told_found (Ok x) ≡ lookup_of b root row → told_found (Ok y) ≡ lookup_of b root row'
found b root row row' x y e k h = sym (ap (λ (x : Option At). told_found (Ok x)) e) ∙ h ∙ ap (lookup_of b root) k

pub judge-requires : goal.judge-requires
judge-requires c =
    let at = c.in-Ok-Some in
    W.found_at _ _ _ _ _ _ (found _ _ _ _ _ _ at.field-0-is (to_z-of_z w64 _ c.ranges.row) at.ensures.answer)

pub returns-in-Ok-None : goal.returns-in-Ok-None
returns-in-Ok-None c =
    let none = c.in-Ok-None in
    W.plan-none _ _ _ _ _ (found _ _ _ _ _ _ none.field-0-is (to_z-of_z w64 _ c.ranges.row) none.ensures.answer) _ c.idle.ensures

pub returns-in-Ok-Some : goal.returns-in-Ok-Some
returns-in-Ok-Some c =
    let at = c.in-Ok-Some in
    W.plan-at _ _ _ _ _ _ _ _ (found _ _ _ _ _ _ at.field-0-is (to_z-of_z w64 _ c.ranges.row) at.ensures.answer) _ (to_z-of_z w64 _ c.ranges.row) _ c.judge.ensures

pub returns-in-Err : goal.returns-in-Err
returns-in-Err c =
    W.plan-refused _ _ _ _ _ _ _ (c.in-Err.ensures.answer ∙ ap (lookup_of c.args.image.now c.args.root) (to_z-of_z w64 _ c.ranges.row)) _
    (c.idle-in-Err.ensures ∙ ap (λ n. idle n c.in-Err.e.page) c.number.ensures)
