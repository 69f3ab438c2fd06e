-- Laws of the run, for the proofs of code that makes it: a run of one list and then another, and each way in which one event goes.
use mathlib.Core.Path.{◌≡◌, refl, sym, ◌∙◌}
use mathlib.Core.Bool.{Bool, true, false}
use mathlib.Core.Logic.{◌≢◌}
use mathlib.Core.Option.{none, some}
use mathlib.Core.List.{List, [], ◌∷◌, ◌++◌}
use Prim.Native.Nat.{ℕ, zero, suc, ◌-◌, ◌≤◌, ◌<◌}
use native.Mathlib.Omega.{arith}
use lib.ListN.{get_or}
use borrow.Author.Tests.{eq-eqb, ne_eqb, le-leb, lt-leb}
use Rattle.order.specs.Order.{Value}
use Rattle.dealing.specs.Good.{a_row, a_key, a_record}
use Rattle.dealing.specs.Walk.{follows, Event, start, name, fail, row, key, leaf, entry, check, faults, State, Outcome, went, refused}
use Rattle.dealing.specs.Walk.{enter, order, at_leaf, even, step, and_then, run}

then-assoc : (o : Outcome) (k h : State → Outcome) → and_then (and_then o k) h ≡ and_then o (λ s. and_then (k s) h)
unfolding and_then
then-assoc (went s) k h = refl
then-assoc (refused n p) k h = refl

then_same : (o : Outcome) (k h : State → Outcome) → ((s : State) → k s ≡ h s) → and_then o k ≡ and_then o h
unfolding and_then
then_same (went s) k h e = e s
then_same (refused n p) k h e = refl

module _ (N : ℕ) where
  pub run-append : (s : State) (a b : List Event) → run N s (a ++ b) ≡ and_then (run N s a) (λ s'. run N s' b)
  unfolding run
  run-append s [] b = unfold and_then in refl
  run-append s (e ∷ a) b =
      then_same (step N s e) (λ s'. run N s' (a ++ b)) (λ s'. and_then (run N s' a) (λ s''. run N s'' b)) (λ s'. run-append s' a b)
      ∙ sym (then-assoc (step N s e) (λ s'. run N s' a) (λ s'. run N s' b))

  -- a run of a and then b: where a goes through, and where a stops
  pub then-went : (s s' : State) (a b : List Event) → run N s a ≡ went s' → run N s (a ++ b) ≡ run N s' b
  unfolding and_then
  then-went s s' a b e = run-append s a b ∙ rw e

  pub then-refused : (s : State) (x p : ℕ) (a b : List Event) → run N s a ≡ refused x p → run N s (a ++ b) ≡ refused x p
  unfolding and_then
  then-refused s x p a b e = run-append s a b ∙ rw e

  -- and back: what went through, went through in its parts
  pub went-split : (s s' : State) (a b : List Event) → run N s (a ++ b) ≡ went s' → (s₁ : State) × (run N s a ≡ went s₁) × (run N s₁ b ≡ went s')
  unfolding and_then
  went-split s s' a b e = go (run N s a) refl (sym (run-append s a b) ∙ e)
    where
      go : (o : Outcome) → run N s a ≡ o → and_then o (λ s₁. run N s₁ b) ≡ went s' → (s₁ : State) × (run N s a ≡ went s₁) × (run N s₁ b ≡ went s')
      go (went s₁) k e = (s₁, k, e)
      go (refused x p) k e = absurd (let z : ◌≡◌ {A = ℕ} 0 1 = cc in omega arith)

  pub run_none : (s : State) → run N s [] ≡ went s
  unfolding run
  run_none s = refl

  module _ (s : State) (es : List Event) where
    pub run-check-passed : (b : Bool) (n p : ℕ) → b ≡ true → run N s (check b n p ++ es) ≡ run N s es
    run-check-passed b n p e = rw e

    pub run-check-failed : (b : Bool) (n p : ℕ) → b ≡ false → run N s (check b n p ++ es) ≡ refused n p
    unfolding run step and_then
    run-check-failed b n p e = rw e

    pub run-fit : (n p : ℕ) → n ≡ 0 → run N s (faults n p ++ es) ≡ run N s es
    run-fit n p e = rw e

    pub run-fault : (n p : ℕ) → n ≢ 0 → run N s (faults n p ++ es) ≡ refused n p
    unfolding run step and_then
    run-fault zero p e = absurd (e refl)
    run-fault (suc n) p e = refl

    pub run-fail : (n p : ℕ) → run N s (fail n p ∷ es) ≡ refused n p
    unfolding run step and_then
    run-fail n p = refl

    pub run-start : run N s (start ∷ es) ≡ run N (at_leaf (order s none) 0) es
    unfolding run step and_then
    run-start = refl

    pub run-zero : (h k : ℕ) → run N s (name h 0 k ∷ es) ≡ refused 20 h
    unfolding run step and_then
    run-zero h k = refl

    pub run-far : (h t k : ℕ) → N < t → run N s (name h t k ∷ es) ≡ refused 20 h
    unfolding run step and_then
    run-far h zero k n = refl
    run-far h (suc t) k n = rw (lt-leb (suc t) N n)

    pub run-twice : (h t k : ℕ) → 1 ≤ t → t ≤ N → get_or s.kinds (t - 1) 0 ≢ 0 → run N s (name h t k ∷ es) ≡ refused 21 t
    unfolding run step and_then
    run-twice h zero k a b n = absurd (omega arith)
    run-twice h (suc t) k a b n = rw (le-leb (suc t) N b, ne_eqb (get_or s.kinds (suc t - 1) 0) 0 n)

    pub run-name : (h t k : ℕ) → 1 ≤ t → t ≤ N → get_or s.kinds (t - 1) 0 ≡ 0 → run N s (name h t k ∷ es) ≡ run N (enter s h t k) es
    unfolding run step and_then
    run-name h zero k a b n = absurd (omega arith)
    run-name h (suc t) k a b n = rw (le-leb (suc t) N b, eq-eqb (get_or s.kinds (suc t - 1) 0) 0 n)

    pub run_row : (p r : ℕ) → follows s.last (a_row r) ≡ true → run N s (row p r ∷ es) ≡ run N (order s (some (a_row r))) es
    unfolding run step and_then
    run_row p r h = rw h

    pub run-row-bad : (p r : ℕ) → follows s.last (a_row r) ≡ false → run N s (row p r ∷ es) ≡ refused 25 p
    unfolding run step and_then
    run-row-bad p r h = rw h

    pub run-key : (p k : ℕ) → follows s.last (a_key k) ≡ true → run N s (key p k ∷ es) ≡ run N (order s (some (a_key k))) es
    unfolding run step and_then
    run-key p k h = rw h

    pub run-key-bad : (p k : ℕ) → follows s.last (a_key k) ≡ false → run N s (key p k ∷ es) ≡ refused 25 p
    unfolding run step and_then
    run-key-bad p k h = rw h

    pub run-entry : (p : ℕ) (v : List Value) → follows s.last (a_record v) ≡ true → run N s (entry p v ∷ es) ≡ run N (order s (some (a_record v))) es
    unfolding run step and_then
    run-entry p v h = rw h

    pub run-entry-bad : (p : ℕ) (v : List Value) → follows s.last (a_record v) ≡ false → run N s (entry p v ∷ es) ≡ refused 33 p
    unfolding run step and_then
    run-entry-bad p v h = rw h

    pub run-leaf-first : (p l : ℕ) → s.leaf_at ≡ 0 → run N s (leaf p l ∷ es) ≡ run N (at_leaf s l) es
    unfolding run step and_then
    run-leaf-first p l e = rw e

    pub run-leaf : (p l : ℕ) → s.leaf_at ≢ 0 → s.leaf_at ≡ l → run N s (leaf p l ∷ es) ≡ run N (at_leaf s l) es
    unfolding run step and_then
    run-leaf p l z e = rw (even-yes s.leaf_at l e)
      where
        even-yes : (a l : ℕ) → a ≡ l → even a l ≡ true
        even-yes zero l e = refl
        even-yes (suc a) l e = eq-eqb (suc a) l e

    pub run-leaf-bad : (p l : ℕ) → s.leaf_at ≢ 0 → s.leaf_at ≢ l → run N s (leaf p l ∷ es) ≡ refused 24 p
    unfolding run step and_then
    run-leaf-bad p l z e = rw (even-no s.leaf_at l z e)
      where
        even-no : (a l : ℕ) → a ≢ 0 → a ≢ l → even a l ≡ false
        even-no zero l z e = absurd (z refl)
        even-no (suc a) l z e = ne_eqb (suc a) l e

  -- a page that is in range and has no kind yet is entered
  pub name-enters : (s : State) (h t k : ℕ) → 1 ≤ t → t ≤ N → get_or s.kinds (t - 1) 0 ≡ 0 → run N s (name h t k ∷ []) ≡ went (enter s h t k)
  name-enters s h t k a b e = run-name s [] h t k a b e ∙ run_none (enter s h t k)
