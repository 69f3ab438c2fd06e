-- Steps told from namers: by the ledgers of a good dealing they are the dealing's steps.
use mathlib.Core.Path.{◌≡◌, refl, sym, ◌∙◌, ap}
use mathlib.Core.Bool.{Bool, true, false, cond}
use mathlib.Core.Logic.{◌≢◌, ◌⊎◌, inl, inr, ⊎_elim}
use mathlib.Core.List.{List, [], ◌∷◌, ◌++◌}
use Prim.Native.Nat.{ℕ, zero, suc, ◌+◌, ◌-◌, ◌≤◌}
use native.Mathlib.Omega.{arith}
use native.Mathlib.Decide.{ℕ_discrete}
use lib.Dec.{eqb}
use lib.ListN.{length, get_or, length-append, get_or-append}
use lib.Seq.{get_or-append-add}
use borrow.Author.Tests.{eq-eqb, ne_eqb}
use Rattle.dealing.specs.File.{File, Page, Nameable, Fixed}
use Rattle.dealing.specs.Good.{Dealing, Good}
use Rattle.dealing.specs.Steps.{namer_by, step_by, steps_to, steps_by, Rooted}
use Rattle.dealing.proofs.Unique.{first-or, named_by, step-0, deep}

-- no step is past the fuel
pub step-most : (ns : List ℕ) (k p : ℕ) → step_by ns k p ≤ k
unfolding step_by
step-most ns zero p = omega arith
step-most ns (suc k) p = go (eqb (namer_by ns p) 0) (step_by ns k (namer_by ns p)) (step-most ns k (namer_by ns p))
  where
    go : (t : Bool) (x : ℕ) → x ≤ k → cond t 0 (suc x) ≤ suc k
    go true x h = omega arith
    go false x h = omega arith

-- a page with no namer
pub step-none : (ns : List ℕ) (k p : ℕ) → namer_by ns p ≡ 0 → step_by ns k p ≡ 0
unfolding step_by
step-none ns zero p e = refl
step-none ns (suc k) p e = rw (eq-eqb (namer_by ns p) 0 e) refl

-- the ledger of steps has an entry a page, and which
pub steps-long : (ns : List ℕ) (k n : ℕ) → length (steps_to ns k n) ≡ n
unfolding steps_to
steps-long ns k zero = refl
steps-long ns k (suc n) = length-append (steps_to ns k n) (step_by ns k (suc n) ∷ []) ∙ let e = steps-long ns k n in omega arith

pub steps-at : (ns : List ℕ) (k n p : ℕ) → 1 ≤ p → p ≤ n → get_or (steps_to ns k n) (p - 1) 0 ≡ step_by ns k p
unfolding steps_to
steps-at ns k zero p a b = absurd (omega arith)
steps-at ns k (suc n) p a b = go (ℕ_discrete p (suc n)) (λ h. steps-at ns k n p a h)
  where
    l : length (steps_to ns k n) ≡ n
    l = steps-long ns k n

    go : Dec (p ≡ suc n) → (p ≤ n → get_or (steps_to ns k n) (p - 1) 0 ≡ step_by ns k p)
        → get_or (steps_to ns k n ++ (step_by ns k (suc n) ∷ [])) (p - 1) 0 ≡ step_by ns k p
    go (yes e) below =
        let i : p - 1 ≡ length (steps_to ns k n) + 0 = omega (arith, l) in
        ap (λ j. get_or (steps_to ns k n ++ (step_by ns k (suc n) ∷ [])) j 0) i ∙ get_or-append-add (steps_to ns k n) (step_by ns k (suc n) ∷ []) 0 0
        ∙ ap (step_by ns k) (sym e)
    go (no e) below = get_or-append (steps_to ns k n) (step_by ns k (suc n) ∷ []) 0 (p - 1) (omega (arith, l)) ∙ below (omega arith)

-- a good dealing's namers
module _ (f : File) (d : Dealing) (g : Good f d) (ns : List ℕ) (are : (p : ℕ) → Page f p → namer_by ns p ≡ d.namer p) where
  none : (k p : ℕ) → Page f p → d.namer p ≡ 0 → d.step p ≡ 0 → step_by ns k p ≡ d.step p
  none k p h e z = step-none ns k p (are p h ∙ e) ∙ sym z

  first : (k p : ℕ) → Page f p → (p ≡ 1) ⊎ Fixed f p → step_by ns k p ≡ d.step p
  first k p h (inl e) = none k p h (ap d.namer e ∙ g.namer_1) (ap d.step e ∙ g.step_1)
  first k p h (inr x) = let a = g.placed p x in none k p h a.1 a.2

  some : (p : ℕ) → Page f p → Nameable f p → namer_by ns p ≢ 0
  some p h l z = omega (arith, (named_by f d g p l).page.0, are p h)

  -- with fuel for its step, a page's step is told
  step-told : (k p : ℕ) → Page f p → d.step p ≤ k → step_by ns k p ≡ d.step p
  unfolding step_by
  step-told zero p h l = first zero p h (step-0 f d g p h (omega arith))
  step-told (suc k) p h l = go (step-told k) (first-or f d g p h)
    where
      go : ((q : ℕ) → Page f q → d.step q ≤ k → step_by ns k q ≡ d.step q) → (p ≡ 1) ⊎ (Fixed f p ⊎ Nameable f p) → step_by ns (suc k) p ≡ d.step p
      go told (inl e) = first (suc k) p h (inl e)
      go told (inr (inl x)) = first (suc k) p h (inr x)
      go told (inr (inr x)) =
          let e : d.step p ≡ suc (d.step (d.namer p)) = g.steps p x in
          rw (ne_eqb (namer_by ns p) 0 (some p h x))
          (ap (λ q. suc (step_by ns k q)) (are p h) ∙ ap suc (told (d.namer p) (named_by f d g p x).page (omega arith)) ∙ sym e)

  -- as many times as there are pages are enough
  pub step_is : (p : ℕ) → Page f p → step_by ns f.N p ≡ d.step p
  step_is p h = let l = deep f d g p h in step-told f.N p h (omega arith)

  pub steps-are : (p : ℕ) → Page f p → get_or (steps_by ns f.N) (p - 1) 0 ≡ d.step p
  steps-are p h = steps-at ns f.N f.N p h.0 h.1 ∙ step_is p h

  pub rooted : length ns ≡ f.N → Rooted ns f.N
  rooted l =
      record {
        long = l;
        range =
            λ p a b. ⊎_elim (λ e. omega (arith, are p (a, b), ap d.namer e, g.namer_1))
            (λ x. ⊎_elim (λ y. omega (arith, are p (a, b), (g.placed p y).1)) (λ y. omega (arith, are p (a, b), (named_by f d g p y).page.1)) x)
            (first-or f d g p (a, b));
        next =
            λ p a b n. ⊎_elim (λ e. absurd (n (are p (a, b) ∙ ap d.namer e ∙ g.namer_1)))
            (λ x. ⊎_elim (λ y. absurd (n (are p (a, b) ∙ (g.placed p y).1))) (λ y. onward p (a, b) y) x) (first-or f d g p (a, b));
      }
    where
      onward : (p : ℕ) → Page f p → Nameable f p → step_by ns f.N p ≡ suc (step_by ns f.N (namer_by ns p))
      onward p h y =
          step_is p h ∙ g.steps p y ∙ ap suc (sym (step_is (d.namer p) (named_by f d g p y).page))
          ∙ ap (λ q. suc (step_by ns f.N q)) (sym (are p h))
