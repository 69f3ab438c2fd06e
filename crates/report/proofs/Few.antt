-- Distinct numbers below a bound are no more than the bound.
-- Assumes nothing.
use Rattle.std.proofs.Common.{◌≡◌, ℕ, zero, suc, ◌<◌, ◌≤◌, Bool, true, false, cond, eqb, ◌≢◌, List, [], ◌∷◌, length, sym, refl, ◌∙◌, arith, eqb-true}
use mathlib.Core.List.Memᴰ.{head as here}
use mathlib.Core.List.Memᴰ.{tail as there}
use mathlib.Core.List.{Memᴰ as Mem}
use borrow.Author.Tests.{eqb-false}

abbrev pub Distinct : List ℕ → Type 0
Distinct [] = Unit {0}
Distinct (x ∷ xs) = ((y : ℕ) → Mem y xs → y ≢ x) × Distinct xs

-- a list without a number
unfoldable without : ℕ → List ℕ → List ℕ
without n [] = []
without n (x ∷ xs) = cond (eqb x n) (without n xs) (x ∷ without n xs)

module _ (n : ℕ) where
  -- what is left was there, and is another number
  still : (xs : List ℕ) (y : ℕ) → Mem y (without n xs) → Mem y xs × (y ≢ n)
  unfolding without
  still [] y m = elim m [ ]
  still (x ∷ xs) y m = go (eqb x n) refl m (still xs y)
    where
      go : (t : Bool) → eqb x n ≡ t → Mem y (cond t (without n xs) (x ∷ without n xs)) → (Mem y (without n xs) → Mem y xs × (y ≢ n)) → Mem y (x ∷ xs) × (y ≢ n)
      go true e m ih = let w = ih m in (there w.0, w.1)
      go false e (here k) ih = (here k, λ z. eqb-false x n e (sym k ∙ z))
      go false e (there m) ih = let w = ih m in (there w.0, w.1)

  still-distinct : (xs : List ℕ) → Distinct xs → Distinct (without n xs)
  unfolding without
  still-distinct [] d = tt
  still-distinct (x ∷ xs) d = go (eqb x n) (still-distinct xs d.1)
    where
      go : (t : Bool) → Distinct (without n xs) → Distinct (cond t (without n xs) (x ∷ without n xs))
      go true ih = ih
      go false ih = (λ y m. d.0 y (still xs y m).0, ih)

  -- a number that is not there takes nothing away
  all_stay : (xs : List ℕ) → ((y : ℕ) → Mem y xs → y ≢ n) → length xs ≤ length (without n xs)
  unfolding without
  all_stay [] h = omega arith
  all_stay (x ∷ xs) h = go (eqb x n) refl (all_stay xs (λ y m. h y (there m)))
    where
      go : (t : Bool) → eqb x n ≡ t → length xs ≤ length (without n xs) → suc (length xs) ≤ length (cond t (without n xs) (x ∷ without n xs))
      go true e ih = absurd (h x (here refl) (eqb-true x n e))
      go false e ih = omega arith

  -- one that is there once takes one
  one_less : (xs : List ℕ) → Distinct xs → length xs ≤ suc (length (without n xs))
  unfolding without
  one_less [] d = omega arith
  one_less (x ∷ xs) d = go (eqb x n) refl (one_less xs d.1)
    where
      go : (t : Bool) → eqb x n ≡ t → length xs ≤ suc (length (without n xs)) → suc (length xs) ≤ suc (length (cond t (without n xs) (x ∷ without n xs)))
      go true e ih = let w = all_stay xs (λ y m z. d.0 y m (z ∙ sym (eqb-true x n e))) in omega arith
      go false e ih = omega arith

pub few : (bound : ℕ) (xs : List ℕ) → Distinct xs → ((y : ℕ) → Mem y xs → y < bound) → length xs ≤ bound
few zero [] d h = omega arith
few zero (x ∷ xs) d h = absurd (let w = h x (here refl) in omega arith)
few (suc n) xs d h =
    let w = few n (without n xs) (still-distinct n xs d) (λ y m. let s = still n xs y m in let l = h y s.0 in below y s.1 l) in
    let u = one_less n xs d in
    omega arith
  where
    below : (y : ℕ) → y ≢ n → y < suc n → y < n
    below y e l = omega arith
