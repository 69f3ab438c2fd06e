-- The first of n entries of a ledger that is zero.
use mathlib.Core.Path.{◌≡◌, refl, sym, ap, ◌∙◌}
use mathlib.Core.Logic.{◌≢◌}
use mathlib.Core.List.{List, [], ◌∷◌}
use Prim.Native.Nat.{ℕ, zero, suc, ◌+◌, ◌≤◌, ◌<◌}
use native.Mathlib.Omega.{arith}
use lib.ListN.{length, get_or, take, length-take}
use lib.Seq.{take_all}
use Rattle.std.specs.Prelude.{Option, Some, None}
use Rattle.std.specs.List.{AllWithin, HoldsAt}
use Rattle.std.specs.Option.{MatchOption, unwrap_or}
use Rattle.std.proofs.Common.{add-one}
use Rattle.std.proofs.lemmas.Iterator.{index_from_first}
use Rattle.dealing.specs.Walk.{first_zero}
use Rattle.dealing.proofs.WalkLaws.{no_zero}

zero-first : (x : ℕ) (xs : List ℕ) → x ≡ 0 → first_zero (x ∷ xs) ≡ 0
unfolding first_zero
zero-first zero xs e = refl
zero-first (suc x) xs e = absurd (omega arith)

zero-later : (x : ℕ) (xs : List ℕ) → x ≢ 0 → first_zero (x ∷ xs) ≡ first_zero xs + 1
unfolding first_zero
zero-later zero xs h = absurd (h refl)
zero-later (suc x) xs h = sym (add-one (first_zero xs))

zero-none : first_zero [] ≡ 0
unfolding first_zero
zero-none = refl

-- what a search for the first zero found: its place, or none
abbrev pub Found : List ℕ → Option ℕ → Type 0
Found xs r =
    MatchOption r (AllWithin (λ x. x ≢ 0) xs 0 (length xs)) (λ i. (i < length xs) × HoldsAt (λ x. x ≡ 0) xs i × AllWithin (λ x. x ≢ 0) xs 0 i)

module _ (l : List ℕ) (n : ℕ) (h : n ≤ length l) where
  size : length (take n l) ≡ n
  size = simp length-take (omega arith)

  pub first-none : ((j : ℕ) → j < length (take n l) → get_or (take n l) j 0 ≢ 0) → n ≡ first_zero (take n l)
  first-none k = sym (no_zero (take n l) k ∙ size)

  pub first-found : (r : Option ℕ) → Found (take n l) r → (unwrap_or r n ≡ first_zero (take n l)) × (unwrap_or r n ≤ n)
  first-found r m =
      (ap (unwrap_or r) (sym size) ∙ sym (index_from_first first_zero (λ x. x ≡ 0) (λ x. x ≢ 0) zero-none zero-first zero-later (take n l) r m), bound r m)
    where
      bound : (r : Option ℕ) → Found (take n l) r → unwrap_or r n ≤ n
      bound None m = omega arith
      bound (Some i) m = omega (arith, size)

-- of a ledger with n entries all are looked at
pub first-whole : (l : List ℕ) (n : ℕ) → length l ≡ n → first_zero (take n l) ≡ first_zero l
first-whole l n e = ap first_zero (take_all n l (omega arith))
