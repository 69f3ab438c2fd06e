-- Laws of serial types and of floats from their bits.
use Rattle.std.proofs.Common.{slice_index_or, ◌∷◌, []}
use Prim.Native.Nat.{ℕ, zero, suc, ◌-◌, ◌/◌, ◌%◌, ◌^◌, ◌≤◌, ◌<◌}
use mathlib.Core.Path.{◌≡◌, refl, sym, ◌∙◌, subst}
use mathlib.Core.Bool.{Bool, not, cond, true, false}
use lib.Dec.{T, eqb, leb}
use lib.Ieee.{Float, nan_bits, of_bits, binary64}
use lib.Ieee.Bits.{nan_bits_above}
use borrow.Author.Tests.{le-ltb, lt-ltb, ne_eqb, eqb-false}
use native.Mathlib.Omega.{arith}
use Rattle.std.proofs.Common.{Option, None, Some}
use Rattle.std.proofs.lemmas.Option.{none-some, same_Some}
use Rattle.record.specs.Serial.{refused, size_of, real_of}
use Rattle.record.specs.declared.Column.TheVariants.{Null, Real}

is_nan : (b n : ℕ) → n ≡ b % 0x8000000000000000 → 0x7ff0000000000000 < n → nan_bits binary64 b ≡ true
is_nan b n e h = nan_bits_above binary64 b ∙ lt-ltb _ _ (rw e at h)

no_nan : (b n : ℕ) → n ≡ b % 0x8000000000000000 → n ≤ 0x7ff0000000000000 → nan_bits binary64 b ≡ false
no_nan b n e h = nan_bits_above binary64 b ∙ le-ltb _ _ (rw e at h)

pub null-real : (b : ℕ) → 0x7ff0000000000000 < b % 0x8000000000000000 → Null ≡ real_of b
unfolding real_of
null-real b h = simp (is_nan b _ refl h)

pub some-real : (b : ℕ) (x : Float) → b % 0x8000000000000000 ≤ 0x7ff0000000000000 → x ≡ of_bits binary64 b → Real x ≡ real_of b
unfolding real_of
some-real b x h e = simp (no_nan b _ refl h, e)

pub a-pattern : (b : ℕ) → b % 0x8000000000000000 ≤ 0x7ff0000000000000 → T (not (nan_bits binary64 b))
a-pattern b h = subst (λ (t : Bool). T (not t)) (sym (no_nan b _ refl h)) tt

-- types below 10 are read, 10 and 11 refused, and from 12 up those that are negative
pub low-type : (t : ℕ) → t < 10 → false ≡ refused t
unfolding refused
low-type t h = simp (lt-ltb t 10 h)

pub gap-type : (t : ℕ) → 10 ≤ t → t < 12 → true ≡ refused t
unfolding refused
gap-type t h l = simp (le-ltb t 10 h, lt-ltb t 12 l)

pub high-type : (t : ℕ) → 12 ≤ t → leb (2 ^ 63) t ≡ refused t
unfolding refused
high-type t h = simp (le-ltb t 10 (omega arith), le-ltb t 12 h)

half_of : (t : ℕ) (e : Bool) → eqb (t % 2) 0 ≡ e → 12 ≤ t → (t - 12) / 2 ≡ cond e ((t - 12) / 2) ((t - 13) / 2)
half_of t true k h = refl
half_of t false k h = omega (arith, eqb-false (t % 2) 0 k)

-- rounding down serves odd types too
pub long-size : (t : ℕ) → 12 ≤ t → (t - 12) / 2 ≡ size_of t
unfolding size_of
long-size t h =
    half_of t (eqb (t % 2) 0) refl h
    ∙ sym (simp (le-ltb t 5 (omega arith), ne_eqb t 5 (λ e. omega arith), le-ltb t 8 (omega arith), le-ltb t 12 h))

-- the table of the types below 10
pub short-size : (t : ℕ) → t < 10 → slice_index_or (0 ∷ 1 ∷ 2 ∷ 3 ∷ 4 ∷ 6 ∷ 8 ∷ 8 ∷ 0 ∷ 0 ∷ []) t 0 ≡ size_of t
unfolding size_of
short-size zero h = refl
short-size (suc zero) h = refl
short-size (suc (suc zero)) h = refl
short-size (suc (suc (suc zero))) h = refl
short-size (suc (suc (suc (suc zero)))) h = refl
short-size (suc (suc (suc (suc (suc zero))))) h = refl
short-size (suc (suc (suc (suc (suc (suc zero)))))) h = refl
short-size (suc (suc (suc (suc (suc (suc (suc zero))))))) h = refl
short-size (suc (suc (suc (suc (suc (suc (suc (suc zero)))))))) h = refl
short-size (suc (suc (suc (suc (suc (suc (suc (suc (suc zero))))))))) h = refl
short-size (suc (suc (suc (suc (suc (suc (suc (suc (suc (suc n)))))))))) h = absurd (omega arith)

-- types 10 and 11 take none
pub gap-size : (t : ℕ) → 10 ≤ t → t < 12 → 0 ≡ size_of t
unfolding size_of
gap-size t h l = simp (le-ltb t 5 (omega arith), ne_eqb t 5 (λ e. omega arith), le-ltb t 8 (omega arith), lt-ltb t 12 l)

-- what room there is tells whether the type is read, and its size
pub room-none : (r : Bool) (s : ℕ) → ◌≡◌ {A = Option ℕ} None (cond r None (Some s)) → r ≡ true
room-none true s e = refl
room-none false s e = absurd (none-some s e)

pub room-size : (r : Bool) (n s : ℕ) → Some n ≡ cond r None (Some s) → (r ≡ false) × (n ≡ s)
room-size true n s e = absurd (none-some n (sym e))
room-size false n s e = (refl, same_Some n s e)
