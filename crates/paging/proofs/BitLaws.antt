-- Bits of a byte, and of bytes.
use Prim.Native.Nat.{ℕ, zero, suc, ◌+◌, ◌-◌, ◌*◌, ◌/◌, ◌%◌, ◌^◌, ◌<◌, ◌≤◌}
use mathlib.Core.Path.{◌≡◌, refl, sym, ap, ◌∙◌}
use mathlib.Core.Bool.{Bool, true, false, cond}
use mathlib.Core.List.{List}
use mathlib.Core.Logic.{⊎_elim}
use native.Mathlib.Decide.{ℕ_discrete, dec_le}
use native.Mathlib.Numerals.{add-one}
use native.Mathlib.Omega.{arith}
use lib.Dec.{eqb, ltb}
use lib.ListN.{length, get_or, set, replicate, length-set, length-replicate, get_or-replicate, get_or-eq_default}
use lib.Seq.{get_or-set_same, get_or-set_other}
use borrow.Author.Tests.{eq-eqb, ne_eqb, eqb-true, eqb-false, lt-ltb, le-ltb}
use Rattle.std.proofs.Common.{bit_or, w8}
use Rattle.std.proofs.lemmas.Nat.Bits.{bit_at_set_same, bit_at_set_other, bit_at-zero}
use Rattle.number.proofs.Cases.{lt-or-ge, true-or-false}
use Rattle.paging.specs.Bits.{bit, bit_at, Put, Noted, lacks}

-- what holds of 0 to 7 holds below 8
below-8 : (P : ℕ → Type 0) → P 0 → P 1 → P 2 → P 3 → P 4 → P 5 → P 6 → P 7 → (k : ℕ) → k < 8 → P k
below-8 P a b c d e f g h zero l = a
below-8 P a b c d e f g h (suc zero) l = b
below-8 P a b c d e f g h (suc (suc zero)) l = c
below-8 P a b c d e f g h (suc (suc (suc zero))) l = d
below-8 P a b c d e f g h (suc (suc (suc (suc zero)))) l = e
below-8 P a b c d e f g h (suc (suc (suc (suc (suc zero))))) l = f
below-8 P a b c d e f g h (suc (suc (suc (suc (suc (suc zero)))))) l = g
below-8 P a b c d e f g h (suc (suc (suc (suc (suc (suc (suc zero))))))) l = h
below-8 P a b c d e f g h (suc (suc (suc (suc (suc (suc (suc (suc k)))))))) l = absurd (omega arith)

-- a byte with bit k not set has room for it
pub bit-room : (b : ℕ) → b < 256 → (k : ℕ) → k < 8 → bit b k ≡ 0 → b + 2 ^ k < 256
bit-room b h =
    below-8 (λ (k : ℕ). bit b k ≡ 0 → b + 2 ^ k < 256)
    (λ z. omega arith) (λ z. omega arith) (λ z. omega arith) (λ z. omega arith) (λ z. omega arith) (λ z. omega arith) (λ z. omega arith) (λ z. omega arith)

-- what `put_bit` does
pub put-new : (m : List ℕ) (i : ℕ) → i < 8 * length m → (m' : List ℕ)
    → m' ≡ set m (i / 8) (bit_or (get_or m (i / 8) 0) (1 * 2 ^ (i % 8) % 2 ^ 8)) → Put m i m'
unfolding bit_at
put-new m i within m' e =
    let byte : ℕ = get_or m (i / 8) 0 in
    let changed : ℕ = bit_or byte (1 * 2 ^ (i % 8) % 2 ^ 8) in
    let here : get_or m' (i / 8) 0 ≡ changed = ap (λ (l : List ℕ). get_or l (i / 8) 0) e ∙ get_or-set_same m (i / 8) changed 0 (omega arith) in
    record {
      same = ap length e ∙ simp length-set;
      bits = λ q. ⊎_elim
          (λ (same : eqb q i ≡ true).
          let k : q ≡ i = eqb-true q i same in
          let own : bit changed (i % 8) ≡ 1 = bit_at_set_same w8 byte (i % 8) (omega arith) in
          rw (same, k) (rw (here, own) refl))
          (λ (other : eqb q i ≡ false).
          let ne : q ≡ i → ⊥ = eqb-false q i other in
          rw other
          (⊎_elim
          (λ (k : eqb (q / 8) (i / 8) ≡ true).
          let same_byte : q / 8 ≡ i / 8 = eqb-true _ _ k in
          let stays : bit changed (q % 8) ≡ bit byte (q % 8) = bit_at_set_other w8 byte (i % 8) (omega arith) (q % 8) (λ x. ne (omega arith)) in
          rw (same_byte) (rw (here, stays) refl))
          (λ (k : eqb (q / 8) (i / 8) ≡ false).
          let away : get_or m' (q / 8) 0 ≡ get_or m (q / 8) 0 =
          ap (λ (l : List ℕ). get_or l (q / 8) 0) e ∙ get_or-set_other m (i / 8) (q / 8) changed 0 (eqb-false _ _ k) in
          rw away refl)
          (true-or-false (eqb (q / 8) (i / 8)))))
          (true-or-false (eqb q i));
    }

-- no bit is set at the start
pub none-set : (n i : ℕ) → bit_at (replicate n 0) i ≡ false
unfolding bit_at
none-set n i =
    let z : get_or (replicate {A = ℕ} n 0) (i / 8) 0 ≡ 0 = ⊎_elim
    (λ (h : i / 8 < n). get_or-replicate {A = ℕ} n (i / 8) 0 0 h)
    (λ (h : n ≤ i / 8). get_or-eq_default {A = ℕ} (replicate n 0) 0 (omega (arith, length-replicate {A = ℕ} n 0)))
    (lt-or-ge (i / 8) n) in
    let b : bit 0 (i % 8) ≡ 0 = bit_at-zero (i % 8) in
    rw (z, b) refl

-- the ways out of `note`
pub noted-not : (n : ℕ) (m : List ℕ) (p : ℕ) → ((i : ℕ) → i < n → p ≡ suc i → ⊥) → Noted n m p m
noted-not n m p h = record { same = refl; entry = λ i l. rw (ne_eqb p (suc i) (h i l)) refl }

pub noted-put : (n : ℕ) (m m' : List ℕ) (p : ℕ) → 0 < p → Put m (p - 1) m' → Noted n m p m'
noted-put n m m' p a h = record { same = h.same; entry = λ i l. h.bits i ∙ ap (λ (b : Bool). cond b true (bit_at m i)) (go i (ℕ_discrete p (suc i))) }
  where
    go : (i : ℕ) → Dec (p ≡ suc i) → eqb i (p - 1) ≡ eqb p (suc i)
    go i (yes e) = rw (eq-eqb p (suc i) e) (eq-eqb i (p - 1) (omega arith))
    go i (no n) = rw (ne_eqb p (suc i) n) (ne_eqb i (p - 1) (λ e. n (let k : i ≡ p - 1 = e in omega arith)))

pub eqb-turned : (x y : ℕ) → eqb x y ≡ eqb y x
eqb-turned x y = go (ℕ_discrete x y)
  where
    go : Dec (x ≡ y) → eqb x y ≡ eqb y x
    go (yes e) = rw e refl
    go (no n) = ne_eqb x y n ∙ sym (ne_eqb y x (λ e. n (sym e)))

-- ---- pages that no mark and no image covers: the loop of `is_missing`
module _ (m : List ℕ) (long size : ℕ) where
  lacks-stays : (k n : ℕ) → lacks m long size k ≡ true → k ≤ n → lacks m long size n ≡ true
  unfolding lacks
  lacks-stays k zero h l = let e : k ≡ 0 = omega arith in rw e at h
  lacks-stays k (suc n) h l = go (lacks-stays k n h) (dec_le k n)
    where
      go : (k ≤ n → lacks m long size n ≡ true) → Dec (k ≤ n) → lacks m long size (suc n) ≡ true
      go r (yes w) = simp (r w)
      go r (no w) = let e : k ≡ suc n = omega arith in rw e at h

  pub lacks-none : lacks m long size 0 ≡ false
  unfolding lacks
  lacks-none = refl

  module _ (k : ℕ) (i : lacks m long size k ≡ false) where
    pub lacks-found : (n : ℕ) → k < n → bit_at m k ≡ false → long < (k + 1) * size → true ≡ lacks m long size n
    unfolding lacks
    lacks-found n l b w =
        let past : ltb long (suc k * size) ≡ true = rw add-one at (lt-ltb _ _ w) in
        let this : lacks m long size (suc k) ≡ true = simp (i, b, past) in
        sym (lacks-stays (suc k) n this l)

    pub lacks-marked : bit_at m k ≡ true → lacks m long size (k + 1) ≡ false
    unfolding lacks
    lacks-marked b = rw add-one (simp (i, b))

    pub lacks-within : (k + 1) * size ≤ long → lacks m long size (k + 1) ≡ false
    unfolding lacks
    lacks-within w =
        let past : ltb long (suc k * size) ≡ false = rw add-one at (le-ltb _ _ w) in
        rw add-one
        (⊎_elim (λ (b : bit_at m k ≡ true). simp (i, b)) (λ (b : bit_at m k ≡ false). simp (i, b, past)) (true-or-false (bit_at m k)))
