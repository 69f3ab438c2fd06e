-- Signed numbers: what the machine computes of them, and the move to ℕ that keeps their order.
use Rattle.std.proofs.Common.{◌≡◌, ℕ, zero, suc, ◌+◌, ◌-◌, ◌*◌, ◌^◌, ◌<◌, ◌≤◌, true, false, T, ◌↔◌, ℤ, pos, negsuc, ◌-ℤ◌, nat_abs, ◌<ℤ◌, sym, refl, ap, ◌∙◌, subst, ⊎_elim, pow-suc, zero-add, arith, ltb→lt, lt→ltb, pow-add, w64, Fits, SFits, to_z, le-ltb, lt-ltb}
use lib.Pow.{pow-lt}
use lib.Signed.{lt_z, non_neg}
use mir.ValLaws.{to_z_pos}
use Rattle.number.proofs.Cases.{lt-or-ge}
use Rattle.number.specs.Bytes.{signed_of, half_of, word_of, bias_of, biased}

-- -1 - m
minus : (m : ℕ) → negsuc 0 -ℤ pos m ≡ negsuc m
minus zero = refl
minus (suc m) = ap (λ (n : ℕ). negsuc (suc n)) (zero-add m)

pub down : (m : ℕ) → m < 2 ^ 63 → negsuc 0 -ℤ to_z w64 m ≡ negsuc m
down m h = ap (λ (z : ℤ). negsuc 0 -ℤ z) (to_z_pos w64 m h) ∙ minus m

absurd-tf : {A : Type 0} → true ≡ false → A
absurd-tf h = absurd (subst T h tt)

-- a number that is not negative, as an unsigned one
pub up : (z : ℤ) → lt_z z (pos 0) ≡ false → SFits w64 z → (T (non_neg z) × Fits w64 (nat_abs z)) × (nat_abs z ≡ word_of z)
up (pos n) h f = let k : n < 2 ^ 63 = f.sfits in ((tt, record { fits = omega arith }), refl)
up (negsuc n) h f = absurd-tf h

-- `width` bytes have twice half_of numbers
bytes_bits : (k : ℕ) → 256 ^ k ≡ 2 ^ (8 * k)
bytes_bits zero = refl
bytes_bits (suc k) =
    let e : 8 * suc k ≡ 8 * k + 8 = omega arith in
    pow-suc 256 k ∙ ap (λ (x : ℕ). x * 256) (bytes_bits k) ∙ sym (pow-add 2 (8 * k) 8) ∙ ap (λ (x : ℕ). 2 ^ x) (sym e)

pub two-halves : (width : ℕ) → 1 ≤ width → 256 ^ width ≡ half_of width + half_of width
two-halves width h =
    let e : 8 * width ≡ (8 * width - 1) + 1 = omega arith in
    let d : 2 ^ ((8 * width - 1) + 1) ≡ 2 ^ (8 * width - 1) * 2 = pow-add 2 (8 * width - 1) 1 in
    omega (arith, bytes_bits width ∙ ap (λ (x : ℕ). 2 ^ x) e)

pub half-small : (width : ℕ) → width ≤ 8 → half_of width ≤ 2 ^ 63
half-small width h =
    ⊎_elim (λ (l : 8 * width - 1 < 63). omega (arith, pow-lt l))
    (λ (g : 63 ≤ 8 * width - 1). let e : 8 * width - 1 ≡ 63 = omega arith in omega (arith, ap (λ (x : ℕ). 2 ^ x) e)) (lt-or-ge (8 * width - 1) 63)

-- bits moved by 2^63 are the signed number moved
pub biased-word : (z : ℤ) → SFits w64 z → biased (word_of z) ≡ bias_of z
biased-word (pos n) f = let k : n < 2 ^ 63 = f.sfits in omega arith
biased-word (negsuc n) f = let k : n < 2 ^ 63 = f.sfits in omega arith

-- a number of a width of at most 8 bytes fits 64 bits
pub signed-fits : (half u : ℕ) → u < half + half → half ≤ 2 ^ 63 → SFits w64 (signed_of half u)
signed-fits half u h l =
    ⊎_elim
    (λ (s : u < half). rw (lt-ltb u half s) (record { sfits = omega arith }))
    (λ (g : half ≤ u). rw (le-ltb u half g) (record { sfits = omega arith }))
    (lt-or-ge u half)

-- the bits of what 64 bits say, as they were
pub word-of-signed : (bits : ℕ) → bits < 2 ^ 64 → word_of (signed_of (2 ^ 63) bits) ≡ bits
word-of-signed bits h =
    ⊎_elim
    (λ (s : bits < 2 ^ 63). rw (lt-ltb bits (2 ^ 63) s))
    (λ (g : 2 ^ 63 ≤ bits). rw (le-ltb bits (2 ^ 63) g) (omega arith))
    (lt-or-ge bits (2 ^ 63))

-- and back
pub signed-of-word : (z : ℤ) → SFits w64 z → signed_of (2 ^ 63) (word_of z) ≡ z
signed-of-word (pos n) f = let k : n < 2 ^ 63 = f.sfits in rw (lt-ltb n (2 ^ 63) k)
signed-of-word (negsuc n) f =
    let k : n < 2 ^ 63 = f.sfits in
    let g : 2 ^ 63 ≤ 2 ^ 64 - 1 - n = omega arith in
    let e : 2 ^ 63 - 1 + 2 ^ 63 - (2 ^ 64 - 1 - n) ≡ n = omega arith in
    rw (le-ltb (2 ^ 64 - 1 - n) (2 ^ 63) g) (ap negsuc e)

pub word_small : (z : ℤ) → SFits w64 z → word_of z < 2 ^ 64
word_small (pos n) f = let k : n < 2 ^ 63 = f.sfits in omega arith
word_small (negsuc n) f = omega arith

-- bits moved by 2^63 are the signed number that they say, moved
pub biased-signed : (bits : ℕ) → bits < 2 ^ 64 → biased bits ≡ bias_of (signed_of (2 ^ 63) bits)
biased-signed bits h =
    ap biased (sym (word-of-signed bits h)) ∙ biased-word _ (signed-fits (2 ^ 63) bits h (omega arith))

-- the move keeps numbers apart
pub bias-injective : (y z : ℤ) → SFits w64 y → SFits w64 z → bias_of y ≡ bias_of z → y ≡ z
bias-injective (pos m) (pos n) f g e = ap pos (omega arith)
bias-injective (pos m) (negsuc n) f g e = absurd (omega arith)
bias-injective (negsuc m) (pos n) f g e = absurd (omega arith)
bias-injective (negsuc m) (negsuc n) f g e = let k : m < 2 ^ 63 = f.sfits in let l : n < 2 ^ 63 = g.sfits in ap negsuc (omega arith)

-- and their order
pub bias-order : (y z : ℤ) → SFits w64 y → SFits w64 z → (y <ℤ z) ↔ (bias_of y < bias_of z)
bias-order (pos m) (pos n) f g = (λ h. let k = ltb→lt m n h.lt in omega arith, λ h. record { lt = lt→ltb m n (omega arith) })
bias-order (pos m) (negsuc n) f g = (λ h. absurd h.lt, λ h. absurd (omega arith))
bias-order (negsuc m) (pos n) f g = (λ h. let l : m < 2 ^ 63 = f.sfits in omega arith, λ h. record { lt = tt })
bias-order (negsuc m) (negsuc n) f g =
    (λ h. let k = ltb→lt n m h.lt in let l : m < 2 ^ 63 = f.sfits in omega arith, λ h. record { lt = lt→ltb n m (omega arith) })
