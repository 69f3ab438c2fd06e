-- Laws of big-endian numbers, over the width.
use Rattle.std.proofs.Common.{◌≡◌, ℕ, zero, suc, ◌+◌, ◌*◌, ◌^◌, ◌<◌, ◌≤◌, List, refl, ap, ◌∙◌, add-zero, pow-suc, add-one, arith}
use native.Mathlib.Nat.{pow-le-pow_right}
use Rattle.number.specs.Bytes.{byte_at, be}

pub be2-is : (b : List ℕ) (at : ℕ) → byte_at b at * 256 + byte_at b (at + 1) ≡ be 2 b at
unfolding be
be2-is b at = simp add-zero (omega arith)

pub be4-is : (b : List ℕ) (at : ℕ) → ((byte_at b at * 256 + byte_at b (at + 1)) * 256 + byte_at b (at + 2)) * 256 + byte_at b (at + 3) ≡ be 4 b at
unfolding be
be4-is b at = simp add-zero (omega arith)

-- bytes that are bytes give a number below 256^width
pub be-bound : (k : ℕ) (b : List ℕ) (at : ℕ) → ((i : ℕ) → byte_at b i < 256) → be k b at < 256 ^ k
unfolding be
be-bound zero b at h = omega arith
be-bound (suc k) b at h = rw pow-suc (omega (arith, be-bound k b at h, h (at + k)))

-- the number is that of its bytes alone
pub be-same : (k : ℕ) (b c : List ℕ) (at to : ℕ) → ((i : ℕ) → i < k → byte_at b (at + i) ≡ byte_at c (to + i)) → be k b at ≡ be k c to
unfolding be
be-same zero b c at to h = refl
be-same (suc k) b c at to h = let e = be-same k b c at to (λ i l. h i (omega arith)) in let f = h k (omega arith) in omega arith

-- one byte more
pub be-more : (k : ℕ) (b : List ℕ) (at : ℕ) → be k b at * 256 + byte_at b (at + k) ≡ be (k + 1) b at
unfolding be
be-more k b at = rw add-one

pub bytes_le : (n m : ℕ) → n ≤ m → 256 ^ n ≤ 256 ^ m
bytes_le n m h = pow-le-pow_right (omega arith) h

pub bytes-more : (n u x : ℕ) → u < 256 ^ n → x < 256 → u * 256 + x < 256 ^ (n + 1)
bytes-more n u x h l = rw (add-one, pow-suc) (omega arith)

-- where the reader of a big-endian number stands after i bytes
pub record Gathered (b : List ℕ) (at width u i : ℕ) : Type 0 where
  pub count : i ≤ width
  pub small : u < 256 ^ i
  pub is : u ≡ be i b at

pub gathered-starts : (b : List ℕ) (at width : ℕ) → Gathered b at width 0 0
unfolding be
gathered-starts b at width = record { count = omega arith; small = omega arith; is = refl }

module _ {b : List ℕ} {at width u i : ℕ} (g : Gathered b at width u i) where
  pub gathered-room : i < width → width ≤ 8 → u < 2 ^ 56
  gathered-room h l = omega (arith, bytes_le i 7 (omega arith), g.small)

  pub gathered-on : (x : ℕ) → i < width → x ≡ byte_at b (at + i) → x < 256 → Gathered b at width (u * 256 + x) (i + 1)
  gathered-on x h e l =
      record {
        count = omega arith;
        small = bytes-more i u x g.small l;
        is = ap (λ (n : ℕ). n * 256 + x) g.is ∙ ap (λ (y : ℕ). be i b at * 256 + y) e ∙ be-more i b at;
      }
