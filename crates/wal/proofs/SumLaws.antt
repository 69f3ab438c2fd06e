-- Laws of words and sums.
use Prim.Native.Nat.{ℕ, zero, suc, ◌+◌, ◌-◌, ◌*◌, ◌/◌, ◌^◌, ◌<◌, ◌≤◌}
use mathlib.Core.Path.{◌≡◌, refl, sym, ◌∙◌}
use mathlib.Core.Bool.{Bool}
use mathlib.Core.List.{List}
use native.Mathlib.Nat.{add-zero}
use native.Mathlib.Omega.{arith}
use Rattle.number.specs.Bytes.{byte_at}
use Rattle.wal.specs.Frames.{frame_sums}
use Rattle.wal.specs.Sums.{le, word_at, Sums, mixed, sums_over}

pub le4-is : (b : List ℕ) (at : ℕ) → ((byte_at b (at + 3) * 256 + byte_at b (at + 2)) * 256 + byte_at b (at + 1)) * 256 + byte_at b at ≡ le 4 b at
unfolding le
le4-is b at =
    let e2 : at + 1 + 1 ≡ at + 2 = omega arith in
    let e3 : at + 2 + 1 ≡ at + 3 = omega arith in
    simp (e2, e3) (omega arith)

-- the pairs up to i, then j more
pub pairs-summed : (big : Bool) (b : List ℕ) (at i j : ℕ) (s : Sums)
    → sums_over big b at (i + j) s ≡ sums_over big b (at + 8 * i) j (sums_over big b at i s)
unfolding sums_over
pairs-summed big b at i zero s = rw add-zero refl
pairs-summed big b at i (suc j) s =
    let e : i + suc j ≡ suc (i + j) = omega arith in
    let w : at + 8 * (i + j) ≡ at + 8 * i + 8 * j = omega arith in
    rw (e, w, pairs-summed big b at i j s) refl

module _ (big : Bool) (b : List ℕ) (at s0 s1 : ℕ) where
  -- one word pair: what two calls of `mix` give
  pub one-summed : (u v t0 t1 : ℕ) → u ≡ word_at big b at → t0 ≡ mixed s0 u s1 → v ≡ word_at big b (at + 4) → t1 ≡ mixed s1 v t0
      → sums_over big b at 1 (s0, s1) ≡ (t0, t1)
  unfolding sums_over
  one-summed u v t0 t1 p f q g = let z : at + 8 * 0 ≡ at = omega arith in rw (z, g, f, p, q) refl

  -- i pairs, and j more from w on
  pub on-summed : (i j n w : ℕ) (t r : Sums) → n ≡ i + j → w ≡ at + 8 * i → sums_over big b at i (s0, s1) ≡ t → sums_over big b w j t ≡ r
      → sums_over big b at n (s0, s1) ≡ r
  on-summed i j n w t r e m p q = rw (e, pairs-summed big b at i j (s0, s1), p, ← m) q

  module _ (p0 p1 q0 q1 r0 r1 : ℕ) (p : sums_over big b at 1 (s0, s1) ≡ (p0, p1)) (q : sums_over big b (at + 8) 1 (p0, p1) ≡ (q0, q1))
      (r : sums_over big b (at + 16) 1 (q0, q1) ≡ (r0, r1)) where
    pub three-summed : sums_over big b at 3 (s0, s1) ≡ (r0, r1)
    three-summed = on-summed 2 1 3 (at + 16) _ _ refl (omega arith) (on-summed 1 1 2 (at + 8) _ _ refl (omega arith) p q) r

    -- one turn of four pairs is four turns of one
    pub four-summed : (t : Sums) → sums_over big b (at + 24) 1 (r0, r1) ≡ t → sums_over big b at 4 (s0, s1) ≡ t
    four-summed t e = on-summed 3 1 4 (at + 24) _ t refl (omega arith) three-summed e

-- a loop over `pairs` word pairs from `at` on that was entered with i₀ of them summed to (s0₀, s1₀), and has i of them summed to (s0, s1): whatever
-- becomes of the rest now becomes of the rest at the entry
pub record Summing (big : Bool) (b : List ℕ) (at pairs i₀ s0₀ s1₀ i s0 s1 : ℕ) : Type 0 where
  pub within : i ≤ pairs
  pub low0 : s0 < 2 ^ 32
  pub low1 : s1 < 2 ^ 32
  pub same : sums_over big b (at + 8 * i) (pairs - i) (s0, s1) ≡ sums_over big b (at + 8 * i₀) (pairs - i₀) (s0₀, s1₀)

module _ (big : Bool) (b : List ℕ) (at pairs i₀ s0₀ s1₀ i s0 s1 : ℕ) (h : Summing big b at pairs i₀ s0₀ s1₀ i s0 s1) where
  -- a turn of n pairs
  pub summing-next : (n t0 t1 : ℕ) → t0 < 2 ^ 32 → t1 < 2 ^ 32 → i + n ≤ pairs → sums_over big b (at + 8 * i) n (s0, s1) ≡ (t0, t1)
      → Summing big b at pairs i₀ s0₀ s1₀ (i + n) t0 t1
  summing-next n t0 t1 l0 l1 l e =
      let k : pairs - i ≡ n + (pairs - (i + n)) = omega arith in
      let w : at + 8 * (i + n) ≡ at + 8 * i + 8 * n = omega arith in
      let on = on-summed big b (at + 8 * i) s0 s1 n (pairs - (i + n)) (pairs - i) (at + 8 * (i + n)) _ _ k w e refl in
      record { within = l; low0 = l0; low1 = l1; same = sym on ∙ h.same }

  -- behind the last
  pub summing-done : pairs ≤ i → sums_over big b (at + 8 * i₀) (pairs - i₀) (s0₀, s1₀) ≡ (s0, s1)
  unfolding sums_over
  summing-done l = let z : pairs - i ≡ 0 = omega (arith, h.within) in sym h.same ∙ rw z refl

pub summing-begins : (big : Bool) (b : List ℕ) (at pairs i s0 s1 : ℕ) → i ≤ pairs → s0 < 2 ^ 32 → s1 < 2 ^ 32
    → Summing big b at pairs i s0 s1 i s0 s1
summing-begins big b at pairs i s0 s1 l l0 l1 = record { within = l; low0 = l0; low1 = l1; same = refl }

-- the sums over a frame: its first 8 bytes, then the page, by two loops one after the other
pub frame-summed : (big : Bool) (log : List ℕ) (size at s0 s1 t0 t1 j u0 u1 i r0 r1 : ℕ) → sums_over big log at 1 (s0, s1) ≡ (t0, t1)
    → Summing big log (at + 24) (size / 8) 0 t0 t1 j u0 u1 → Summing big log (at + 24) (size / 8) j u0 u1 i r0 r1 → size / 8 ≤ i
    → frame_sums big size log at (s0, s1) ≡ (r0, r1)
frame-summed big log size at s0 s1 t0 t1 j u0 u1 i r0 r1 p g h l =
    let z : at + 24 + 8 * 0 ≡ at + 24 = omega arith in
    let k : size / 8 - 0 ≡ size / 8 = omega arith in
    rw p (rw (z, k) at (sym g.same ∙ summing-done big log (at + 24) (size / 8) j u0 u1 i r0 r1 h l))
