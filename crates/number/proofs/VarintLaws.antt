-- What holds of every varint read, for callers: its length and its bits.
use Rattle.std.proofs.Common.{◌≡◌, ℕ, zero, suc, ◌+◌, ◌-◌, ◌*◌, ◌^◌, ◌<◌, ◌≤◌, Bool, eqb, ltb, ◌⊎◌, List, length, ℤ, Some, None, sym, refl, ap, ◌∙◌, subst, inl, inr, ⊎_elim, arith, eq-eqb, ne_eqb}
use Rattle.number.proofs.Cases.{lt-or-ge, cond_yes, cond_no, by_cond}
use Rattle.number.proofs.VarintSteps.{word_none, word-short, word-ninth, word-last, word_on, sevens-le, sevens-more, stop-within}
use Rattle.number.specs.Bytes.{byte_at, signed_of}
use Rattle.number.specs.Varint.{word_is, number_is, short_word, stop_at, word_from, varint_at, varint_length, varint_bits, varint_size, is_shortest, long_of, answer_of}
use Rattle.number.specs.declared.Varint.{Varint}
use Rattle.number.specs.declared.Word.{Word}

-- what holds of each way to end and is kept by each byte passed holds of the word read
module _ (b : List ℕ) (stop : ℕ) (P : (left at n bits : ℕ) → Word → Type 0)
    (short : (left at n bits : ℕ) → (left ≡ 0) ⊎ (stop ≤ at) → P left at n bits short_word)
    (ninth : (at n bits : ℕ) → at < stop → P 1 at n bits (word_is (n + 1) (bits * 256 + byte_at b at)))
    (last : (left at n bits : ℕ) → at < stop → byte_at b at < 128 → P (suc (suc left)) at n bits (word_is (n + 1) (bits * 128 + byte_at b at)))
    (on : (left at n bits : ℕ) (w : Word) → at < stop → 128 ≤ byte_at b at
    → P (suc left) (at + 1) (n + 1) (bits * 128 + (byte_at b at - 128)) w → P (suc (suc left)) at n bits w) where
  pub word-induction : (left at n bits : ℕ) → P left at n bits (word_from left b stop at n bits)
  word-induction zero at n bits = subst (P 0 at n bits) (word_none b stop at n bits) (short 0 at n bits (inl refl))
  word-induction (suc zero) at n bits =
      ⊎_elim
      (λ (h : at < stop). subst (P 1 at n bits) (word-ninth b stop at n bits h) (ninth at n bits h))
      (λ (h : stop ≤ at). subst (P 1 at n bits) (word-short 1 b stop at n bits h) (short 1 at n bits (inr h)))
      (lt-or-ge at stop)
  word-induction (suc (suc left)) at n bits =
      ⊎_elim
      (λ (h : at < stop).
      ⊎_elim
      (λ (l : byte_at b at < 128). subst (P (suc (suc left)) at n bits) (word-last left b stop at n bits h l) (last left at n bits h l))
      (λ (l : 128 ≤ byte_at b at).
      subst (P (suc (suc left)) at n bits) (word_on left b stop at n bits h l)
      (on left at n bits _ h l (word-induction (suc left) (at + 1) (n + 1) (bits * 128 + (byte_at b at - 128)))))
      (lt-or-ge (byte_at b at) 128))
      (λ (h : stop ≤ at). subst (P (suc (suc left)) at n bits) (word-short (suc (suc left)) b stop at n bits h) (short (suc (suc left)) at n bits (inr h)))
      (lt-or-ge at stop)

-- a word that is not short
pub record Whole (b : List ℕ) (at end : ℕ) (w : Word) : Type 0 where
  pub some : 0 < w.length
  pub nine : w.length ≤ 9
  pub ends : at + w.length ≤ end
  pub within : at + w.length ≤ length b

module _ (b : List ℕ) (stop : ℕ) where
  abbrev Ends : (left at n bits : ℕ) → Word → Type 0
  Ends left at n bits w = (w ≡ short_word) ⊎ ((n < w.length) × (w.length ≤ n + left) × (at + w.length ≤ stop + n))

  word-ends : (left at n bits : ℕ) → Ends left at n bits (word_from left b stop at n bits)
  word-ends =
      word-induction b stop Ends
      (λ left at n bits z. inl refl)
      (λ at n bits h. inr (omega arith))
      (λ left at n bits h l. inr (omega arith))
      (λ left at n bits w h l. ⊎_elim (λ e. inl e) (λ e. inr (omega arith)))

  abbrev Small : (left at n bits : ℕ) → Word → Type 0
  Small left at n bits w = n + left ≡ 9 → bits < 128 ^ n → w.bits < 2 ^ 64

  word_small : ((i : ℕ) → byte_at b i < 256) → (left at n bits : ℕ) → Small left at n bits (word_from left b stop at n bits)
  word_small bytes =
      word-induction b stop Small
      (λ left at n bits z e s. omega arith)
      (λ at n bits h e s. omega (arith, sevens-le n 8 (omega arith), bytes at))
      (λ left at n bits h l e s. omega (arith, sevens-le n 8 (omega arith)))
      (λ left at n bits w h l k e s. k (omega arith) (sevens-more n bits (byte_at b at - 128) s (omega (arith, bytes at))))

module _ (b : List ℕ) (at end : ℕ) where
  -- short, or whole
  pub varint-cases : (varint_at b at end ≡ short_word) ⊎ Whole b at end (varint_at b at end)
  unfolding varint_at
  varint-cases =
      ⊎_elim
      (λ e. inl e)
      (λ h. inr (record {
        some = omega (arith, h);
        nine = omega (arith, h);
        ends = omega (arith, h, stop-within b end);
        within = omega (arith, h, stop-within b end);
      }))
      (word-ends b (stop_at b end) 9 at 0 0)

  -- a varint has at most nine bytes
  pub varint-length : varint_length b at end ≤ 9
  varint-length = ⊎_elim (λ e. omega (arith, ap (λ (w : Word). w.length) e)) (λ h. h.nine) varint-cases

  -- one that is not short lies within
  pub varint-whole : 0 < varint_length b at end → Whole b at end (varint_at b at end)
  varint-whole h = ⊎_elim (λ e. absurd (omega (arith, ap (λ (w : Word). w.length) e))) (λ k. k) varint-cases

  -- a short one has no bits
  pub varint-short : varint_length b at end ≡ 0 → varint_at b at end ≡ short_word
  varint-short h = ⊎_elim (λ e. e) (λ k. absurd (omega (arith, k.some))) varint-cases

  -- the bits of bytes are 64
  pub varint-bits : ((i : ℕ) → byte_at b i < 256) → varint_bits b at end < 2 ^ 64
  unfolding varint_at
  varint-bits bytes = word_small b (stop_at b end) bytes 9 at 0 0 refl (omega arith)

  -- at or past the end there is none
  pub varint-past : end ≤ at → varint_at b at end ≡ short_word
  unfolding varint_at
  varint-past h = sym (word-short 9 b (stop_at b end) at 0 0 (omega (arith, stop-within b end)))

-- a number is spelled long once at most
pub long-one : (w : Word) → long_of w ≤ 1
long-one w = by_cond (λ n. n ≤ 1) (ltb (varint_size w.bits) w.length) 1 0 (λ e. omega arith) (λ e. omega arith)

-- the answer to a word
pub answer-short : (w v : Word) → w ≡ v → w.length ≡ 0 → None ≡ answer_of v
answer-short w v e h = subst (λ (u : Word). None ≡ answer_of u) e (cond_yes (eqb w.length 0) None None _ (eq-eqb w.length 0 h) refl)

pub answer-number : (w v : Word) (z : ℤ) (s : Bool) → w ≡ v → (w.length ≡ 0 → ⊥) → z ≡ signed_of (2 ^ 63) w.bits → s ≡ is_shortest w.length w.bits
    → Some (number_is z w.length s) ≡ answer_of v
answer-number w v z s e h k l =
    subst (λ (u : Word). Some (number_is z w.length s) ≡ answer_of u) e
    (cond_no (eqb w.length 0) (Some (number_is z w.length s)) None (Some (number_is (signed_of (2 ^ 63) w.bits) w.length (is_shortest w.length w.bits)))
    (ne_eqb w.length 0 h)
    (ap (λ (y : ℤ). Some (number_is y w.length s)) k ∙ ap (λ (t : Bool). Some (number_is (signed_of (2 ^ 63) w.bits) w.length t)) l))

-- two answers that are the same say the same
pub same-number : {v w : ℤ} {n m : ℕ} {s t : Bool} → Some (number_is v n s) ≡ Some (number_is w m t) → (v ≡ w) × (n ≡ m) × (s ≡ t)
same-number {v} {w} {n} {m} {s} {t} e =
    let k : number_is v n s ≡ number_is w m t = cc in
    (ap (λ (x : Varint). x.value) k, ap (λ (x : Varint). x.length) k, ap (λ (x : Varint). x.shortest) k)
