-- The laws of varints. A signed 64-bit number v is one with `SFits w64 v`.
-- Those of signed numbers, and of the move to ℕ that keeps their order, are in SignedLaws; what holds of every varint read, in VarintLaws.
use Rattle.std.proofs.Common.{◌≡◌, ℕ, suc, ◌+◌, ◌-◌, ◌*◌, ◌^◌, ◌<◌, ◌≤◌, Bool, true, cond, eqb, ◌⊎◌, List, [], ◌++◌, length, drop, ℤ, Some, None, sym, refl, ap, ◌∙◌, subst, inl, inr, ⊎_elim, eq-zero-or-pos, arith, length-append, w64, SFits, le-ltb, lt-ltb, eq-eqb, ne_eqb}
use Rattle.number.proofs.Cases.{lt-or-ge, cond_no}
use Rattle.number.proofs.SignedLaws.{signed-of-word, word-of-signed, word_small}
use Rattle.number.proofs.SpellingLaws.{varint-size, spelling-length}
use Rattle.number.proofs.VarintLaws.{varint-length, varint-bits, answer-short, answer-number, same-number}
use Rattle.number.proofs.VarintSteps.{word-short, word-last, word_on}
use Rattle.number.proofs.VarintReading.{word-sevens, Over, word_over, size_fits, word-own, word-all, fits-size, stands-joined, spelling-read}
use Rattle.number.specs.Bytes.{byte_at, word_of, signed_of}
use Rattle.number.specs.Varint.{word_is, number_is, stop_at, varint_at, varint_length, varint_bits, is_shortest, long_of, answer_of, varint_size, spelling}
use Rattle.number.specs.Varint.{shortest, laid_over}
use Rattle.number.specs.declared.Word.{Word}

-- where bytes end, once they reach past a place
stop-reaches : (b : List ℕ) (end k : ℕ) → k ≤ end → k ≤ length b → k ≤ stop_at b end
stop-reaches b end k h l =
    ⊎_elim
    (λ (s : length b < end). rw (lt-ltb (length b) end s) l)
    (λ (s : end ≤ length b). rw (le-ltb (length b) end s) h)
    (lt-or-ge (length b) end)

-- Longer spellings are read: the spelling of 64 bits in n bytes, for every n from the shortest to 9, gives these bits and n, wherever it
-- stands and whatever stands behind it.
pub spelled-read : (n bits : ℕ) → bits < 2 ^ 64 → varint_size bits ≤ n → n ≤ 9
    → (front tail : List ℕ) (end : ℕ) → length front + n ≤ end
    → varint_at (front ++ (spelling n bits ++ tail)) (length front) end ≡ word_is n bits
unfolding varint_at
spelled-read n bits w z high front tail end h =
    let low : 1 ≤ n = omega (arith, varint-size bits) in
    let b = front ++ (spelling n bits ++ tail) in
    let l : length front + n ≤ length b = simp length-append (omega (arith, spelling-length n bits low high)) in
    spelling-read n bits b (stop_at b end) (length front) (stands-joined front (spelling n bits) tail) (stop-reaches b end (length front + n) h l) low high z w

-- What is written is read back as itself with its length, and as the shortest spelling, wherever it stands and whatever stands behind it.
pub written_read : (v : ℤ) → SFits w64 v → (front tail : List ℕ) (end : ℕ) → length front + varint_size (word_of v) ≤ end
    → answer_of (varint_at (front ++ (shortest v ++ tail)) (length front) end) ≡ Some (number_is v (varint_size (word_of v)) true)
written_read v f front tail end h =
    let size = varint-size (word_of v) in
    let e = spelled-read (varint_size (word_of v)) (word_of v) (word_small v f) (omega arith) (omega (arith, size)) front tail end h in
    sym (answer-number (word_is (varint_size (word_of v)) (word_of v)) _ v true (sym e) (λ z. omega (arith, size)) (sym (signed-of-word v f))
    (sym (eq-eqb (varint_size (word_of v)) _ refl)))

-- So the bytes that the writer leaves, where it has room, read as the number.
pub laid-read : (v : ℤ) → SFits w64 v → (out : List ℕ) → varint_size (word_of v) ≤ length out
    → answer_of (varint_at (laid_over v out) 0 (length out)) ≡ Some (number_is v (varint_size (word_of v)) true)
laid-read v f out h =
    let rest = shortest v ++ drop (varint_size (word_of v)) out in
    let laid : laid_over v out ≡ rest = sym (cond_no _ rest out rest (le-ltb (length out) (varint_size (word_of v)) h) refl) in
    subst (λ (l : List ℕ). answer_of (varint_at l 0 (length out)) ≡ Some (number_is v (varint_size (word_of v)) true)) (sym laid)
    (written_read v f [] (drop (varint_size (word_of v)) out) (length out) (omega arith))

size-least : (b : List ℕ) (at end : ℕ) → ((i : ℕ) → byte_at b i < 256) → 0 < varint_length b at end
    → varint_size (varint_bits b at end) ≤ varint_length b at end
unfolding varint_at
size-least b at end bytes g =
    ⊎_elim
    (λ (l : varint_length b at end < 9).
    let s : varint_bits b at end < 128 ^ varint_length b at end = word-sevens b (stop_at b end) bytes 9 at 0 0 refl (omega arith) l in
    let e : varint_length b at end ≡ suc (varint_length b at end - 1) = omega arith in
    omega (arith, fits-size 8 1 (varint_bits b at end) (varint_length b at end - 1) (subst (λ (k : ℕ). varint_bits b at end < 128 ^ k) e s)))
    (λ (h : 9 ≤ varint_length b at end). omega (arith, varint-size (varint_bits b at end)))
    (lt-or-ge (varint_length b at end) 9)

-- The spelling is the shortest: bytes that read as the number are at least as many.
pub shortest-least : (v : ℤ) (b : List ℕ) (at end n : ℕ) (s : Bool) → ((i : ℕ) → byte_at b i < 256) → answer_of (varint_at b at end) ≡ Some (number_is v n s)
    → length (shortest v) ≤ n
shortest-least v b at end n s bytes e = ⊎_elim none some (eq-zero-or-pos (varint_length b at end))
  where
    none : varint_length b at end ≡ 0 → length (shortest v) ≤ n
    none z =
        let k : None ≡ Some (number_is v n s) = answer-short (varint_at b at end) (varint_at b at end) refl z ∙ e in
        let y : ◌≡◌ {A = ℕ} 0 1 = cc in
        absurd (omega arith)

    some : 0 < varint_length b at end → length (shortest v) ≤ n
    some g =
        let k : Some (number_is (signed_of (2 ^ 63) (varint_bits b at end)) (varint_length b at end) (is_shortest (varint_length b at end) (varint_bits b at end)))
        ≡ Some (number_is v n s) =
        answer-number (varint_at b at end) (varint_at b at end) (signed_of (2 ^ 63) (varint_bits b at end)) _ refl (λ z. omega arith) refl refl ∙ e in
        let value : signed_of (2 ^ 63) (varint_bits b at end) ≡ v = (same-number k).0 in
        let count : varint_length b at end ≡ n = (same-number k).1 in
        let bits : word_of v ≡ varint_bits b at end = ap word_of (sym value) ∙ word-of-signed (varint_bits b at end) (varint-bits b at end bytes) in
        let size = varint-size (word_of v) in
        omega (arith, spelling-length (varint_size (word_of v)) (word_of v) size.0 size.1, ap varint_size bits, size-least b at end bytes g)

-- What the reader tells to be the shortest spelling has the length of the writer's, and only that does.
pub told-shortest : (v : ℤ) (b : List ℕ) (at end n : ℕ) (s : Bool) → ((i : ℕ) → byte_at b i < 256) → answer_of (varint_at b at end) ≡ Some (number_is v n s)
    → s ≡ eqb n (length (shortest v))
told-shortest v b at end n s bytes e = ⊎_elim none some (eq-zero-or-pos (varint_length b at end))
  where
    none : varint_length b at end ≡ 0 → s ≡ eqb n (length (shortest v))
    none z =
        let k : None ≡ Some (number_is v n s) = answer-short (varint_at b at end) (varint_at b at end) refl z ∙ e in
        let y : ◌≡◌ {A = ℕ} 0 1 = cc in
        absurd (omega arith)

    some : 0 < varint_length b at end → s ≡ eqb n (length (shortest v))
    some g =
        let k : Some (number_is (signed_of (2 ^ 63) (varint_bits b at end)) (varint_length b at end) (is_shortest (varint_length b at end) (varint_bits b at end)))
        ≡ Some (number_is v n s) =
        answer-number (varint_at b at end) (varint_at b at end) (signed_of (2 ^ 63) (varint_bits b at end)) _ refl (λ z. omega arith) refl refl ∙ e in
        let value : signed_of (2 ^ 63) (varint_bits b at end) ≡ v = (same-number k).0 in
        let count : varint_length b at end ≡ n = (same-number k).1 in
        let told : is_shortest (varint_length b at end) (varint_bits b at end) ≡ s = (same-number k).2 in
        let bits : varint_bits b at end ≡ word_of v = sym (ap word_of (sym value) ∙ word-of-signed (varint_bits b at end) (varint-bits b at end bytes)) in
        let size = varint-size (word_of v) in
        sym told ∙ ap (λ (m : ℕ). eqb m (varint_size (varint_bits b at end))) count
        ∙ ap (eqb n) (ap varint_size bits ∙ sym (spelling-length (varint_size (word_of v)) (word_of v) size.0 size.1))

-- Bytes that are not the shortest spelling are long.
pub long-or-shortest : (b : List ℕ) (at end : ℕ) → ((i : ℕ) → byte_at b i < 256) → 0 < varint_length b at end
    → long_of (varint_at b at end) ≡ cond (is_shortest (varint_length b at end) (varint_bits b at end)) 0 1
long-or-shortest b at end bytes g = go (lt-or-ge (varint_size (varint_bits b at end)) (varint_length b at end))
  where
    go : (varint_size (varint_bits b at end) < varint_length b at end) ⊎ (varint_length b at end ≤ varint_size (varint_bits b at end))
        → long_of (varint_at b at end) ≡ cond (is_shortest (varint_length b at end) (varint_bits b at end)) 0 1
    go (inl l) = rw (lt-ltb _ _ l, ne_eqb (varint_length b at end) (varint_size (varint_bits b at end)) (λ e. omega arith)) refl
    go (inr l) = rw (le-ltb _ _ l, eq-eqb (varint_length b at end) (varint_size (varint_bits b at end)) (omega (arith, size-least b at end bytes g))) refl

-- A number whose first byte is not 80 is not spelled long: what a spelling has too many of are zeros in front.
pub first-not-long : (b : List ℕ) (at end : ℕ) → 0 < varint_length b at end → (byte_at b at ≡ 128 → ⊥) → long_of (varint_at b at end) ≡ 0
unfolding varint_at
first-not-long b at end g n =
    sym (cond_no _ 0 1 0 (le-ltb _ _ (over (lt-or-ge at (stop_at b end)) (lt-or-ge (byte_at b at) 128))) refl)
  where
    grown : Over b (stop_at b end) 8 (at + 1) (0 + 1) (0 * 128 + (byte_at b at - 128)) (varint_at b at end) → 128 < byte_at b at
        → varint_length b at end ≤ varint_size (varint_bits b at end)
    grown (inl s) l = absurd (omega (arith, ap (λ (w : Word). w.length) s))
    grown (inr f) l =
        ⊎_elim
        (λ (k : varint_size (varint_bits b at end) < varint_length b at end).
        let size = varint-size (varint_bits b at end) in
        let most = varint-length b at end in
        let s : varint_bits b at end < 128 ^ suc (varint_length b at end - 1 - 1) =
        size_fits 8 1 (varint_bits b at end) (varint_length b at end - 1) (omega arith) (omega arith) in
        let e : 0 + (varint_length b at end - 1) ≡ suc (varint_length b at end - 1 - 1) = omega (arith, size) in
        let o : 128 ^ suc (varint_length b at end - 1 - 1) ≤ varint_bits b at end = subst (λ (i : ℕ). 128 ^ i ≤ varint_bits b at end) e (f.1 0 (omega arith)) in
        absurd (omega arith))
        (λ (k : varint_length b at end ≤ varint_size (varint_bits b at end)). k)
        (lt-or-ge (varint_size (varint_bits b at end)) (varint_length b at end))

    over : (at < stop_at b end) ⊎ (stop_at b end ≤ at) → (byte_at b at < 128) ⊎ (128 ≤ byte_at b at) → varint_length b at end ≤ varint_size (varint_bits b at end)
    over (inr h) l = absurd (omega (arith, ap (λ (w : Word). w.length) (word-short 9 b (stop_at b end) at 0 0 h)))
    over (inl h) (inl l) = omega (arith, ap (λ (w : Word). w.length) (word-last 7 b (stop_at b end) at 0 0 h l), varint-size (varint_bits b at end))
    over (inl h) (inr l) =
        grown (subst (Over b (stop_at b end) 8 (at + 1) (0 + 1) (0 * 128 + (byte_at b at - 128))) (word_on 7 b (stop_at b end) at 0 0 h l)
        (word_over b (stop_at b end) 8 (at + 1) (0 + 1) (0 * 128 + (byte_at b at - 128))))
        (omega (arith, n))

-- A varint that is not short has one byte where the first has its top bit clear, two where the second is the first such.
pub one_byte : (b : List ℕ) (at end : ℕ) → 0 < varint_length b at end → byte_at b at < 128 → varint_length b at end ≡ 1
unfolding varint_at
one_byte b at end g l =
    ⊎_elim
    (λ (h : at < stop_at b end). sym (ap (λ (w : Word). w.length) (word-last 7 b (stop_at b end) at 0 0 h l)))
    (λ (h : stop_at b end ≤ at). absurd (omega (arith, ap (λ (w : Word). w.length) (word-short 9 b (stop_at b end) at 0 0 h))))
    (lt-or-ge at (stop_at b end))

pub two_bytes : (b : List ℕ) (at end : ℕ) → 0 < varint_length b at end → 128 ≤ byte_at b at → byte_at b (at + 1) < 128 → varint_length b at end ≡ 2
unfolding varint_at
two_bytes b at end g l k = first (lt-or-ge at (stop_at b end)) (lt-or-ge (at + 1) (stop_at b end))
  where
    first : (at < stop_at b end) ⊎ (stop_at b end ≤ at) → (at + 1 < stop_at b end) ⊎ (stop_at b end ≤ at + 1) → varint_length b at end ≡ 2
    first (inr h) m = absurd (omega (arith, ap (λ (w : Word). w.length) (word-short 9 b (stop_at b end) at 0 0 h)))
    first (inl h) (inl m) =
        ap (λ (w : Word). w.length)
        (sym (word_on 7 b (stop_at b end) at 0 0 h l) ∙ sym (word-last 6 b (stop_at b end) (at + 1) (0 + 1) (0 * 128 + (byte_at b at - 128)) m k))
    first (inl h) (inr m) =
        absurd (omega (
          arith,
          ap (λ (w : Word). w.length)
              (word-short 8 b (stop_at b end) (at + 1) (0 + 1) (0 * 128 + (byte_at b at - 128)) m ∙ word_on 7 b (stop_at b end) at 0 0 h l),
        ))

-- Reading looks at no byte past the varint: a list with the same bytes there, at any place and with any end past them, reads the same.
pub reads-own-bytes : (b c : List ℕ) (at to end stop : ℕ) → 0 < varint_length b at end
    → ((i : ℕ) → i < varint_length b at end → byte_at c (to + i) ≡ byte_at b (at + i))
    → to + varint_length b at end ≤ length c → to + varint_length b at end ≤ stop
    → varint_at c to stop ≡ varint_at b at end
unfolding varint_at
reads-own-bytes b c at to end stop some same within ends =
    (word-own b c (stop_at b end) (stop_at c stop) 9 at 0 0).1 to some (λ i h. same i (omega arith))
    (omega (arith, stop-reaches c stop (to + varint_length b at end) ends within))

-- Whole or short, it looks at no byte before its place, nor at or past the end.
pub reads_only : (b c : List ℕ) (at to end stop : ℕ) → to + stop_at b end ≡ at + stop_at c stop
    → ((i : ℕ) → at + i < stop_at b end → byte_at c (to + i) ≡ byte_at b (at + i))
    → varint_at c to stop ≡ varint_at b at end
unfolding varint_at
reads_only b c at to end stop m same = word-all b c (stop_at b end) (stop_at c stop) 9 at 0 0 to m same
