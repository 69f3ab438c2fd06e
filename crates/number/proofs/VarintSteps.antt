-- The steps of reading a varint, one law each, and how large the bits can be by then.
use Rattle.std.proofs.Common.{◌≡◌, ℕ, zero, suc, ◌+◌, ◌-◌, ◌*◌, ◌%◌, ◌^◌, ◌<◌, ◌≤◌, cond, eqb, List, min, length, sym, refl, ap, ◌∙◌, ⊎_elim, pow-suc, add-one, arith, le-ltb, lt-ltb, eq-eqb, ne_eqb}
use native.Mathlib.Nat.{pow-le-pow_right}
use Rattle.number.proofs.Cases.{lt-or-ge, cond_yes, cond_no}
use Rattle.number.specs.Bytes.{byte_at}
use Rattle.number.specs.Varint.{word_is, short_word, stop_at, word_from, varint_at}
use Rattle.number.specs.declared.Word.{Word}

-- no byte is left
pub word-short : (left : ℕ) (b : List ℕ) (stop at n bits : ℕ) → stop ≤ at → short_word ≡ word_from left b stop at n bits
unfolding word_from
word-short zero b stop at n bits h = refl
word-short (suc left) b stop at n bits h = simp (le-ltb at stop h)

-- nine bytes are the most
pub word_none : (b : List ℕ) (stop at n bits : ℕ) → short_word ≡ word_from 0 b stop at n bits
unfolding word_from
word_none b stop at n bits = refl

-- the ninth byte
pub word-ninth : (b : List ℕ) (stop at n bits : ℕ) → at < stop → word_is (n + 1) (bits * 256 + byte_at b at) ≡ word_from 1 b stop at n bits
unfolding word_from
word-ninth b stop at n bits h = simp (lt-ltb at stop h)

-- a byte with its top bit clear
pub word-last : (left : ℕ) (b : List ℕ) (stop at n bits : ℕ) → at < stop → byte_at b at < 128
    → word_is (n + 1) (bits * 128 + byte_at b at) ≡ word_from (suc (suc left)) b stop at n bits
unfolding word_from
word-last left b stop at n bits h l = simp (lt-ltb at stop h, ne_eqb (suc left) 0 (λ e. omega arith), lt-ltb (byte_at b at) 128 l)

-- a byte with its top bit set
pub word_on : (left : ℕ) (b : List ℕ) (stop at n bits : ℕ) → at < stop → 128 ≤ byte_at b at
    → word_from (suc left) b stop (at + 1) (n + 1) (bits * 128 + (byte_at b at - 128)) ≡ word_from (suc (suc left)) b stop at n bits
unfolding word_from
word_on left b stop at n bits h l = simp (lt-ltb at stop h, ne_eqb (suc left) 0 (λ e. omega arith), le-ltb (byte_at b at) 128 l)

-- n bytes of 7 bits each
pub sevens-le : (n m : ℕ) → n ≤ m → 128 ^ n ≤ 128 ^ m
sevens-le n m h = pow-le-pow_right (omega arith) h

pub sevens-more : (n bits x : ℕ) → bits < 128 ^ n → x < 128 → bits * 128 + x < 128 ^ (n + 1)
sevens-more n bits x h l = rw (add-one, pow-suc) (omega arith)

pub stop-within : (b : List ℕ) (end : ℕ) → (stop_at b end ≤ length b) × (stop_at b end ≤ end)
stop-within b end =
    ⊎_elim (λ (h : length b < end). rw (lt-ltb (length b) end h) (omega arith)) (λ (h : end ≤ length b). rw (le-ltb (length b) end h) (omega arith))
    (lt-or-ge (length b) end)

-- bytes that are there are all read
stop-self : (b : List ℕ) (end : ℕ) → end ≤ length b → stop_at b end ≡ end
stop-self b end h = rw (le-ltb (length b) end h)

-- where the reader of a word stands after n bytes
pub record Reading (w : Word) (b : List ℕ) (at stop n bits : ℕ) : Type 0 where
  pub within : stop ≤ length b
  pub count : n ≤ 8
  pub small : bits < 128 ^ n
  pub rest : w ≡ word_from (9 - n) b stop (at + n) n bits

pub reading-starts : (b : List ℕ) (at end stop : ℕ) → stop ≡ stop_at b end → Reading (varint_at b at end) b at stop 0 0
unfolding varint_at
reading-starts b at end stop e =
    let p : at ≡ at + 0 = omega arith in
    record {
      within = rw e (stop-within b end).0;
      count = omega arith;
      small = omega arith;
      rest = ap (λ (s : ℕ). word_from 9 b s at 0 0) (sym e) ∙ ap (λ (i : ℕ). word_from 9 b stop i 0 0) p;
    }

-- two bytes are passed
pub reading-third : (b : List ℕ) (at stop start : ℕ) → stop ≤ length b → start < 16384 → Reading (word_from 7 b stop (at + 2) 2 start) b at stop 2 start
reading-third b at stop start h l = record { within = h; count = omega arith; small = omega arith; rest = refl }

module _ {w : Word} {b : List ℕ} {at stop n bits : ℕ} (r : Reading w b at stop n bits) where
  pub room_next : n < 8 → bits < 2 ^ 49
  room_next h = omega (arith, sevens-le n 7 (omega arith), r.small)

  pub reads_short : stop ≤ at + n → short_word ≡ w
  reads_short h = word-short (9 - n) b stop (at + n) n bits h ∙ sym r.rest

  pub reads-ninth : (x : ℕ) → at + n < stop → n ≡ 8 → x ≡ byte_at b (at + 8) → word_is 9 (bits * 256 + x) ≡ w
  reads-ninth x h e v =
      let k : 9 - n ≡ 1 = omega arith in
      let m : 9 ≡ n + 1 = omega arith in
      ap (λ (l : ℕ). word_is l (bits * 256 + x)) m
      ∙ ap (λ (y : ℕ). word_is (n + 1) (bits * 256 + y)) (v ∙ ap (λ (i : ℕ). byte_at b (at + i)) (sym e))
      ∙ word-ninth b stop (at + n) n bits h
      ∙ ap (λ (l : ℕ). word_from l b stop (at + n) n bits) (sym k)
      ∙ sym r.rest

  pub reads-last : (x : ℕ) → at + n < stop → n < 8 → x ≡ byte_at b (at + n) → x < 128 → word_is (n + 1) (bits * 128 + x) ≡ w
  reads-last x h e v l =
      let k : 9 - n ≡ suc (suc (7 - n)) = omega arith in
      ap (λ (y : ℕ). word_is (n + 1) (bits * 128 + y)) v
      ∙ word-last (7 - n) b stop (at + n) n bits h (omega arith)
      ∙ ap (λ (m : ℕ). word_from m b stop (at + n) n bits) (sym k)
      ∙ sym r.rest

  pub reads_on : (x : ℕ) → at + n < stop → n < 8 → x ≡ byte_at b (at + n) → x < 256 → 128 ≤ x → Reading w b at stop (n + 1) (bits * 128 + x % 128)
  reads_on x h e v l g =
      let k : 9 - n ≡ suc (suc (7 - n)) = omega arith in
      let m : suc (7 - n) ≡ 9 - (n + 1) = omega arith in
      let z : x - 128 ≡ x % 128 = omega arith in
      let p : at + n + 1 ≡ at + (n + 1) = omega arith in
      record {
        within = r.within;
        count = omega arith;
        small = sevens-more n bits (x % 128) r.small (omega arith);
        rest =
            r.rest
            ∙ ap (λ (l : ℕ). word_from l b stop (at + n) n bits) k
            ∙ sym (word_on (7 - n) b stop (at + n) n bits h (omega arith))
            ∙ ap (λ (l : ℕ). word_from l b stop (at + n + 1) (n + 1) (bits * 128 + (byte_at b (at + n) - 128))) m
            ∙ ap (λ (y : ℕ). word_from (9 - (n + 1)) b stop (at + n + 1) (n + 1) (bits * 128 + (y - 128))) (sym v)
            ∙ ap (λ (y : ℕ). word_from (9 - (n + 1)) b stop (at + n + 1) (n + 1) (bits * 128 + y)) z
            ∙ ap (λ (i : ℕ). word_from (9 - (n + 1)) b stop i (n + 1) (bits * 128 + x % 128)) p;
      }

-- a word that is settled by its first two bytes, or goes on with the third
abbrev pub Begun : List ℕ → (at stop : ℕ) → Word → Type 0
Begun b at stop w = varint_at b at stop ≡ cond (eqb w.length 0) (word_from 7 b stop (at + 2) 2 w.bits) w

module _ (b : List ℕ) (at left x : ℕ) (some : 1 ≤ left) (h : at + left ≤ length b) (v : x ≡ byte_at b at) where
  first : Reading (varint_at b at (at + left)) b at (at + left) 0 0
  first = reading-starts b at (at + left) (at + left) (sym (stop-self b (at + left) h))

  here : x ≡ byte_at b (at + 0)
  here = let p : at ≡ at + 0 = omega arith in v ∙ ap (byte_at b) p

  pub begun-one : x < 128 → Begun b at (at + left) (word_is 1 x)
  begun-one l =
      let q : 0 * 128 + x ≡ x = omega arith in
      sym (reads-last first x (omega arith) (omega arith) here l) ∙ ap (word_is 1) q

  module _ (small : x < 256) (on : 128 ≤ x) where
    second : Reading (varint_at b at (at + left)) b at (at + left) 1 (0 * 128 + x % 128)
    second = reads_on first x (omega arith) (omega arith) here small on

    pub begun-cut : left < 2 → Begun b at (at + left) short_word
    begun-cut l = sym (reads_short second (omega arith)) ∙ word-short 7 b (at + left) (at + 2) 2 0 (omega arith)

    pub begun-two : (y : ℕ) → 2 ≤ left → y ≡ byte_at b (at + 1) → y < 128 → Begun b at (at + left) (word_is 2 (x % 128 * 128 + y))
    begun-two y g e l =
        let q : (0 * 128 + x % 128) * 128 + y ≡ x % 128 * 128 + y = omega arith in
        sym (reads-last second y (omega arith) (omega arith) e l) ∙ ap (word_is 2) q

    pub begun-on : (y : ℕ) → 2 ≤ left → y ≡ byte_at b (at + 1) → y < 256 → 128 ≤ y → Begun b at (at + left) (word_is 0 (x % 128 * 128 + y % 128))
    begun-on y g e s l =
        let q : (0 * 128 + x % 128) * 128 + y % 128 ≡ x % 128 * 128 + y % 128 = omega arith in
        (reads_on second y (omega arith) (omega arith) e s l).rest ∙ ap (word_from 7 b (at + left) (at + 2) 2) q

pub stop-room : (b : List ℕ) (end stop : ℕ) → stop ≡ stop_at b end → stop ≤ length b
stop-room b end stop e = rw e (stop-within b end).0

-- the whole word, from what its start gave
module _ (b : List ℕ) (at end stop : ℕ) (e : stop ≡ stop_at b end) where
  pub word_cut : stop ≤ at → short_word ≡ varint_at b at end
  word_cut h = reads_short (reading-starts b at end stop e) (omega arith)

  module _ (w : Word) (h : at ≤ stop) (k : Begun b at (at + (stop - at)) w) where
    same : varint_at b at (at + (stop - at)) ≡ varint_at b at end
    unfolding varint_at
    same =
        let p : at + (stop - at) ≡ stop = omega arith in
        ap (λ (s : ℕ). word_from 9 b s at 0 0) (ap (stop_at b) p ∙ stop-self b stop (stop-room b end stop e) ∙ e)

    pub word-begun : (w.length ≡ 0 → ⊥) → w ≡ varint_at b at end
    word-begun z = cond_no (eqb w.length 0) w _ w (ne_eqb w.length 0 z) refl ∙ sym k ∙ same

    pub word-goes : (r : Word) → w.length ≡ 0 → r ≡ word_from 7 b (at + (stop - at)) (at + 2) 2 w.bits → r ≡ varint_at b at end
    word-goes r z e = cond_yes (eqb w.length 0) r _ w (eq-eqb w.length 0 z) e ∙ sym k ∙ same

-- where bytes end, as the lesser of two
pub stop-min : (b : List ℕ) (end : ℕ) → min (length b) end ≡ stop_at b end
stop-min b end =
    ⊎_elim (λ (h : length b < end). rw (lt-ltb (length b) end h) (omega arith)) (λ (h : end ≤ length b). rw (le-ltb (length b) end h) (omega arith))
    (lt-or-ge (length b) end)

-- the whole word, by its first two bytes
module _ (b : List ℕ) (at end stop : ℕ) (m : stop ≡ min (length b) end) where
  ends : stop ≡ stop_at b end
  ends = m ∙ stop-min b end

  module _ (some : at < stop) (x : ℕ) (v : x ≡ byte_at b at) where
    inside : at + (stop - at) ≤ length b
    inside = omega (arith, stop-room b end stop ends)

    pub word-one : x < 128 → word_is 1 x ≡ varint_at b at end
    word-one l = word-begun b at end stop ends (word_is 1 x) (omega arith) (begun-one b at (stop - at) x (omega arith) inside v l) (λ z. omega arith)

    module _ (small : x < 256) (on : 128 ≤ x) where
      pub second_cut : stop ≤ at + 1 → short_word ≡ varint_at b at end
      second_cut h =
          let k = begun-cut b at (stop - at) x (omega arith) inside v small on (omega arith) in
          word-goes b at end stop ends short_word (omega arith) k short_word refl (word-short 7 b (at + (stop - at)) (at + 2) 2 0 (omega arith))

      pub word-two : (y : ℕ) → at + 1 < stop → y ≡ byte_at b (at + 1) → y < 128 → word_is 2 (x % 128 * 128 + y) ≡ varint_at b at end
      word-two y g e l =
          let k = begun-two b at (stop - at) x (omega arith) inside v small on y (omega arith) e l in
          word-begun b at end stop ends (word_is 2 (x % 128 * 128 + y)) (omega arith) k (λ z. omega arith)

      pub word-more : (y : ℕ) → at + 1 < stop → y ≡ byte_at b (at + 1) → y < 256 → 128 ≤ y
          → (w : Word) → w ≡ word_from 7 b (at + (stop - at)) (at + 2) 2 (x % 128 * 128 + y % 128) → w ≡ varint_at b at end
      word-more y g e s l w k =
          let f = begun-on b at (stop - at) x (omega arith) inside v small on y (omega arith) e s l in
          word-goes b at end stop ends (word_is 0 (x % 128 * 128 + y % 128)) (omega arith) f w refl k
