-- A record's serial types of one, two or three bytes, one after another: what is left decides whether the record reads.
use Prim.Native.Nat.{ℕ, zero, suc, ◌+◌, ◌-◌, ◌*◌, ◌/◌, ◌%◌, ◌^◌, ◌<◌, ◌≤◌}
use mathlib.Core.Path.{◌≡◌, refl, sym, ap, ◌∙◌, subst}
use mathlib.Core.Bool.{Bool, true, false, cond}
use mathlib.Core.List.{List}
use mathlib.Core.Logic.{⊎_elim}
use lib.Dec.{eqb, ltb}
use lib.ListN.{length}
use native.Mathlib.Omega.{arith}
use borrow.Author.Tests.{eq-eqb, ne_eqb, lt-leb, le-ltb, ltb-true}
use Rattle.number.specs.Bytes.{byte_at}
use Rattle.number.specs.Varint.{word_is, varint_at, varint_length, varint_bits}
use Rattle.number.specs.declared.Word.{Word}
use Rattle.number.proofs.Cases.{by_cond, lt-or-ge}
use Rattle.number.proofs.VarintSteps.{Reading, reading-starts, reads-last, reads_on}
use Rattle.record.specs.Serial.{refused, size_of}
use Rattle.record.specs.Record.{Types, broken, types, first, sizes, types_at, filling, header_of, own_of, types_of, reads, reads_of}
use Rattle.record.proofs.TypesLaws.{types-end, types-next}
use Rattle.record.proofs.SerialLaws.{low-type, high-type, long-size}
use Rattle.leaf.specs.Parts.{Headed}
use Rattle.leaf.proofs.ShortLaws.{stop-here}

-- values of these types, laid from `place` on, end at `end`
abbrev pub fills : (end place : ℕ) → Types → Bool
fills end place broken = false
fills end place (types ts) = eqb (place + sizes ts) end

fills-next : (end place t : ℕ) (ts : Types) → fills end place (first t ts) ≡ fills end (place + size_of t) ts
unfolding sizes
fills-next end place t broken = refl
fills-next end place t (types ts) = let e : place + (size_of t + sizes ts) ≡ place + size_of t + sizes ts = omega arith in ap (λ n. eqb n end) e

read_by : (b : List ℕ) (h : ℕ) (ts : Types) → reads (filling b h ts) ≡ fills (length b) h ts
read_by b h broken = refl
read_by b h (types ts) = go (eqb (h + sizes ts) (length b)) refl
  where
    go : (x : Bool) → eqb (h + sizes ts) (length b) ≡ x → reads (cond (eqb (h + sizes ts) (length b)) (types ts) broken) ≡ eqb (h + sizes ts) (length b)
    go true e = rw e
    go false e = rw e

-- the serial types before i are passed, and their values end at `place`
pub record Passed (b : List ℕ) (h i place : ℕ) : Type 0 where
  pub first : 1 ≤ i
  pub within : i ≤ h
  pub bound : place ≤ i * 1048576
  pub rest : reads_of b ≡ fills (length b) place (types_at b h i)

pub passed-at : {b : List ℕ} {h i n j m : ℕ} (place : ℕ) → i ≡ j → m ≡ n → Passed b h i (place + n) → Passed b h j (place + m)
passed-at place e f s = rw (e, ← f) at s

-- the varint at `at` of a header of h bytes, of one, two or three bytes
module _ (b : List ℕ) (h at t : ℕ) (inside : h ≤ length b) (is-t : t ≡ byte_at b at) (on : at < h) where
  none : Reading (varint_at b at h) b at h 0 0
  none = reading-starts b at h h (stop-here b h inside)

  here : t ≡ byte_at b (at + 0)
  here = let z : at ≡ at + 0 = omega arith in is-t ∙ ap (byte_at b) z

  one_word : t < 128 → word_is 1 t ≡ varint_at b at h
  one_word l =
      let z : t ≡ 0 * 128 + t = omega arith in
      ap (word_is 1) z ∙ reads-last none t (omega arith) (omega arith) here l

  module _ (byte : t < 256) (set : 128 ≤ t) (v : ℕ) (is-v : v ≡ byte_at b (at + 1)) (more : at + 1 < h) where
    one : Reading (varint_at b at h) b at h 1 (0 * 128 + t % 128)
    one = reads_on none t (omega arith) (omega arith) here byte set

    two-word : v < 128 → word_is 2 ((t - 128) * 128 + v) ≡ varint_at b at h
    two-word l =
        let z : (t - 128) * 128 + v ≡ (0 * 128 + t % 128) * 128 + v = omega arith in
        ap (word_is 2) z ∙ reads-last one v (omega arith) (omega arith) is-v l

    three-word : v < 256 → 128 ≤ v → (w : ℕ) → w ≡ byte_at b (at + 2) → at + 2 < h → w < 128
        → word_is 3 (((t - 128) * 128 + v - 128) * 128 + w) ≡ varint_at b at h
    three-word byte-v set-v w is-w on-w l =
        let z : ((t - 128) * 128 + v - 128) * 128 + w ≡ ((0 * 128 + t % 128) * 128 + v % 128) * 128 + w = omega arith in
        ap (word_is 3) z ∙ reads-last (reads_on one v (omega arith) (omega arith) is-v byte-v set-v) w (omega arith) (omega arith) is-w l

fine : (t : ℕ) → t < 2 ^ 63 → (t ≡ 10 → ⊥) → (t ≡ 11 → ⊥) → refused t ≡ false
fine t l ten eleven =
    ⊎_elim
    (λ (a : t < 10). sym (low-type t a))
    (λ (a : 10 ≤ t). sym (high-type t (omega arith)) ∙ lt-leb (2 ^ 63) t l)
    (lt-or-ge t 10)

module _ {b : List ℕ} {h : ℕ} (g : Headed b h) where
  pub passed_none : Passed b h 1 h
  unfolding reads_of types_of
  passed_none =
      let e : word_is 1 h ≡ varint_at b 0 (length b) = one_word b (length b) 0 h (omega arith) g.first (omega (arith, g.some, g.within)) g.small in
      let own : own_of b ≡ 1 = ap (λ (w : Word). w.length) (sym e) in
      let head : header_of b ≡ h = ap (λ (w : Word). w.bits) (sym e) in
      record {
        first = omega arith;
        within = g.some;
        bound = omega (arith, g.small);
        rest =
            rw (ne_eqb (own_of b) 0 (λ z. omega arith)) (read_by b (header_of b) (types_at b (header_of b) (own_of b)))
            ∙ ap (λ (w : Word). fills (length b) w.bits (types_at b w.bits w.length)) (sym e);
      }

  module _ {i place : ℕ} (s : Passed b h i place) where
    -- all are passed
    pub passed-all : h ≤ i → place ≡ length b → reads_of b ≡ true
    unfolding sizes
    passed-all l e =
        let k : i ≡ h = omega (arith, s.within) in
        let z : place + 0 ≡ length b = omega arith in
        s.rest ∙ ap (fills (length b) place) (types-end b h i k) ∙ eq-eqb (place + 0) (length b) z

    -- one more
    step : (w : Word) → w ≡ varint_at b i h → 0 < w.length → i < h → refused w.bits ≡ false
        → reads_of b ≡ fills (length b) (place + size_of w.bits) (types_at b h (i + w.length))
    step w e some on f =
        s.rest
        ∙ ap (fills (length b) place)
        (types-next b h i (λ z. omega arith) (omega (arith, some, ap (λ (w : Word). w.length) e)) (ap (λ (w : Word). refused w.bits) (sym e) ∙ f))
        ∙ fills-next (length b) place (varint_bits b i h) (types_at b h (i + varint_length b i h))
        ∙ ap (λ (w : Word). fills (length b) (place + size_of w.bits) (types_at b h (i + w.length))) (sym e)

    pub passed-one : (t size : ℕ) → i < h → t ≡ byte_at b i → t < 128 → (t ≡ 10 → ⊥) → (t ≡ 11 → ⊥) → size ≡ size_of t → size < 256
        → Passed b h (i + 1) (place + size)
    passed-one t size on is-t l ten eleven is small = record {
      first = omega arith;
      within = omega arith;
      bound = omega (arith, s.bound);
      rest =
          step (word_is 1 t) (one_word b h i t g.within is-t on l) (omega arith) on (fine t (omega arith) ten eleven)
          ∙ ap (λ (n : ℕ). fills (length b) (place + n) (types_at b h (i + 1))) (sym is);
    }

    -- a text or blob, whose type takes n bytes
    long : (n t : ℕ) → word_is n t ≡ varint_at b i h → 0 < n → i + n ≤ h → 12 ≤ t → t < 2 ^ 21 → Passed b h (i + n) (place + (t - 12) / 2)
    long n t e some on low high = record {
      first = omega arith;
      within = on;
      bound = omega (arith, s.bound);
      rest =
          step (word_is n t) e some (omega arith) (fine t (omega arith) (λ z. omega arith) (λ z. omega arith))
          ∙ ap (λ (m : ℕ). fills (length b) (place + m) (types_at b h (i + n))) (sym (long-size t low));
    }

    module _ (t v : ℕ) (more : i + 1 < h) (is-t : t ≡ byte_at b i) (byte : t < 256) (set : 128 ≤ t) (lead : t ≡ 128 → ⊥) (is-v : v ≡ byte_at b (i + 1)) where
      pub passed-two : v < 128 → Passed b h (i + 2) (place + ((t - 128) * 128 + v - 12) / 2)
      passed-two l =
          long 2 ((t - 128) * 128 + v) (two-word b h i t g.within is-t (omega arith) byte set v is-v more l)
          (omega arith) (omega arith) (omega arith) (omega arith)

      pub passed-three : v < 256 → 128 ≤ v → (w : ℕ) → i + 2 < h → w ≡ byte_at b (i + 1 + 1) → w < 128
          → Passed b h (i + 3) (place + (((t - 128) * 128 + v - 128) * 128 + w - 12) / 2)
      passed-three byte-v set-v w on is-w l =
          let e : i + 1 + 1 ≡ i + 2 = omega arith in
          long 3 (((t - 128) * 128 + v - 128) * 128 + w)
          (three-word b h i t g.within is-t (omega arith) byte set v is-v more byte-v set-v w (is-w ∙ ap (byte_at b) e) on l)
          (omega arith) (omega arith) (omega arith) (omega arith)

-- ---- sizes

-- the types below 12, one by one
low-types : (P : ℕ → Type 0) → P 0 → P 1 → P 2 → P 3 → P 4 → P 5 → P 6 → P 7 → P 8 → P 9 → P 10 → P 11 → (t : ℕ) → t < 12 → P t
low-types P a b c d e f g h i j k l zero m = a
low-types P a b c d e f g h i j k l (suc zero) m = b
low-types P a b c d e f g h i j k l (suc (suc zero)) m = c
low-types P a b c d e f g h i j k l (suc (suc (suc zero))) m = d
low-types P a b c d e f g h i j k l (suc (suc (suc (suc zero)))) m = e
low-types P a b c d e f g h i j k l (suc (suc (suc (suc (suc zero))))) m = f
low-types P a b c d e f g h i j k l (suc (suc (suc (suc (suc (suc zero)))))) m = g
low-types P a b c d e f g h i j k l (suc (suc (suc (suc (suc (suc (suc zero))))))) m = h
low-types P a b c d e f g h i j k l (suc (suc (suc (suc (suc (suc (suc (suc zero)))))))) m = i
low-types P a b c d e f g h i j k l (suc (suc (suc (suc (suc (suc (suc (suc (suc zero))))))))) m = j
low-types P a b c d e f g h i j k l (suc (suc (suc (suc (suc (suc (suc (suc (suc (suc zero)))))))))) m = k
low-types P a b c d e f g h i j k l (suc (suc (suc (suc (suc (suc (suc (suc (suc (suc (suc zero))))))))))) m = l
low-types P a b c d e f g h i j k l (suc (suc (suc (suc (suc (suc (suc (suc (suc (suc (suc (suc t)))))))))))) m = absurd (omega arith)

-- four bits each
pub size_low : (t : ℕ) → t < 12 → 2288267792 / 2 ^ (4 * t) % 16 ≡ size_of t
unfolding size_of
size_low = low-types (λ t. 2288267792 / 2 ^ (4 * t) % 16 ≡ size_of t) refl refl refl refl refl refl refl refl refl refl refl refl

-- by sums of tests
flat : ℕ → ℕ
flat t = cond (ltb t 5) t 0 + cond (eqb t 5) 6 0 + cond (eqb (t / 2) 3) 8 0 + (t - 12) / 2

low-flat : (t : ℕ) → t < 12 → flat t ≡ size_of t
unfolding size_of flat
low-flat = low-types (λ t. flat t ≡ size_of t) refl refl refl refl refl refl refl refl refl refl refl refl

high-flat : (t : ℕ) → 12 ≤ t → flat t ≡ (t - 12) / 2
unfolding flat
high-flat t h = simp (le-ltb t 5 (omega arith), ne_eqb t 5 (λ e. omega arith), ne_eqb (t / 2) 3 (λ e. omega arith)) (omega arith)

pub size-flat : (t a b c d : ℕ) → a ≡ cond (ltb t 5) t 0 → b ≡ cond (eqb t 5) 6 0 → c ≡ cond (eqb (t / 2) 3) 8 0 → d ≡ (t - 12) / 2
    → a + b + c + d ≡ size_of t
unfolding flat
size-flat t a b c d is-a is_b is_c is-d =
    let e : a + b + c + d ≡ flat t = rw (is-a, is_b, is_c, is-d) refl in
    ⊎_elim (λ (l : t < 12). e ∙ low-flat t l) (λ (l : 12 ≤ t). e ∙ high-flat t l ∙ long-size t l) (lt-or-ge t 12)

pub pick-five : (t a : ℕ) → a ≡ cond (ltb t 5) t 0 → a < 5
pick-five t a e = rw e (by_cond (λ n. n < 5) (ltb t 5) t 0 (λ l. ltb-true t 5 l) (λ l. omega arith))

-- ---- sizes summed up, while no type is odd
pub record Summed (b : List ℕ) (h i sum odd : ℕ) : Type 0 where
  pub first : 1 ≤ i
  pub within : i ≤ h
  pub small : sum ≤ i * 256
  pub few : odd ≤ i * 2
  pub rest : odd ≡ 0 → Passed b h i (h + sum)

module _ {b : List ℕ} {h : ℕ} (g : Headed b h) where
  pub summed-none : Summed b h 1 0 0
  summed-none = record {
    first = omega arith;
    within = g.some;
    small = omega arith;
    few = omega arith;
    rest = λ z. let e : h ≡ h + 0 = omega arith in subst (Passed b h 1) e (passed_none g);
  }

  module _ {i sum odd : ℕ} (s : Summed b h i sum odd) where
    pub summed-on : (t size more : ℕ) → i < h → t ≡ byte_at b i → size ≡ size_of t → size < 256 → more ≤ 2
        → (more ≡ 0 → (t < 128) × (t ≡ 10 → ⊥) × (t ≡ 11 → ⊥)) → Summed b h (i + 1) (sum + size) (odd + more)
    summed-on t size more on is-t is small few plain = record {
      first = omega arith;
      within = omega arith;
      small = omega (arith, s.small);
      few = omega (arith, s.few);
      rest = λ z.
          let e : h + sum + size ≡ h + (sum + size) = omega arith in
          let k = plain (omega arith) in
          subst (Passed b h (i + 1)) e (passed-one g (s.rest (omega arith)) t size on is-t k.0 k.1 k.2 is small);
    }

    pub summed-all : h ≤ i → odd ≡ 0 → h + sum ≡ length b → reads_of b ≡ true
    summed-all l z e = passed-all g (s.rest z) l e
