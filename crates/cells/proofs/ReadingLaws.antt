-- A record read by its first bytes: a law for each step and each way out.
use Prim.Native.Nat.{ℕ, ◌+◌, ◌-◌, ◌*◌, ◌<◌, ◌≤◌}
use mathlib.Core.Path.{◌≡◌, refl, sym, ap, ◌∙◌}
use mathlib.Core.Bool.{Bool, true, false, cond}
use Rattle.std.proofs.Common.{Option, Some, None}
use mathlib.Core.List.{List, ◌∷◌, ◌++◌, append-nil, []}
use lib.Dec.{ltb, eqb}
use lib.ListN.{length, length-append}
use native.Mathlib.Omega.{arith}
use borrow.Author.Tests.{eq-eqb, ne_eqb, ltb-true, ltb-false, lt-ltb, le-ltb}
use Rattle.number.specs.Bytes.{byte_at}
use Rattle.number.specs.Varint.{word_is, varint_at, varint_length, varint_bits}
use Rattle.number.specs.declared.Word.{Word}
use Rattle.number.proofs.VarintLaws.{varint-past}
use Rattle.number.proofs.VarintSteps.{word-last}
use Rattle.record.specs.Serial.{refused, size_of}
use Rattle.record.specs.Record.{Types, broken, types, first, sizes, types_at, filling, header_of, own_of, types_of, reads, reads_of}
use Rattle.record.proofs.TypesLaws.{types-end, types-short, types-refused, types-next}
use Rattle.cells.specs.Reading.{fills, rest_fills, taken_of, Steps, Told}
use Rattle.cells.specs.declared.Next.{Next}
use Rattle.cells.specs.declared.Reading.TheVariants.{Yes, No}
use Rattle.cells.proofs.Prefix.{head-kept, types-kept}

fills-over : (end place : ℕ) (ts : Types) → end < place → fills end place ts ≡ false
fills-over end place broken h = refl
fills-over end place (types ts) h = ne_eqb (place + sizes ts) end (λ e. omega arith)

fills-next : (end place t : ℕ) (ts : Types) → fills end place (first t ts) ≡ fills end (place + size_of t) ts
unfolding sizes
fills-next end place t broken = refl
fills-next end place t (types ts) = let e : place + (size_of t + sizes ts) ≡ place + size_of t + sizes ts = omega arith in ap (λ n. eqb n end) e

-- ---- a serial type
module _ (t next place end : ℕ) where
  pub taken_refused : refused t ≡ true → None ≡ taken_of t next place end
  unfolding taken_of
  taken_refused e = rw e

  module _ (fine : refused t ≡ false) (size : ℕ) (is : size ≡ size_of t) where
    pub taken-over : end - place < size → None ≡ taken_of t next place end
    unfolding taken_of
    taken-over l = rw (fine, lt-ltb (end - place) (size_of t) (omega arith))

    pub taken_is : size ≤ end - place → Some (record { at = next; place = place + size }) ≡ taken_of t next place end
    unfolding taken_of
    taken_is l = rw (fine, le-ltb (end - place) (size_of t) (omega arith), is)

module _ (b : List ℕ) (h end at place : ℕ) (on : at < h) where
  steps-none : rest_fills b h end at place ≡ false → (r : Option Next) → r ≡ None → Steps b h end at place r
  steps-none x r k = record {
    ends = λ z. x;
    goes = λ n e. absurd (let z : ◌≡◌ {A = ℕ} 0 1 = cc in omega arith);
    rises = λ n e. absurd (let z : ◌≡◌ {A = ℕ} 0 1 = cc in omega arith);
    fits = λ n e. absurd (let z : ◌≡◌ {A = ℕ} 0 1 = cc in omega arith);
  }

  pub steps-short : varint_length b at h ≡ 0 → Steps b h end at place None
  steps-short z = steps-none (ap (fills end place) (types-short b h at (λ e. omega arith) z)) None refl

  module _ (w : Word) (is : w ≡ varint_at b at h) (some-bytes : 0 < w.length) (room : place ≤ end) where
    off : at ≡ h → ⊥
    off e = omega arith

    bits : varint_bits b at h ≡ w.bits
    bits = ap (λ (v : Word). v.bits) (sym is)

    after : refused w.bits ≡ false → types_at b h at ≡ first w.bits (types_at b h (at + w.length))
    after e =
        types-next b h at off (omega (arith, some-bytes, ap (λ (v : Word). v.length) is)) (ap refused bits ∙ e)
        ∙ ap (λ (v : Word). first v.bits (types_at b h (at + v.length))) (sym is)

    pub steps-taken : (r : Option Next) → r ≡ taken_of w.bits (at + w.length) place end → Steps b h end at place r
    unfolding taken_of
    steps-taken r e = go (refused w.bits) refl (ltb (end - place) (size_of w.bits)) refl e
      where
        rest : refused w.bits ≡ false → rest_fills b h end at place ≡ rest_fills b h end (at + w.length) (place + size_of w.bits)
        rest x = ap (fills end place) (after x) ∙ fills-next end place w.bits (types_at b h (at + w.length))

        go : (x : Bool) → refused w.bits ≡ x → (y : Bool) → ltb (end - place) (size_of w.bits) ≡ y
            → r ≡ cond x None (cond y None (Some (record { at = at + w.length; place = place + size_of w.bits }))) → Steps b h end at place r
        go true x y k e = steps-none (ap (fills end place) (types-refused b h at off (ap refused bits ∙ x))) r e
        go false x true k e =
            steps-none (rest x
            ∙ fills-over end (place + size_of w.bits) (types_at b h (at + w.length))
            (let l = ltb-true (end - place) (size_of w.bits) k in omega arith)) r e
        go false x false k e =
            let l = ltb-false (end - place) (size_of w.bits) k in
            let here : Next = record { at = at + w.length; place = place + size_of w.bits } in
            let is : (n : Next) → r ≡ Some n → n ≡ here = λ n z. (let y : Some n ≡ Some here = sym z ∙ e in cc) in
            record {
              ends = λ z. absurd (let y : ◌≡◌ {A = ℕ} 0 1 = cc in omega arith);
              goes = λ n z. rest x ∙ ap (λ (r : Next). rest_fills b h end r.at r.place) (sym (is n z));
              rises = λ n z. rw (is n z) (omega arith);
              fits = λ n z. rw (is n z) (omega arith);
            }

-- one byte
pub one_word : (b : List ℕ) (h at t : ℕ) → at < h → h ≤ length b → t ≡ byte_at b at → t < 128 → word_is 1 t ≡ varint_at b at h
unfolding varint_at
one_word b h at t on inside e l =
    let s = le-ltb (length b) h inside in
    let z : 0 * 128 + byte_at b at ≡ t = omega arith in
    rw s (ap (word_is 1) (sym z) ∙ word-last 7 b h at 0 0 on (omega arith))

-- ---- all of them
pub fill-ends : (b : List ℕ) (h end at place : ℕ) → at ≡ h → rest_fills b h end at place ≡ eqb place end
unfolding sizes
fill-ends b h end at place e = let z : place + 0 ≡ place = omega arith in ap (fills end place) (types-end b h at e) ∙ ap (λ n. eqb n end) z

pub fill-past : (b : List ℕ) (h end at place : ℕ) → h < at → rest_fills b h end at place ≡ false
fill-past b h end at place l =
    ap (fills end place) (types-short b h at (λ e. omega arith) (ap (λ (w : Word). w.length) (varint-past b at h (omega arith))))

-- ---- the whole record
read_by : (b : List ℕ) (h : ℕ) (ts : Types) → reads (filling b h ts) ≡ fills (length b) h ts
read_by b h broken = refl
read_by b h (types ts) = go (eqb (h + sizes ts) (length b)) refl
  where
    go : (x : Bool) → eqb (h + sizes ts) (length b) ≡ x → reads (cond (eqb (h + sizes ts) (length b)) (types ts) broken) ≡ eqb (h + sizes ts) (length b)
    go true e = rw e
    go false e = rw e

reads_whole : (b : List ℕ) → 0 < own_of b → reads_of b ≡ rest_fills b (header_of b) (length b) (own_of b) (header_of b)
unfolding reads_of types_of
reads_whole b g = rw (ne_eqb (own_of b) 0 (λ e. omega arith)) (read_by b (header_of b) (types_at b (header_of b) (own_of b)))

-- ---- what the first bytes a of a record of n bytes tell
module _ (a : List ℕ) (n : ℕ) where
  told-yes : ((rest : List ℕ) → length (a ++ rest) ≡ n → reads_of (a ++ rest) ≡ true) → Told a n Yes
  told-yes f =
      record {
        yes = λ e. f;
        no = λ e. absurd (let z : ◌≡◌ {A = ℕ} 0 1 = cc in omega arith);
        more = λ e. absurd (let z : ◌≡◌ {A = ℕ} 0 1 = cc in omega arith);
      }

  told-no : ((rest : List ℕ) → length (a ++ rest) ≡ n → reads_of (a ++ rest) ≡ false) → Told a n No
  told-no f =
      record {
        yes = λ e. absurd (let z : ◌≡◌ {A = ℕ} 0 1 = cc in omega arith);
        no = λ e. f;
        more = λ e. absurd (let z : ◌≡◌ {A = ℕ} 0 1 = cc in omega arith);
      }

  module _ (w : Word) (is : w ≡ varint_at a 0 (length a)) where
    own : own_of a ≡ w.length
    own = ap (λ (w : Word). w.length) (sym is)

    -- no header length, and there is nothing more
    alone : w.length ≡ 0 → reads_of a ≡ false
    unfolding reads_of types_of
    alone z = rw (eq-eqb (own_of a) 0 (own ∙ z))

    pub told_none : w.length ≡ 0 → n ≤ length a → Told a n No
    told_none z l = told-no go
      where
        go : (rest : List ℕ) → length (a ++ rest) ≡ n → reads_of (a ++ rest) ≡ false
        go [] e = ap reads_of (append-nil a) ∙ alone z
        go (x ∷ xs) e = absurd (omega (arith, length-append a (x ∷ xs)))

    module _ (some : w.length ≡ 0 → ⊥) where
      by-head : (rest : List ℕ) → length (a ++ rest) ≡ n → reads_of (a ++ rest) ≡ rest_fills (a ++ rest) w.bits n w.length w.bits
      by-head rest e =
          let k : varint_at (a ++ rest) 0 (length (a ++ rest)) ≡ w = head-kept a rest (omega (arith, own, some)) ∙ sym is in
          let g : 0 < own_of (a ++ rest) = omega (arith, ap (λ (w : Word). w.length) k, some) in
          reads_whole (a ++ rest) g
          ∙ ap (λ (v : Word). rest_fills (a ++ rest) v.bits (length (a ++ rest)) v.length v.bits) k
          ∙ ap (λ m. rest_fills (a ++ rest) w.bits m w.length w.bits) e

      -- the header runs past the record
      pub told-beyond : n < w.bits → Told a n No
      told-beyond l = told-no (λ rest e. by-head rest e ∙ fills-over n w.bits (types_at (a ++ rest) w.bits w.length) l)

      -- all of it is there
      module _ (x : Bool) (l : w.bits ≤ length a) (e : x ≡ rest_fills a w.bits n w.length w.bits) where
        whole : (rest : List ℕ) → length (a ++ rest) ≡ n → reads_of (a ++ rest) ≡ x
        whole rest k = by-head rest k ∙ ap (fills n w.bits) (types-kept a rest _ w.bits w.length l) ∙ sym e

        pub told-fills : x ≡ true → Told a n Yes
        told-fills t = told-yes (λ rest k. whole rest k ∙ t)

        pub told-fails : x ≡ false → Told a n No
        told-fails t = told-no (λ rest k. whole rest k ∙ t)
