-- The pass over a record's serial types: a law for each step and each way out.
use Prim.Native.Nat.{ℕ, ◌+◌, ◌-◌, ◌<◌, ◌≤◌}
use mathlib.Core.Path.{◌≡◌, refl, sym, ap, ◌∙◌}
use mathlib.Core.Bool.{true, false, cond}
use mathlib.Core.List.{List}
use mathlib.Core.Logic.{◌⊎◌, inl, inr, ⊎_elim}
use lib.Dec.{eqb, ltb}
use lib.ListN.{length}
use native.Mathlib.Omega.{arith}
use borrow.Author.Tests.{eq-eqb, ne_eqb, lt-ltb, le-ltb}
use Rattle.number.proofs.Cases.{lt-or-ge}
use Rattle.number.proofs.VarintLaws.{varint-past, varint-whole}
use Rattle.number.specs.Varint.{varint_at, varint_length, varint_bits}
use Rattle.number.specs.declared.Word.{Word}
use Rattle.record.proofs.Pass.{scan_over, scan_from, from-over, from-header}
use Rattle.record.proofs.TypesLaws.{types-end, types-short, types-refused, types-next}
use Rattle.record.specs.Serial.{refused, size_of}
use Rattle.record.specs.Record.{Types, broken, types, first, types_at, filling}
use Rattle.record.specs.Scan.{summary}
use Rattle.record.specs.declared.Spot.{Spot}
use Rattle.std.specs.Prelude.{Option, Some, None}

-- what kind and from tell of column i, once n columns were met
abbrev pub met : (i n kind from : ℕ) → Option Spot
met i n kind from = cond (eqb i 0) None (cond (ltb n i) None (Some (record { kind = kind; place = from })))

module _ (i n kind from : ℕ) where
  pub met-not : (i ≡ 0) ⊎ ((i ≡ 0 → ⊥) × (n < i)) → None ≡ met i n kind from
  met-not q =
      ⊎_elim
      (λ (z : i ≡ 0). simp (eq-eqb i 0 z))
      (λ (z : (i ≡ 0 → ⊥) × (n < i)). simp (ne_eqb i 0 z.0, lt-ltb n i z.1))
      q

  pub met-is : (i ≡ 0 → ⊥) → i ≤ n → Some (record { kind = kind; place = from }) ≡ met i n kind from
  met-is z l = simp (ne_eqb i 0 z, le-ltb n i l)

pub met-start : (i : ℕ) → None ≡ met i 0 0 0
met-start i =
    ⊎_elim
    (λ (q : 0 < i). let z : i ≡ 0 → ⊥ = λ e. omega arith in met-not i 0 0 0 (inr (z, q)))
    (λ (q : i ≤ 0). met-not i 0 0 0 (inl (omega arith)))
    (lt-or-ge 0 i)

pub met-hit : (i n kind from kind' from' : ℕ) → n + 1 ≡ i → kind' ≡ kind → from' ≡ from → met i (n + 1) kind' from' ≡ Some (record { kind = kind; place = from })
met-hit i n kind from kind' from' e k f = rw (k, f) (sym (met-is i (n + 1) kind from (λ z. omega arith) (omega arith)))

pub met-passed : (i n kind from kind' from' : ℕ) → (n + 1 ≡ i → ⊥) → kind' ≡ kind → from' ≡ from → met i (n + 1) kind' from' ≡ met i n kind from
met-passed i n kind from kind' from' e k f =
    ⊎_elim
    (λ (q : n < i). let l : n + 1 < i = omega arith in rw (k, f) (simp (lt-ltb n i q, lt-ltb (n + 1) i l)))
    (λ (q : i ≤ n). let l : i ≤ n + 1 = omega arith in rw (k, f) (simp (le-ltb n i q, le-ltb (n + 1) i l)))
    (lt-or-ge n i)

module _ (i place n : ℕ) (found : Option Spot) (t : ℕ) where
  -- what is told of column i after one of type t: it was that, or not
  abbrev pub after_type : Option Spot
  after_type = cond (eqb (n + 1) i) (Some (record { kind = t; place = place })) found

  pub hit : n + 1 ≡ i → Some (record { kind = t; place = place }) ≡ after_type
  hit e = simp (eq-eqb (n + 1) i e)

  pub passed : (n + 1 ≡ i → ⊥) → found ≡ after_type
  passed e = simp (ne_eqb (n + 1) i e)

module _ (b : List ℕ) (i place n : ℕ) (found : Option Spot) (t : ℕ) where
  step-on : (r : Types) → scan_from b i place n found (first t r) ≡ scan_from b i (place + size_of t) (n + 1) (after_type i place n found t) r
  unfolding scan_over
  step-on broken = refl
  step-on (types ts) = refl

  step-long : (r : Types) → length b < place + size_of t → scan_from b i place n found (first t r) ≡ None
  step-long r p = step-on r ∙ from-over b i (place + size_of t) (n + 1) (after_type i place n found t) r p

-- where the pass stands; what becomes of the rest becomes of the whole
pub record Scanning (b : List ℕ) (own header i end at place n : ℕ) (found : Option Spot) : Type 0 where
  pub ending : end ≡ length b
  pub bound : header ≤ length b
  pub within : place ≤ length b
  pub counted : n ≤ at
  pub rest : summary i header (filling b header (types_at b header own)) ≡ scan_from b i place n found (types_at b header at)

pub scan-start : (b : List ℕ) (own header i : ℕ) → header ≤ length b → Scanning b own header i (length b) own header 0 None
scan-start b own header i h = record {
  ending = refl;
  bound = h;
  within = h;
  counted = omega arith;
  rest = sym (from-header b i header (types_at b header own));
}

-- the header ends past the record
pub scan-beyond : (b : List ℕ) (own header i : ℕ) → length b < header → None ≡ summary i header (filling b header (types_at b header own))
scan-beyond b own header i p = sym (from-over b i header 0 None (types_at b header own) p) ∙ from-header b i header (types_at b header own)

-- it ends within its own length
pub scan-within : (b : List ℕ) (own header i : ℕ) → header < own → None ≡ summary i header (filling b header (types_at b header own))
scan-within b own header i l =
    let none : varint_length b own header ≡ 0 = ap (λ (v : Word). v.length) (varint-past b own header (omega arith)) in
    sym (ap (λ (t : Types). summary i header (filling b header t)) (types-short b header own (λ e. omega arith) none))

-- the word read where the header is not at its end
pub record Next (b : List ℕ) (own header i end at place n : ℕ) (found : Option Spot) (w : Word) : Type 0 where
  pub stands : Scanning b own header i end at place n found
  pub on : at ≡ header → ⊥
  pub word : w ≡ varint_at b at header

-- it is a serial type, whose values take `size` bytes
pub record Sized (b : List ℕ) (own header i end at place n : ℕ) (found : Option Spot) (w : Word) (size : ℕ) : Type 0 where
  pub next : Next b own header i end at place n found w
  pub some : w.length ≡ 0 → ⊥
  pub fine : refused w.bits ≡ false
  pub sized : size ≡ size_of w.bits

module _ {b : List ℕ} {own header i end at place n : ℕ} {found : Option Spot} where
  -- the header is at its end
  module _ (s : Scanning b own header i end at place n found) (e : at ≡ header) where
    pub scan-gap : (place ≡ end → ⊥) → None ≡ summary i header (filling b header (types_at b header own))
    unfolding scan_over
    scan-gap p =
        sym (s.rest ∙ ap (scan_from b i place n found) (types-end b header at e)
        ∙ (simp (ne_eqb place (length b) (λ q. p (q ∙ sym s.ending)))))

    pub scan-whole : place ≡ end → Some (record { count = n; found = found }) ≡ summary i header (filling b header (types_at b header own))
    unfolding scan_over
    scan-whole p =
        sym (s.rest ∙ ap (scan_from b i place n found) (types-end b header at e)
        ∙ (simp (eq-eqb place (length b) (p ∙ s.ending))))

  module _ {w : Word} (x : Next b own header i end at place n found w) where
    len : varint_length b at header ≡ w.length
    len = ap (λ (v : Word). v.length) (sym x.word)

    bits : varint_bits b at header ≡ w.bits
    bits = ap (λ (v : Word). v.bits) (sym x.word)

    pub scan-short : w.length ≡ 0 → None ≡ summary i header (filling b header (types_at b header own))
    scan-short z = sym (x.stands.rest ∙ ap (scan_from b i place n found) (types-short b header at x.on (len ∙ z)))

    pub scan-refused : refused w.bits ≡ true → None ≡ summary i header (filling b header (types_at b header own))
    scan-refused r = sym (x.stands.rest ∙ ap (scan_from b i place n found) (types-refused b header at x.on (ap refused bits ∙ r)))

  module _ {w : Word} {size : ℕ} (x : Sized b own header i end at place n found w size) where
    -- it ends within the header
    pub scan-ends : (0 < w.length) × (at + w.length ≤ header)
    scan-ends =
        let l = len x.next in
        let k = varint-whole b at header (omega (arith, l, x.some)) in
        omega (arith, l, k.some, k.ends)

    after : types_at b header at ≡ first w.bits (types_at b header (at + w.length))
    after =
        types-next b header at x.next.on (omega (arith, len x.next, x.some)) (ap refused (bits x.next) ∙ x.fine)
        ∙ ap (λ (t : ℕ). first t (types_at b header (at + varint_length b at header))) (bits x.next)
        ∙ ap (λ (l : ℕ). first w.bits (types_at b header (at + l))) (len x.next)

    now : summary i header (filling b header (types_at b header own)) ≡ scan_from b i place n found (first w.bits (types_at b header (at + w.length)))
    now = x.next.stands.rest ∙ ap (scan_from b i place n found) after

    pub scan-long : end - place < size → None ≡ summary i header (filling b header (types_at b header own))
    scan-long l =
        let s = x.next.stands in
        sym (now ∙ step-long b i place n found w.bits (types_at b header (at + w.length)) (omega (arith, x.sized, s.ending, s.within)))

    -- one type further
    pub scan-on : size ≤ end - place → (found' : Option Spot) → found' ≡ after_type i place n found w.bits
        → Scanning b own header i end (at + w.length) (place + size) (n + 1) found'
    scan-on l found' e = let s = x.next.stands in record {
      ending = s.ending;
      bound = s.bound;
      within = omega (arith, s.ending, s.within);
      counted = omega (arith, s.counted, scan-ends);
      rest =
          now ∙ step-on b i place n found w.bits (types_at b header (at + w.length))
          ∙ ap (λ (v : ℕ). scan_from b i (place + v) (n + 1) (after_type i place n found w.bits) (types_at b header (at + w.length))) (sym x.sized)
          ∙ ap (λ (f : Option Spot). scan_from b i (place + size) (n + 1) f (types_at b header (at + w.length))) (sym e);
    }
