-- The scan of the records, by what is left: whatever becomes of the rest becomes of the whole.
use Rattle.std.proofs.Common.{◌≡◌, ℕ, suc, ◌+◌, ◌-◌, ◌<◌, ◌≤◌, Bool, true, false, cond, not, eqb, ltb, List, [], ◌∷◌, length, sym, refl, ap, ◌∙◌, ⊎_elim, arith, le-ltb, lt-ltb, ne_eqb}
use borrow.Author.Tests.{not-true}
use Rattle.number.proofs.Cases.{lt-or-ge}
use Rattle.number.specs.Bytes.{be}
use Rattle.paging.specs.Bits.{Put, Noted}
use Rattle.paging.proofs.BitLaws.{noted-put}
use Rattle.journal.specs.Header.{pages_in}
use Rattle.journal.specs.Records.{Record, record_at, offer, carries, twice}
use Rattle.journal.specs.Fields.{Fields}
use Rattle.journal.specs.Marks.{marked, either, any_marked, clash, Scan}
use Rattle.journal.specs.declared.Reader.{Reader}
use Rattle.journal.proofs.ReaderLaws.{rest_of, Stands, Settled, here-rest}
use Rattle.journal.proofs.MarkLaws.{Fit, records-fit, marked-noted, clash-next, clash-skip}

-- the loop of `scan`: `all` are the records from the start on, with the marks m₀; `rest` are those that are left, with the marks m
pub record Scanning (j : List ℕ) (size n : ℕ) (m₀ : List ℕ) (all : List Record) (m : List ℕ) (rest : List Record) : Type 0 where
  pub long : length m ≡ length m₀
  pub clashes : clash m rest ≡ clash m₀ all
  pub marks : (p : ℕ) → 1 ≤ p → p ≤ n → either (marked m p) (carries rest p) ≡ either (marked m₀ p) (carries all p)
  pub fit : Fit j size n rest

either-false : (b : Bool) → either b false ≡ b
either-false true = refl
either-false false = refl

true-false : {A : Type 0} → true ≡ false → A
true-false e = absurd (let z : ◌≡◌ {A = ℕ} 0 1 = cc in omega arith)

-- marks and records, with page p marked
marked_next : (n : ℕ) (m m' : List ℕ) (p q : ℕ) (rest : List Record) → Noted n m p m' → 1 ≤ q → q ≤ n
    → either (marked m' q) (carries rest q) ≡ either (marked m q) (either (eqb p q) (carries rest q))
marked_next n m m' p q rest h a b = rw (marked-noted n m m' p q h a b) (turned (eqb p q) (marked m q) (carries rest q))
  where
    turned : (e x c : Bool) → either (either e x) c ≡ either x (either e c)
    turned true true c = refl
    turned true false c = refl
    turned false x c = refl

pub scan-none : (n : ℕ) (all : List Record) (m : List ℕ) → all ≡ [] → Scan n all m m false
unfolding any_marked twice carries
scan-none n all m e = rw e (record { clashes = refl; marks = λ f p a b. sym (either-false (marked m p)) })

module _ (j : List ℕ) (size n : ℕ) (m₀ : List ℕ) (all : List Record) where
  pub scan-start : Fit j size n all → Scanning j size n m₀ all m₀ all
  scan-start f = record { long = refl; clashes = refl; marks = λ p a b. refl; fit = f }

  module _ (m : List ℕ) (rest : List Record) (i : Scanning j size n m₀ all m rest) where
    pub scan-out : rest ≡ [] → Scan n all m₀ m false
    unfolding any_marked twice carries
    scan-out e = record { clashes = (rw e at i.clashes); marks = λ f p a b. sym (either-false (marked m p)) ∙ (rw e at (i.marks p a b)) }

    -- a page above n marks nothing
    scan-skip : (m' : List ℕ) (p : ℕ) → n < p → Noted n m p m' → Scanning j size n m₀ all m' rest
    scan-skip m' p h noted =
        record {
          long = noted.same ∙ i.long;
          clashes = clash-skip j size n m m' p rest noted h i.fit ∙ i.clashes;
          marks = λ q a b.
              let ne : eqb p q ≡ false = ne_eqb p q (λ e. omega arith) in
              marked_next n m m' p q rest noted a b ∙ rw ne (i.marks q a b);
          fit = i.fit;
        }

    module _ (r : Record) (rest' : List Record) (e : rest ≡ r ∷ rest') where
      pub scan-twice : (m' : List ℕ) → marked m r.number ≡ true → Scan n all m₀ m' true
      unfolding any_marked
      scan-twice m' t =
          let h : clash m (r ∷ rest') ≡ true = simp t in
          record { clashes = sym h ∙ sym (ap (clash m) e) ∙ i.clashes; marks = λ z. true-false z }

      scan-noted : (m' : List ℕ) → marked m r.number ≡ false → Noted n m r.number m' → Scanning j size n m₀ all m' rest'
      unfolding carries
      scan-noted m' t noted =
          let f : Fit j size n (r ∷ rest') = rw e at i.fit in
          record {
            long = noted.same ∙ i.long;
            clashes = clash-next j size n m m' r rest' noted t f.3 ∙ sym (ap (clash m) e) ∙ i.clashes;
            marks = λ q a b. marked_next n m m' r.number q rest' noted a b ∙ rw e at (i.marks q a b);
            fit = f.3;
          }

      pub scan-taken : (m' : List ℕ) → marked m r.number ≡ false → Put m (r.number - 1) m' → Scanning j size n m₀ all m' rest'
      scan-taken m' t put = let f : Fit j size n (r ∷ rest') = rw e at i.fit in scan-noted m' t (noted-put n m m' r.number f.0 put)

-- ---- by the journal's bytes, where records above n stand too

-- a record for page p is new, or above n and so skipped
unfoldable pub fresh : (n : ℕ) (m : List ℕ) (p : ℕ) → Bool
fresh n m p = cond (ltb n p) true (not (marked m p))

-- the reader r stands at a record or at the end; it began at r₀, with the marks m₀, and there are the marks m now
pub record Marking (j : List ℕ) (n : ℕ) (m₀ : List ℕ) (r₀ : Reader) (m : List ℕ) (r : Reader) : Type 0 where
  pub long : length m ≡ length m₀
  pub clashes : clash m (rest_of j r) ≡ clash m₀ (rest_of j r₀)
  pub marks : (p : ℕ) → 1 ≤ p → p ≤ n → either (marked m p) (carries (rest_of j r) p) ≡ either (marked m₀ p) (carries (rest_of j r₀) p)
  pub stands : Stands j r

-- a record at the reader r, which carries page p; `rest` is what stands behind it
module _ (j : List ℕ) (n : ℕ) (at p : ℕ) (is-n : n ≡ pages_in j) (is-p : p ≡ be 4 j at) (rest : List Record) where
  skipped : n < p → offer j at rest ≡ rest
  unfolding offer
  skipped h = simp (lt-ltb (pages_in j) (be 4 j at) (omega arith))

  taken : p ≤ n → offer j at rest ≡ record_at j at ∷ rest
  unfolding offer
  taken h = simp (le-ltb (pages_in j) (be 4 j at) (omega arith))

module _ (j : List ℕ) (m₀ m : List ℕ) (r₀ r : Reader) (size sector n : ℕ) (i : Marking j n m₀ r₀ m r) (f : Fields j size sector n)
    (some : r.left ≡ 0 → ⊥)
    (p : ℕ) (is-p : p ≡ be 4 j r.at) (b : Bool) (is_b : b ≡ fresh n m p) where
  scanning : Scanning j size n m₀ (rest_of j r₀) m (rest_of j r)
  scanning =
      record {
        long = i.long;
        clashes = i.clashes;
        marks = i.marks;
        fit = records-fit j size n f.sizes.is_size f.is_pages (suc (length j)) r.nonce r.left r.at;
      }

  pub scan-next : (m' : List ℕ) (r' : Reader) → b ≡ true → Noted n m p m'
      → Settled j (record { at = r.at + size + 8; left = r.left - 1; nonce = r.nonce }) r' → Marking j n m₀ r₀ m' r'
  unfolding fresh
  scan-next m' r' new noted s =
      let now : rest_of j r ≡ offer j r.at (rest_of j r') = here-rest j size sector n f r i.stands some r' s in
      let on : Scanning j size n m₀ (rest_of j r₀) m' (rest_of j r') =
      ⊎_elim
      (λ (h : n < p).
      rw (now ∙ skipped j n r.at p f.is_pages is-p (rest_of j r') h) at (scan-skip j size n m₀ (rest_of j r₀) m (rest_of j r) scanning m' p h noted))
      (λ (h : p ≤ n).
      let t : marked m p ≡ false = not-true (marked m p) (simp (le-ltb _ _ h) at (sym is_b ∙ new)) in
      scan-noted j size n m₀ (rest_of j r₀) m (rest_of j r) scanning (record_at j r.at) (rest_of j r')
      (now ∙ taken j n r.at p f.is_pages is-p (rest_of j r') h) m' (rw is-p at t) (rw is-p at noted))
      (lt-or-ge n p) in
      record { long = on.long; clashes = on.clashes; marks = on.marks; stands = s.stands }
