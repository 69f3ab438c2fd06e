-- Marks speak for the records: a clash is a page that stands twice, and a page without a mark is one that no record carries.
use Rattle.std.proofs.Common.{◌≡◌, ℕ, zero, suc, ◌+◌, ◌-◌, ◌*◌, ◌<◌, ◌≤◌, Bool, true, false, cond, eqb, ltb, List, [], ◌∷◌, length, sym, refl, ap, ◌∙◌, ⊎_elim, true≢false, arith, ltb-false, le-ltb, lt-ltb, ne_eqb, eqb-true}
use native.Mathlib.Nat.{le-suc_iff}
use borrow.Author.Tests.{eqb-false}
use Rattle.number.proofs.Cases.{lt-or-ge, true-or-false, by_cond}
use Rattle.number.specs.Bytes.{be}
use Rattle.paging.specs.Pages.{lock_page}
use Rattle.paging.specs.Bits.{bit_at, Clear, Noted}
use Rattle.paging.specs.Bits as B
use Rattle.paging.proofs.BitLaws.{eqb-turned}
use Rattle.journal.specs.Header.{nonce_at, most_at, pages_in, sector_of, size_of, headed}
use Rattle.journal.specs.Records.{Record, after, ends, offer, sector_from, records_from, carries, twice, laid}
use Rattle.journal.specs.Recovery.{lacks, missing}
use Rattle.journal.specs.Marks.{marked, either, any_marked, clash}
use Rattle.journal.proofs.RecordLaws.{going_on, lock-ends}
use Rattle.journal.proofs.ReadingLaws.{step-over, step-header, step-none, step-record, step-ends}

-- each record's number is of 1 to n, and its page lies in the journal
abbrev pub Fit : (j : List ℕ) (size n : ℕ) → List Record → Type 0
Fit j size n [] = Unit {0}
Fit j size n (r ∷ rs) = (1 ≤ r.number) × (r.number ≤ n) × (r.place + size ≤ length j) × Fit j size n rs

offered : (j : List ℕ) (size n at : ℕ) → size ≡ size_of j → n ≡ pages_in j → (after j at ≤ length j) × (1 ≤ be 4 j at)
    → (rs : List Record) → Fit j size n rs
    → Fit j size n (offer j at rs)
unfolding offer
offered j size n at es en w rs rest =
    ⊎_elim
    (λ (h : pages_in j < be 4 j at). rw (lt-ltb _ _ h) rest)
    (λ (h : be 4 j at ≤ pages_in j). rw (le-ltb _ _ h) (w.1, omega arith, omega (arith, w.0), rest))
    (lt-or-ge (pages_in j) (be 4 j at))

-- the records that are laid down are whole, and their numbers are of 1 to n
pub records-fit : (j : List ℕ) (size n : ℕ) → size ≡ size_of j → n ≡ pages_in j → (f nonce left at : ℕ) → Fit j size n (records_from f j nonce left at)
records-fit j size n es en zero nonce left at = rw (step-over j nonce left at) tt
records-fit j size n es en (suc f) nonce left at =
    ⊎_elim
    (λ (z : eqb left 0 ≡ true).
    ⊎_elim
    (λ (h : headed j (sector_from j at) ≡ true). rw (step-header j f nonce left at (eqb-true left 0 z) h) (records-fit j size n es en f _ _ _))
    (λ (h : headed j (sector_from j at) ≡ false). rw (step-none j f nonce left at (eqb-true left 0 z) h) tt)
    (true-or-false (headed j (sector_from j at))))
    (λ (z : eqb left 0 ≡ false).
    ⊎_elim
    (λ (e : ends j nonce at ≡ true). rw (step-ends j f nonce left at (eqb-false left 0 z) e) tt)
    (λ (e : ends j nonce at ≡ false).
    rw (step-record j f nonce left at (eqb-false left 0 z) e)
    (offered j size n at es en (going_on j nonce at e) (records_from f j nonce (left - 1) (after j at)) (records-fit j size n es en f _ _ _)))
    (true-or-false (ends j nonce at)))
    (true-or-false (eqb left 0))

pub laid-fit : (j : List ℕ) (size n : ℕ) → size ≡ size_of j → n ≡ pages_in j → Fit j size n (laid j)
laid-fit j size n es en = records-fit j size n es en (suc (length j)) (nonce_at j 0) (most_at j 0) (sector_of j)

-- no record that is laid down carries the lock-byte page
offered-unlocked : (j : List ℕ) (at : ℕ) → (be 4 j at ≡ lock_page (size_of j) → ⊥) → (rs : List Record) → carries rs (lock_page (size_of j)) ≡ false
    → carries (offer j at rs) (lock_page (size_of j)) ≡ false
unfolding offer carries
offered-unlocked j at ne rs h =
    by_cond (λ (l : List Record). carries l (lock_page (size_of j)) ≡ false) (ltb (pages_in j) (be 4 j at)) _ _ (λ z. h) (λ z. rw (ne_eqb _ _ ne) h)

records-unlocked : (j : List ℕ) (f nonce left at : ℕ) → carries (records_from f j nonce left at) (lock_page (size_of j)) ≡ false
unfolding carries
records-unlocked j zero nonce left at = rw (step-over j nonce left at) refl
records-unlocked j (suc f) nonce left at =
    ⊎_elim
    (λ (z : eqb left 0 ≡ true).
    ⊎_elim
    (λ (h : headed j (sector_from j at) ≡ true). rw (step-header j f nonce left at (eqb-true left 0 z) h) (records-unlocked j f _ _ _))
    (λ (h : headed j (sector_from j at) ≡ false). rw (step-none j f nonce left at (eqb-true left 0 z) h) refl)
    (true-or-false (headed j (sector_from j at))))
    (λ (z : eqb left 0 ≡ false).
    ⊎_elim
    (λ (e : ends j nonce at ≡ true). rw (step-ends j f nonce left at (eqb-false left 0 z) e) refl)
    (λ (e : ends j nonce at ≡ false).
    rw (step-record j f nonce left at (eqb-false left 0 z) e)
    (offered-unlocked j at (λ l. true≢false (sym (lock-ends j nonce at l) ∙ e)) (records_from f j nonce (left - 1) (after j at))
    (records-unlocked j f _ _ _)))
    (true-or-false (ends j nonce at)))
    (true-or-false (eqb left 0))

pub laid-unlocked : (j : List ℕ) → carries (laid j) (lock_page (size_of j)) ≡ false
laid-unlocked j = records-unlocked j (suc (length j)) (nonce_at j 0) (most_at j 0) (sector_of j)

-- what a record carries is of 1 to n
carried : (j : List ℕ) (size n : ℕ) (rs : List Record) (p : ℕ) → Fit j size n rs → n < p → carries rs p ≡ false
unfolding carries
carried j size n [] p f h = refl
carried j size n (r ∷ rs) p f h = rw (ne_eqb r.number p (λ e. omega (arith, f.1))) (carried j size n rs p f.3 h)

-- ---- marks, of pages 1 to n
pub marked-noted : (n : ℕ) (m m' : List ℕ) (p q : ℕ) → Noted n m p m' → 1 ≤ q → q ≤ n → marked m' q ≡ either (eqb p q) (marked m q)
marked-noted n m m' p q h a b =
    let e : suc (q - 1) ≡ q = omega arith in
    h.entry (q - 1) (omega arith) ∙ ap (λ (x : ℕ). either (eqb p x) (marked m q)) e

pub either_same : (a b c : Bool) → either (either a b) c ≡ either a (either b c)
either_same true b c = refl
either_same false b c = refl

-- with page p marked, the records that have a marked page are those that had one, and those that carry p
any-noted : (j : List ℕ) (size n : ℕ) (m m' : List ℕ) (p : ℕ) → Noted n m p m' → (rs : List Record) → Fit j size n rs
    → any_marked m' rs ≡ either (any_marked m rs) (carries rs p)
unfolding any_marked carries
any-noted j size n m m' p h [] f = refl
any-noted j size n m m' p h (r ∷ rs) f =
    rw (marked-noted n m m' p r.number h f.0 f.1, any-noted j size n m m' p h rs f.3, eqb-turned p r.number)
    (turned (eqb r.number p) (marked m r.number) (any_marked m rs) (carries rs p))
  where
    turned : (e x a c : Bool) → either (either e x) (either a c) ≡ either (either x a) (either e c)
    turned true true a c = refl
    turned true false true c = refl
    turned true false false c = refl
    turned false true a c = refl
    turned false false true c = refl
    turned false false false c = refl

-- the next record's page marked: a clash with those that are left
pub clash-next : (j : List ℕ) (size n : ℕ) (m m' : List ℕ) (r : Record) (rs : List Record) → Noted n m r.number m'
    → marked m r.number ≡ false → Fit j size n rs
    → clash m' rs ≡ clash m (r ∷ rs)
unfolding any_marked twice
clash-next j size n m m' r rs h new f =
    rw (any-noted j size n m m' r.number h rs f, new) (either_same (any_marked m rs) (carries rs r.number) (twice rs))

-- a page above n marks nothing
pub clash-skip : (j : List ℕ) (size n : ℕ) (m m' : List ℕ) (p : ℕ) (rs : List Record) → Noted n m p m' → n < p → Fit j size n rs
    → clash m' rs ≡ clash m rs
clash-skip j size n m m' p rs h above f = rw (any-noted j size n m m' p h rs f, carried j size n rs p f above) (dropped (any_marked m rs) (twice rs))
  where
    dropped : (a b : Bool) → either (either a false) b ≡ either a b
    dropped true b = refl
    dropped false b = refl

-- from no marks, a clash is a page that stands twice
pub clash-twice : (m : List ℕ) → Clear m → (rs : List Record) → clash m rs ≡ twice rs
unfolding any_marked
clash-twice m c rs = rw (none rs) refl
  where
    none : (l : List Record) → any_marked m l ≡ false
    none [] = refl
    none (r ∷ l) = rw (c.none (r.number - 1), none l) refl

-- with a mark for each page that a record carries, and for the lock-byte page, what no mark and no image covers is missing
pub lacks-missing : (j image m : List ℕ) (size n : ℕ) → size ≡ size_of j
    → ((p : ℕ) → 1 ≤ p → p ≤ n → marked m p ≡ either (eqb p (lock_page size)) (carries (laid j) p))
    → (k : ℕ) → k ≤ n → B.lacks m (length image) size k ≡ missing j image k
unfolding B.lacks missing lacks
lacks-missing j image m size n e h zero l = refl
lacks-missing j image m size n e h (suc k) l =
    let i : suc k - 1 ≡ k = omega arith in
    let here : bit_at m k ≡ either (eqb (suc k) (lock_page size)) (carries (laid j) (suc k)) = ap (bit_at m) (sym i) ∙ h (suc k) (omega arith) l in
    rw (lacks-missing j image m size n e h k (omega arith), here, e)
    (turned (missing j image k) (eqb (suc k) (lock_page (size_of j))) (carries (laid j) (suc k)) (ltb (length image) (suc k * size_of j)))
  where
    turned : (a l c x : Bool) → cond a true (cond (either l c) false x) ≡ cond a true (cond l false (cond c false x))
    turned true l c x = refl
    turned false true c x = refl
    turned false false c x = refl

-- where none is missing, each page of 1 to n but the lock-byte page is carried or lies within the image
pub none-missing : (j image : List ℕ) (n : ℕ) → missing j image n ≡ false → (p : ℕ) → 1 ≤ p → p ≤ n → (p ≡ lock_page (size_of j) → ⊥)
    → carries (laid j) p ≡ false
    → p * size_of j ≤ length image
unfolding missing lacks
none-missing j image zero f p a b ne c = absurd (omega arith)
none-missing j image (suc n) f p a b ne c =
    ⊎_elim
    (λ (l : p ≤ n). none-missing j image n (head (missing j image n) (lacks j image (suc n)) f) p a l ne c)
    (λ (e : p ≡ suc n).
    let here : lacks j image p ≡ false = rw e (tail (missing j image n) (lacks j image (suc n)) f) in
    ltb-false (length image) (p * size_of j) (simp (ne_eqb p (lock_page (size_of j)) ne, c) at here))
    (le-suc_iff.0 b)
  where
    head : (x y : Bool) → cond x true y ≡ false → x ≡ false
    head true y h = h
    head false y h = refl

    tail : (x y : Bool) → cond x true y ≡ false → y ≡ false
    tail true y h = absurd (let z : ◌≡◌ {A = ℕ} 0 1 = cc in omega arith)
    tail false y h = h
