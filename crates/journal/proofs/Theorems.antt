-- What recovery from a journal gives, page by page. The words are those of specs/.
use Rattle.std.proofs.Common.{◌≡◌, ℕ, suc, ◌+◌, ◌-◌, ◌*◌, ◌%◌, ◌<◌, ◌≤◌, Bool, true, false, cond, not, eqb, ltb, List, [], ◌∷◌, ◌++◌, length, drop, sym, refl, ap, ◌∙◌, ⊎_elim, true≢false, mul-le-mul_left, arith, ltb-false, eq-eqb, ne_eqb, eqb-true}
use mathlib.Core.List.Memᴰ
use mathlib.Core.List.{Memᴰ as Mem}
use borrow.Author.Tests.{not-false}
use Rattle.number.proofs.Cases.{true-or-false}
use Rattle.number.specs.Bytes.{be, part}
use Rattle.paging.specs.Pages.{page_limit, lock_page, lock_bytes, join_pages, size_fits}
use Rattle.paging.proofs.PagesLaws.{page-of-join, fits-range}
use Rattle.paging.proofs.LockLaws.{lock-one}
use Rattle.journal.specs.Header.{absent, nonce_at, most_at, pages_in, sector_of, size_of, headed}
use Rattle.journal.specs.Records.{Record, ends, sector_from, laid, carries, place_of, twice}
use Rattle.journal.specs.Recovery.{refused, shown, missing, restored, recovery, output}
use Rattle.journal.specs.Recovered as D
use Rattle.journal.specs.Reading.{rest_from}
use Rattle.journal.specs.Segments.{Reached, Read, count_from, laid_from, end_of}
use Rattle.journal.proofs.RecordLaws.{lock-ends}
use Rattle.journal.proofs.ReadingLaws.{not-headed, step-none, step-ends, rest-header}
use Rattle.journal.proofs.SegmentLaws.{laid-read, reached-laid, none-behind, alone, followed, next_multiple}
use Rattle.journal.proofs.MarkLaws.{Fit, laid-fit, laid-unlocked}
use Rattle.journal.proofs.RestoreLaws.{shown-sized}

-- recovery by a journal that is there succeeds
pub record Recovers (j image out : List ℕ) : Type 0 where
  pub there : absent j ≡ false
  pub done : (recovery j image (length out)).refusal ≡ 0

-- the tests that were passed then
record Passed (j image out : List ℕ) : Type 0 where
  pub size : size_fits (size_of j) ≡ true
  pub once : twice (laid j) ≡ false
  pub none : missing j image (pages_in j) ≡ false
  pub room : pages_in j * size_of j ≤ length out

-- members of the records laid down
carries-member : (rs : List Record) (x : Record) → Mem x rs → carries rs x.number ≡ true
unfolding carries
carries-member [] x m = absurd (Memᴰ.not-nil m)
carries-member (r ∷ rs) x m =
    ⊎_elim
    (λ (e : x ≡ r). simp (eq-eqb r.number x.number (ap (λ (y : Record). y.number) (sym e))))
    (λ (n : Mem x rs).
    ⊎_elim (λ (e : eqb r.number x.number ≡ true). simp e) (λ (e : eqb r.number x.number ≡ false). simp e (carries-member rs x n))
    (true-or-false (eqb r.number x.number)))
    (Memᴰ.cases_cons m)

only-place : (rs : List Record) → twice rs ≡ false → (x : Record) → Mem x rs → place_of rs x.number ≡ x.place
unfolding twice place_of
only-place [] t x m = absurd (Memᴰ.not-nil m)
only-place (r ∷ rs) t x m =
    ⊎_elim
    (λ (e : x ≡ r). simp (eq-eqb r.number x.number (ap (λ (y : Record). y.number) (sym e))) (ap (λ (y : Record). y.place) (sym e)))
    (λ (n : Mem x rs).
    ⊎_elim
    (λ (e : eqb r.number x.number ≡ true).
    let k : carries rs r.number ≡ true = ap (carries rs) (eqb-true _ _ e) ∙ carries-member rs x n in
    absurd (let z : ◌≡◌ {A = Bool} true false = simp k at t in let y : ◌≡◌ {A = ℕ} 0 1 = cc in omega arith))
    (λ (e : eqb r.number x.number ≡ false). simp e (only-place rs (rest (carries rs r.number) (twice rs) t) x n))
    (true-or-false (eqb r.number x.number)))
    (Memᴰ.cases_cons m)
  where
    rest : (x y : Bool) → cond x true y ≡ false → y ≡ false
    rest true y h = absurd (let z : ◌≡◌ {A = ℕ} 0 1 = cc in omega arith)
    rest false y h = h

not_carried : (rs : List Record) (p : ℕ) → ((x : Record) → Mem x rs → x.number ≡ p → ⊥) → carries rs p ≡ false
unfolding carries
not_carried [] p none = refl
not_carried (r ∷ rs) p none =
    ⊎_elim
    (λ (e : eqb r.number p ≡ true). absurd (none r (Mem.head refl) (eqb-true _ _ e)))
    (λ (e : eqb r.number p ≡ false). simp e (not_carried rs p (λ x m. none x (Mem.tail m))))
    (true-or-false (eqb r.number p))

member : (j : List ℕ) (size n : ℕ) (rs : List Record) → Fit j size n rs → (x : Record) → Mem x rs → (1 ≤ x.number) × (x.number ≤ n)
member j size n [] f x m = absurd (Memᴰ.not-nil m)
member j size n (r ∷ rs) f x m =
    ⊎_elim
    (λ (e : x ≡ r). rw e (f.0, f.1))
    (λ (k : Mem x rs). member j size n rs f.3 x k)
    (Memᴰ.cases_cons m)

-- a test that refuses was passed
past : (b : Bool) (number : ℕ) (y : D.Recovered) → (cond b (refused (suc number)) y).refusal ≡ 0 → (b ≡ false) × (y.refusal ≡ 0)
past true number y e = absurd (omega arith)
past false number y e = (refl, e)

module _ (j image out : List ℕ) (r : Recovers j image out) where
  passed : Passed j image out
  unfolding recovery restored
  passed =
      let z = simp r.there at r.done in
      let a = past (not (size_fits (size_of j))) 40 _ z in
      let b = past (not (size_fits (sector_of j))) 40 _ a.1 in
      let c = past (ltb page_limit (pages_in j)) 41 _ b.1 in
      let d = past (twice (laid j)) 44 _ c.1 in
      let e = past (missing j image (pages_in j)) 42 _ d.1 in
      let f = past (ltb (length out) (pages_in j * size_of j)) 43 _ e.1 in
      record { size = not-false _ a.0; once = d.0; none = e.0; room = ltb-false _ _ f.0 }

  fit : Fit j (size_of j) (pages_in j) (laid j)
  fit = laid-fit j (size_of j) (pages_in j) refl refl

  -- the output: n pages as they are shown, and past them what it held
  pub recovered-bytes : output j image out ≡ join_pages (shown j image) (pages_in j) ++ drop (pages_in j * size_of j) out
  unfolding output
  recovered-bytes = simp (r.done, r.there)

  -- page p of the output
  abbrev pub page_out : (p : ℕ) → List ℕ
  page_out p = part (output j image out) ((p - 1) * size_of j) (size_of j)

  pub page-shown : (p : ℕ) → 1 ≤ p → p ≤ pages_in j → page_out p ≡ shown j image p
  page-shown p a b =
      let q = passed in
      let some : 0 < size_of j = omega (arith, fits-range (size_of j) q.size) in
      ap (λ (o : List ℕ). part o ((p - 1) * size_of j) (size_of j)) recovered-bytes
      ∙ page-of-join (shown j image) (size_of j) (pages_in j) (drop (pages_in j * size_of j) out)
      (shown-sized j image out (pages_in j) (size_of j) refl refl some fit q.once q.none q.room)
      p a b

  -- no record that is laid down carries the lock-byte page
  not-lock : (x : Record) → Mem x (laid j) → x.number ≡ lock_page (size_of j) → ⊥
  not-lock x m e = true≢false (sym (carries-member (laid j) x m) ∙ ap (carries (laid j)) e ∙ laid-unlocked j)

  -- 1. A page that a record carries comes from that record, whichever of the records laid down it is ..
  pub from-record : (x : Record) → Mem x (laid j) → page_out x.number ≡ part j x.place (size_of j)
  unfolding shown
  from-record x m =
      let w = member j (size_of j) (pages_in j) (laid j) fit x m in
      let o = only-place (laid j) passed.once x m in
      page-shown x.number w.0 w.1 ∙ simp (ne_eqb x.number (lock_page (size_of j)) (not-lock x m), carries-member (laid j) x m, o)

  -- .. and no other record carries it.
  pub one-record : (x y : Record) → Mem x (laid j) → Mem y (laid j) → x.number ≡ y.number → x.place ≡ y.place
  one-record x y m n e = sym (only-place (laid j) passed.once x m) ∙ ap (place_of (laid j)) e ∙ only-place (laid j) passed.once y n

  -- 2. Any other page of 1 to n, if it is not the lock-byte page, comes from the image, cut at the journal's page size.
  pub from-image : (p : ℕ) → 1 ≤ p → p ≤ pages_in j → (p ≡ lock_page (size_of j) → ⊥) → ((x : Record) → Mem x (laid j) → x.number ≡ p → ⊥)
      → page_out p ≡ part image ((p - 1) * size_of j) (size_of j)
  unfolding shown
  from-image p a b ne none = page-shown p a b ∙ simp (ne_eqb p (lock_page (size_of j)) ne, not_carried (laid j) p none)

  -- The lock-byte page, where it is of 1 to n, comes from the image, or is zeros where it does not lie wholly within the image.
  pub from-lock : lock_page (size_of j) ≤ pages_in j → page_out (lock_page (size_of j)) ≡ lock_bytes (size_of j) image
  unfolding shown
  from-lock b = page-shown (lock_page (size_of j)) (lock-one (size_of j)) b ∙ simp (eq-eqb (lock_page (size_of j)) (lock_page (size_of j)) refl)

-- Of the segments, where the sector size is not 0 (41 has it 512 or more).
module _ (j : List ℕ) (some : 1 ≤ sector_of j) where
  -- 3. What is laid down is what reading comes to, in whatever segment: each record that counts, up to n, and no other.
  pub laid-is-read : (x : Record) → Mem x (laid j) → Read j x
  laid-is-read x m = laid-read j x m

  pub read-is-laid : (x : Record) → Read j x → Mem x (laid j)
  read-is-laid x r = rw r.is (reached-laid j some r.reached r.counted r.stands r.within)

  -- 4. A record that ends them ends everything: whatever is laid down, of whatever segment, stands wholly before it ..
  pub none-behind-end : {nonce left at : ℕ} → Reached j nonce left at → (left ≡ 0 → ⊥) → ends j nonce at ≡ true → (x : Record)
      → Mem x (laid j) → x.place + size_of j + 4 ≤ at
  none-behind-end {nonce} {left} {at} r z e = none-behind j some r (step-ends j (length j) nonce left at z e)

  -- a record with the lock-byte page's number ends them, whatever its sum, and whether or not that page is above n,
  pub none-behind-lock : {nonce left at : ℕ} → Reached j nonce left at → (left ≡ 0 → ⊥) → be 4 j at ≡ lock_page (size_of j) → (x : Record)
      → Mem x (laid j) → x.place + size_of j + 4 ≤ at
  none-behind-lock {nonce} {left} {at} r z e = none-behind-end r z (lock-ends j nonce at e)

  -- .. and so it does where a header is looked for and none stands.
  pub none-behind-header : {nonce left at : ℕ} → Reached j nonce left at → left ≡ 0 → headed j (sector_from j at) ≡ false → (x : Record)
      → Mem x (laid j) → x.place + size_of j + 4 ≤ at
  none-behind-header {nonce} {left} {at} r z h = none-behind j some r (step-none j (length j) nonce left at z h)

  -- 5. With one segment it is what it was: unless all counted records stand and a header behind them, the first segment's records alone are
  -- laid down.
  pub one-segment : (count_from j (nonce_at j 0) (most_at j 0) (sector_of j) ≡ most_at j 0
      → headed j (sector_from j (end_of j (most_at j 0) (sector_of j))) ≡ false)
      → laid j ≡ laid_from j (count_from j (nonce_at j 0) (most_at j 0) (sector_of j)) (sector_of j)
  one-segment h = alone j some (nonce_at j 0) (most_at j 0) (sector_of j) h

  -- 6. A segment that counts all whole records takes the rest: no header is looked for behind it.
  pub takes-the-rest : (nonce at : ℕ) → rest_from j nonce (length j) at ≡ laid_from j (count_from j nonce (length j) at) at
  takes-the-rest nonce at =
      let w = mul-le-mul_left {m = 1} {n = size_of j + 8} (length j) (omega arith) in
      alone j some nonce (length j) at (λ e. not-headed j (sector_from j (end_of j (length j) at)) (omega arith))

  -- 7. Where all counted records of a segment stand, and a header behind them, that header's segment follows.
  pub next-segment : (nonce left at : ℕ) → count_from j nonce left at ≡ left → headed j (sector_from j (end_of j left at)) ≡ true
      → rest_from j nonce left at
      ≡ laid_from j left at
      ++ rest_from j (nonce_at j (sector_from j (end_of j left at))) (most_at j (sector_from j (end_of j left at)))
      (sector_from j (end_of j left at) + sector_of j)
  next-segment nonce left at c h =
      followed j some nonce left at c ∙ ap (λ (l : List Record). laid_from j left at ++ l) (rest-header j some nonce (end_of j left at) h)

  -- 8. The header behind records that end at `at` is looked for at the first multiple of the sector size not before `at`.
  pub header-place : (at : ℕ)
      → (sector_from j at % sector_of j ≡ 0) × (at ≤ sector_from j at) × ((m : ℕ) → m % sector_of j ≡ 0 → at ≤ m → sector_from j at ≤ m)
  header-place = next_multiple j some
