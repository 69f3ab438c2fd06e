-- What the output holds once the image and then the records were laid over it.
use Rattle.std.proofs.Common.{◌≡◌, ℕ, ◌+◌, ◌-◌, ◌*◌, ◌<◌, ◌≤◌, Bool, true, false, cond, eqb, List, [], ◌∷◌, ◌++◌, length, drop, sym, refl, ap, ◌∙◌, ⊎_elim, arith, eq-eqb, ne_eqb, eqb-true}
use native.Mathlib.Decide.{ℕ_discrete}
use borrow.Author.Tests.{eqb-false}
use Rattle.number.proofs.Cases.{lt-or-ge, true-or-false}
use Rattle.number.specs.Bytes.{byte_at, part}
use Rattle.paging.specs.Pages.{lock_page, lock_bytes, join_pages, over}
use Rattle.paging.specs.Laying.{lay_image}
use Rattle.paging.proofs.PagesLaws.{length_over, over_below, over-within, over-past, page-fits, pages-apart, pages-laid, part_length, part_at}
use Rattle.paging.proofs.LockLaws.{lock-length, image-length, image-past, image-page, image-lock}
use Rattle.journal.specs.Header.{pages_in, size_of}
use Rattle.journal.specs.Records.{Record, carries, place_of, twice, laid}
use Rattle.journal.specs.Recovery.{shown, missing}
use Rattle.journal.specs.Marks.{lay_all}
use Rattle.journal.proofs.MarkLaws.{Fit, laid-unlocked, none-missing}

module _ (j : List ℕ) (size n : ℕ) where
  -- one record laid down: its own page is the record's, the others stay
  module _ (out : List ℕ) (r : Record) (one : 1 ≤ r.number) (most : r.number ≤ n) (whole : r.place + size ≤ length j)
      (room : n * size ≤ length out) where
    abbrev at : ℕ
    at = (r.number - 1) * size

    abbrev body : List ℕ
    body = part j r.place size

    fits : at + length body ≤ length out
    fits = omega (arith, part_length j r.place size whole, page-fits r.number n size one most)

    laid-own : (k : ℕ) → k < size → byte_at (over out at body) (at + k) ≡ byte_at j (r.place + k)
    laid-own k h = over-within out at body fits k (omega (arith, part_length j r.place size whole)) ∙ part_at j r.place size k h

    laid-other : (p k : ℕ) → 1 ≤ p → (r.number ≡ p → ⊥) → k < size → byte_at (over out at body) ((p - 1) * size + k) ≡ byte_at out ((p - 1) * size + k)
    laid-other p k a ne h =
        ⊎_elim
        (λ (l : p < r.number). over_below out at body fits ((p - 1) * size + k) (omega (arith, pages-apart p r.number size a l)))
        (λ (l : r.number ≤ p).
        let lt : r.number < p = omega arith in
        over-past out at body fits ((p - 1) * size + k)
        (omega (arith, part_length j r.place size whole, pages-apart r.number p size one lt)))
        (lt-or-ge p r.number)

    laid-past : (i : ℕ) → n * size ≤ i → byte_at (over out at body) i ≡ byte_at out i
    laid-past i h = over-past out at body fits i (omega (arith, part_length j r.place size whole, page-fits r.number n size one most))

    laid-length : length (over out at body) ≡ length out
    laid-length = length_over out at body fits

  pub length-all : (out : List ℕ) (rs : List Record) → Fit j size n rs → n * size ≤ length out → length (lay_all j size out rs) ≡ length out
  unfolding lay_all
  length-all out [] f room = refl
  length-all out (r ∷ rs) f room =
      let l = laid-length out r f.0 f.1 f.2 room in
      length-all (over out (at out r f.0 f.1 f.2 room) (body out r f.0 f.1 f.2 room)) rs f.3 (omega arith) ∙ l

  pub all_past : (out : List ℕ) (rs : List Record) → Fit j size n rs → n * size ≤ length out → (i : ℕ) → n * size ≤ i
      → byte_at (lay_all j size out rs) i ≡ byte_at out i
  unfolding lay_all
  all_past out [] f room i h = refl
  all_past out (r ∷ rs) f room i h =
      let l = laid-length out r f.0 f.1 f.2 room in
      all_past (over out ((r.number - 1) * size) (part j r.place size)) rs f.3 (omega arith) i h
      ∙ laid-past out r f.0 f.1 f.2 room i h

  -- byte k of page p, after all records: from the record that carries the page, or as it was
  pub all-at : (out : List ℕ) (rs : List Record) → Fit j size n rs → twice rs ≡ false → n * size ≤ length out → (p k : ℕ) → 1 ≤ p → k < size
      → byte_at (lay_all j size out rs) ((p - 1) * size + k) ≡ cond (carries rs p) (byte_at j (place_of rs p + k)) (byte_at out ((p - 1) * size + k))
  unfolding lay_all carries place_of twice
  all-at out [] f t room p k a h = refl
  all-at out (r ∷ rs) f t room p k a h =
      let l = laid-length out r f.0 f.1 f.2 room in
      let alone : carries rs r.number ≡ false = only (carries rs r.number) (twice rs) t in
      let t' : twice rs ≡ false = rest (carries rs r.number) (twice rs) t in
      let ih = all-at (over out ((r.number - 1) * size) (part j r.place size)) rs f.3 t' (omega arith) p k a h in
      ⊎_elim
      (λ (e : eqb r.number p ≡ true).
      let same : r.number ≡ p = eqb-true _ _ e in
      let c : carries rs p ≡ false = rw same at alone in
      let own = laid-own out r f.0 f.1 f.2 room k h in
      ih ∙ simp (c, e) (ap (λ (q : ℕ). byte_at (over out ((r.number - 1) * size) (part j r.place size)) ((q - 1) * size + k)) (sym same) ∙ own))
      (λ (e : eqb r.number p ≡ false).
      let other = laid-other out r f.0 f.1 f.2 room p k a (eqb-false _ _ e) h in
      ih ∙ simp e (ap (λ (x : ℕ). cond (carries rs p) (byte_at j (place_of rs p + k)) x) other))
      (true-or-false (eqb r.number p))
    where
      only : (x y : Bool) → cond x true y ≡ false → x ≡ false
      only true y h = h
      only false y h = refl

      rest : (x y : Bool) → cond x true y ≡ false → y ≡ false
      rest true y h = absurd (let z : ◌≡◌ {A = ℕ} 0 1 = cc in omega arith)
      rest false y h = h

-- a carried page lies in the journal
carried-place : (j : List ℕ) (size n : ℕ) (rs : List Record) → Fit j size n rs → (p : ℕ) → carries rs p ≡ true → place_of rs p + size ≤ length j
unfolding carries place_of
carried-place j size n [] f p c = absurd (let z : ◌≡◌ {A = ℕ} 0 1 = cc in omega arith)
carried-place j size n (r ∷ rs) f p c =
    ⊎_elim
    (λ (e : eqb r.number p ≡ true). simp e f.2)
    (λ (e : eqb r.number p ≡ false). simp e (carried-place j size n rs f.3 p (simp e at c)))
    (true-or-false (eqb r.number p))

-- image, then records: the pages as they are shown, and past them what the output held
module _ (j image out : List ℕ) (n size : ℕ) (is-n : n ≡ pages_in j) (is_size : size ≡ size_of j) (some : 0 < size)
    (fit : Fit j size n (laid j)) (once : twice (laid j) ≡ false) (none : missing j image n ≡ false) (room : n * size ≤ length out) where
  abbrev start : List ℕ
  start = lay_image size n image out

  start-room : n * size ≤ length start
  start-room = omega (arith, image-length size n image out room)

  within-image : (p : ℕ) → 1 ≤ p → p ≤ n → (p ≡ lock_page size → ⊥) → carries (laid j) p ≡ false → p * size ≤ length image
  within-image p a b ne c =
      let m = none-missing j image n none p a b (λ e. ne (e ∙ ap lock_page (sym is_size))) c in
      let t : p * size ≡ p * size_of j = ap (λ (x : ℕ). p * x) is_size in
      omega arith

  -- a page that is not the lock-byte page, and that page
  shown-other : (p : ℕ) → (p ≡ lock_page size → ⊥)
      → shown j image p ≡ cond (carries (laid j) p) (part j (place_of (laid j) p) size) (part image ((p - 1) * size) size)
  unfolding shown
  shown-other p ne = simp (← is_size, ne_eqb p (lock_page size) ne)

  shown-lock : shown j image (lock_page size) ≡ lock_bytes size image
  unfolding shown
  shown-lock = simp (← is_size, eq-eqb (lock_page size) (lock_page size) refl)

  pub shown-sized : (p : ℕ) → 1 ≤ p → p ≤ n → length (shown j image p) ≡ size
  shown-sized p a b = go (ℕ_discrete p (lock_page size))
    where
      go : Dec (p ≡ lock_page size) → length (shown j image p) ≡ size
      go (yes e) = rw (e, shown-lock) (lock-length size image)
      go (no ne) =
          rw (shown-other p ne)
          (⊎_elim
          (λ (c : carries (laid j) p ≡ true). rw c (part_length j (place_of (laid j) p) size (carried-place j size n (laid j) fit p c)))
          (λ (c : carries (laid j) p ≡ false). rw c
          (part_length image ((p - 1) * size) size (omega (arith, page-fits p p size a (omega arith), within-image p a b ne c))))
          (true-or-false (carries (laid j) p)))

  shown-at : (p k : ℕ) → 1 ≤ p → p ≤ n → k < size → byte_at (lay_all j size start (laid j)) ((p - 1) * size + k) ≡ byte_at (shown j image p) k
  shown-at p k a b h = go (ℕ_discrete p (lock_page size))
    where
      e : byte_at (lay_all j size start (laid j)) ((p - 1) * size + k)
          ≡ cond (carries (laid j) p) (byte_at j (place_of (laid j) p + k)) (byte_at start ((p - 1) * size + k))
      e = all-at j size n start (laid j) fit once start-room p k a h

      go : Dec (p ≡ lock_page size) → byte_at (lay_all j size start (laid j)) ((p - 1) * size + k) ≡ byte_at (shown j image p) k
      go (yes same) =
          let none-carries : carries (laid j) p ≡ false = ap (carries (laid j)) (same ∙ ap lock_page is_size) ∙ laid-unlocked j in
          e
          ∙ rw none-carries (ap (λ (q : ℕ). byte_at start ((q - 1) * size + k)) same ∙ image-lock size n image out room (rw same at b) k h)
          ∙ sym (ap (λ (l : List ℕ). byte_at l k) (ap (shown j image) same ∙ shown-lock))
      go (no ne) =
          e
          ∙ rw (shown-other p ne)
          (⊎_elim
          (λ (c : carries (laid j) p ≡ true). rw c (sym (part_at j (place_of (laid j) p) size k h)))
          (λ (c : carries (laid j) p ≡ false). rw c
          (image-page size n image out room p k a b h (within-image p a b ne c) ∙ sym (part_at image ((p - 1) * size) size k h)))
          (true-or-false (carries (laid j) p)))

  pub restored-is : lay_all j size start (laid j) ≡ join_pages (shown j image) n ++ drop (n * size) out
  restored-is =
      pages-laid (shown j image) size n out (lay_all j size start (laid j)) shown-sized some room
      (length-all j size n start (laid j) fit start-room ∙ image-length size n image out room)
      shown-at
      (λ i h. all_past j size n start (laid j) fit start-room i h ∙ image-past size n image out room i h)
