-- Whole recovery beside page views, and recovery of a recovered file.
use Prim.Native.Nat.{ℕ, zero, suc, ◌+◌, ◌-◌, ◌*◌, ◌<◌, ◌≤◌}
use mathlib.Core.Path.{◌≡◌, refl, sym, ap, ◌∙◌}
use mathlib.Core.Bool.{Bool, true, false}
use mathlib.Core.List.{List}
use native.Mathlib.Nat.{suc-mul, zero-mul, mul-le-mul_right}
use native.Mathlib.Omega.{arith}
use lib.Dec.{ltb, eqb}
use lib.ListN.{length, take, drop}
use lib.Seq.{get_or-take, get_or-drop, ext_get_or, take-add, take_all}
use borrow.Author.Tests.{le-ltb, eq-eqb, ne_eqb, eqb-true, eqb-false, ltb-false}
use Rattle.number.specs.Bytes.{part}
use Rattle.number.proofs.Cases.{by_cond}
use Rattle.header.specs.Header.{pages_in}
use Rattle.header.proofs.Laws.{pages-passed, sized-paged}
use native.Mathlib.Decide.{ℕ_discrete}
use Rattle.paging.specs.Pages.{lock_page, join_pages}
use Rattle.paging.proofs.LockLaws.{lock-there}
use Rattle.paging.proofs.PagesLaws.{length-pages, pages-at, page-fits, part_length}
use Rattle.wal.specs.Frames.{last_of, last_frame}
use Rattle.wal.specs.State.{state_of}
use Rattle.wal.specs.View.{image_state, pair_state, in_neither, image_part, page_at, page_in, bytes_of, page_from}
use Rattle.wal.specs.View.{shown_at, missing, room_refusal, refusal_in, whole_in, whole_of}
use Rattle.wal.specs.Bounds.{Bounds}
use Rattle.wal.specs.Whole.{InPlace}
use Rattle.wal.specs.State.{State}
use Rattle.wal.proofs.ViewLaws.{frame-within, state-bounds}
use Rattle.wal.proofs.RecoverLaws.{missing-not, shown-length, join-same}

-- ---- what success says
pub record Succeeds (s : State) (log image : List ℕ) (room : ℕ) : Type 0 where
  pub passed : s.refusal ≡ 0
  pub none : missing s.size log image s.frames s.pages ≡ false
  pub fits : s.pages * s.size ≤ room

pub succeeds : (s : State) (log image : List ℕ) (room : ℕ) → refusal_in s log image room ≡ 0 → Succeeds s log image room
unfolding refusal_in room_refusal
succeeds s log image room h = one (eqb s.refusal 0) refl
  where
    m : Bool
    m = missing s.size log image s.frames s.pages

    three : s.refusal ≡ 0 → m ≡ false → (t : Bool) → ltb room (s.pages * s.size) ≡ t → Succeeds s log image room
    three a b true e = absurd (let z : ◌≡◌ {A = ℕ} 44 0 = simp (eq-eqb s.refusal 0 a, b, e) at h in omega arith)
    three a b false e = record { passed = a; none = b; fits = ltb-false _ _ e }

    two : s.refusal ≡ 0 → (t : Bool) → m ≡ t → Succeeds s log image room
    two a true e = absurd (let z : ◌≡◌ {A = ℕ} 43 0 = simp (eq-eqb s.refusal 0 a, e) at h in omega arith)
    two a false e = three a e (ltb room (s.pages * s.size)) refl

    one : (t : Bool) → eqb s.refusal 0 ≡ t → Succeeds s log image room
    one true e = two (eqb-true _ 0 e) m refl
    one false e = absurd (eqb-false _ 0 e (simp e at h))

-- and the other way round
pub succeeded : (s : State) (log image : List ℕ) (room : ℕ) → Succeeds s log image room → refusal_in s log image room ≡ 0
unfolding refusal_in room_refusal
succeeded s log image room h = simp (eq-eqb s.refusal 0 h.passed, h.none, le-ltb room (s.pages * s.size) h.fits)

-- ---- pages that are in one of the two places
module _ (size : ℕ) (log image : List ℕ) (m : ℕ) where
  pub all-in-place : (n p : ℕ) → Bounds log size m n → missing size log image m n ≡ false → 1 ≤ p → p ≤ n → (p ≡ lock_page size → ⊥)
      → InPlace log image size (last_frame size log p m) p
  all-in-place n p bounds h a b ne =
      record {
        framed = λ z. frame-within log size m n p (last_frame size log p m) bounds z refl;
        imaged = missing-not size log image m n p h a b ne;
      }

  -- such a page is shown
  pub shown-is : (n p : ℕ) → 1 ≤ p → p ≤ n → (p ≡ lock_page size → ⊥) → InPlace log image size (last_frame size log p m) p
      → bytes_of log image (page_at size log image m n p) ≡ shown_at size log image m p
  unfolding page_at image_part page_from shown_at
  shown-is n p a b ne h = go (eqb (last_frame size log p m) 0) refl
    where
      go : (t : Bool) → eqb (last_frame size log p m) 0 ≡ t → bytes_of log image (page_at size log image m n p) ≡ shown_at size log image m p
      go true e =
          simp (ne_eqb p 0 (λ z. omega arith), le-ltb n p b, ne_eqb p (lock_page size) ne, e, le-ltb (length image) (p * size) (h.imaged (eqb-true _ 0 e)))
      go false e = simp (ne_eqb p 0 (λ z. omega arith), le-ltb n p b, ne_eqb p (lock_page size) ne, e)

  -- and the lock-byte page, where it lies within the image
  pub lock-is : (n p : ℕ) → 1 ≤ p → p ≤ n → p ≡ lock_page size → p * size ≤ length image
      → bytes_of log image (page_at size log image m n p) ≡ shown_at size log image m p
  unfolding page_at image_part shown_at
  lock-is n p a b same h =
      let there = lock-there size image (rw same at h) in
      simp (ne_eqb p 0 (λ z. omega arith), le-ltb n p b, eq-eqb p (lock_page size) same, le-ltb (length image) (p * size) h)
      (sym (there ∙ ap (λ (q : ℕ). part image ((q - 1) * size) size) (sym same)))

  -- with every page but the lock-byte page in one of the two places, none is missing
  pub none-missing : (n : ℕ) → ((p : ℕ) → 1 ≤ p → p ≤ n → (p ≡ lock_page size → ⊥) → last_frame size log p m ≡ 0 → p * size ≤ length image)
      → missing size log image m n ≡ false
  unfolding missing
  none-missing zero h = refl
  none-missing (suc n) h =
      let r : missing size log image m n ≡ false = none-missing n (λ p a b ne z. h p a (omega arith) ne z) in
      let q : in_neither size log image m (suc n) ≡ false =
      by_cond (λ (t : Bool). t ≡ false) (eqb (suc n) (lock_page size)) false _ (λ k. refl)
      (λ k. by_cond (λ (t : Bool). t ≡ false) (eqb (last_frame size log (suc n) m) 0) (ltb (length image) (suc n * size)) false
      (λ z. le-ltb (length image) (suc n * size) (h (suc n) (omega arith) (omega arith) (eqb-false _ _ k) (eqb-true _ 0 z))) (λ z. refl)) in
      rw (r, q) refl

-- ---- pages side by side
module _ (shown : ℕ → List ℕ) (size : ℕ) where
  pub join-part : (n p : ℕ) → ((q : ℕ) → 1 ≤ q → q ≤ n → length (shown q) ≡ size) → 1 ≤ p → p ≤ n
      → part (join_pages shown n) ((p - 1) * size) size ≡ shown p
  join-part n p h a b =
      let at : ℕ = (p - 1) * size in
      let w : at + size ≤ n * size = page-fits p n size a b in
      let l : length (join_pages shown n) ≡ n * size = length-pages shown size n h in
      let e : length (part (join_pages shown n) at size) ≡ size = part_length (join_pages shown n) at size (omega arith) in
      ext_get_or 0 (part (join_pages shown n) at size) (shown p) (e ∙ sym (h p a b))
      (λ i k.
      let i' : i < size = omega arith in
      rw (get_or-take size (drop at (join_pages shown n)) i 0 i', get_or-drop at (join_pages shown n) i 0) (pages-at shown size n h p i a b i'))

pub join-image : (size : ℕ) (b : List ℕ) (n : ℕ) → join_pages (λ (p : ℕ). part b ((p - 1) * size) size) n ≡ take (n * size) b
unfolding join_pages
join-image size b zero = rw zero-mul refl
join-image size b (suc n) =
    let i : suc n - 1 ≡ n = omega arith in
    rw (join-image size b n, i, suc-mul) (sym (take-add (n * size) size b))

-- ---- the recovered file of a state
module _ (s : State) (log image : List ℕ) (room : ℕ) (ok : Succeeds s log image room) (bounds : Bounds log s.size s.frames s.pages) where
  placed : (p : ℕ) → 1 ≤ p → p ≤ s.pages → (p ≡ lock_page s.size → ⊥) → InPlace log image s.size (last_frame s.size log p s.frames) p
  placed p a b ne = all-in-place s.size log image s.frames s.pages p bounds ok.none a b ne

  paged : (p : ℕ) → 1 ≤ p → p ≤ s.pages → length (shown_at s.size log image s.frames p) ≡ s.size
  paged p a b = shown-length log image s.size s.frames p a (placed p a b)

  pub whole_length : length (whole_in s log image) ≡ s.pages * s.size
  whole_length = length-pages (shown_at s.size log image s.frames) s.size s.pages paged

  pub whole-page : (p : ℕ) → 1 ≤ p → p ≤ s.pages
      → part (whole_in s log image) ((p - 1) * s.size) s.size ≡ shown_at s.size log image s.frames p
  whole-page p a b = join-part (shown_at s.size log image s.frames) s.size s.pages p paged a b

  pub view-page : (p : ℕ) → 1 ≤ p → p ≤ s.pages → (p ≡ lock_page s.size → p * s.size ≤ length image)
      → bytes_of log image (page_in s log image p) ≡ shown_at s.size log image s.frames p
  unfolding page_in
  view-page p a b there = simp (eq-eqb s.refusal 0 ok.passed) (go (ℕ_discrete p (lock_page s.size)))
    where
      go : Dec (p ≡ lock_page s.size) → bytes_of log image (page_at s.size log image s.frames s.pages p) ≡ shown_at s.size log image s.frames p
      go (yes e) = lock-is s.size log image s.frames s.pages p a b e (there e)
      go (no ne) = shown-is s.size log image s.frames s.pages p a b ne (placed p a b ne)

  -- the recovered file in the image's place
  again-page : (p : ℕ) → 1 ≤ p → p ≤ s.pages
      → shown_at s.size log (whole_in s log image) s.frames p ≡ shown_at s.size log image s.frames p
  unfolding page_from shown_at
  again-page p a b = lock (ℕ_discrete p (lock_page s.size))
    where
      go : (p ≡ lock_page s.size → ⊥) → (t : Bool) → eqb (last_frame s.size log p s.frames) 0 ≡ t
          → shown_at s.size log (whole_in s log image) s.frames p ≡ shown_at s.size log image s.frames p
      go ne true e = rw (ne_eqb p (lock_page s.size) ne, e) (rw (ne_eqb p (lock_page s.size) ne, e) at (whole-page p a b))
      go ne false e = simp (ne_eqb p (lock_page s.size) ne, e)

      lock : Dec (p ≡ lock_page s.size) → shown_at s.size log (whole_in s log image) s.frames p ≡ shown_at s.size log image s.frames p
      lock (yes e) =
          let long : lock_page s.size * s.size ≤ length (whole_in s log image) = rw whole_length (mul-le-mul_right s.size (rw e at b)) in
          let there = lock-there s.size (whole_in s log image) long in
          let page = whole-page (lock_page s.size) (rw e at a) (rw e at b) in
          rw (eq-eqb p (lock_page s.size) e) (there ∙ page ∙ rw (eq-eqb (lock_page s.size) (lock_page s.size) refl) refl)
      lock (no ne) = go ne (eqb (last_frame s.size log p s.frames) 0) refl

  pub again-whole : whole_in s log (whole_in s log image) ≡ whole_in s log image
  again-whole =
      join-same (shown_at s.size log (whole_in s log image) s.frames) (shown_at s.size log image s.frames) s.pages again-page

  pub again-succeeds : Succeeds s log (whole_in s log image) room
  again-succeeds =
      record {
        passed = ok.passed;
        none = none-missing s.size log (whole_in s log image) s.frames s.pages
            (λ p a b ne z. rw whole_length (mul-le-mul_right s.size b));
        fits = ok.fits;
      }

-- ---- a pair's state, where another image stands in the image's place
pub alone-whole : (log image : List ℕ) → (image_state image).refusal ≡ 0 → whole_in (image_state image) log image ≡ image
unfolding page_from last_of shown_at
alone-whole log image r =
    let g = sized-paged (pages-passed image (pages_in image) refl r) in
    let size : ℕ = (pages_in image).size in
    let n : ℕ = (pages_in image).pages in
    join-same (shown_at size log image 0) (λ (p : ℕ). part image ((p - 1) * size) size) n
    (λ p a b. by_cond (λ (l : List ℕ). l ≡ part image ((p - 1) * size) size) (eqb p (lock_page size)) _ _
    (λ e.
    let same : p ≡ lock_page size = eqb-true _ _ e in
    let m : lock_page size * size ≤ n * size = mul-le-mul_right size (rw same at b) in
    lock-there size image (omega (arith, m, g.whole)) ∙ ap (λ (q : ℕ). part image ((q - 1) * size) size) (sym same))
    (λ e. refl))
    ∙ join-image size image n
    ∙ rw g.whole (take_all (length image) image (omega arith))

pub pair-cases : (P : Type 0) (log image : List ℕ) → (pair_state log image).refusal ≡ 0
    → (((x : List ℕ) → pair_state log x ≡ state_of log) → P) → (pair_state log image ≡ image_state image → P) → P
unfolding pair_state
pair-cases P log image r f g = one (eqb (state_of log).refusal 0) refl
  where
    two : (state_of log).refusal ≡ 0 → (t : Bool) → eqb (state_of log).frames 0 ≡ t → P
    two a true e = g (simp (eq-eqb (state_of log).refusal 0 a, e))
    two a false e = f (λ x. simp (eq-eqb (state_of log).refusal 0 a, e))

    one : (t : Bool) → eqb (state_of log).refusal 0 ≡ t → P
    one true e = two (eqb-true _ 0 e) (eqb (state_of log).frames 0) refl
    one false e = absurd (eqb-false _ 0 e (simp e at r))

-- the recovered file in the image's place: the same state, file and success
pub record Again (log image : List ℕ) (room : ℕ) : Type 0 where
  pub state : pair_state log (whole_of log image) ≡ pair_state log image
  pub whole : whole_of log (whole_of log image) ≡ whole_of log image
  pub success : refusal_in (pair_state log (whole_of log image)) log (whole_of log image) room ≡ 0

pub again-shown : (log image : List ℕ) (room : ℕ) → refusal_in (pair_state log image) log image room ≡ 0 → Again log image room
again-shown log image room done =
    let ok = succeeds (pair_state log image) log image room done in
    pair-cases (Again log image room) log image ok.passed
    (λ all.
    let s = state_of log in
    let e : pair_state log image ≡ s = all image in
    let ok' : Succeeds s log image room = rw e at ok in
    let b : Bounds log s.size s.frames s.pages = rw e at (state-bounds log image ok.passed) in
    let same : whole_of log image ≡ whole_in s log image = rw e refl in
    record {
      state = all (whole_of log image) ∙ sym e;
      whole = rw (all (whole_of log image), same) (again-whole s log image room ok' b);
      success = rw (all (whole_of log image), same) (succeeded s log (whole_in s log image) room (again-succeeds s log image room ok' b));
    })
    (λ alone.
    let w : whole_of log image ≡ image = rw alone (alone-whole log image (rw alone at ok.passed)) in
    record {
      state = rw w refl;
      whole = rw w w;
      success = rw w done;
    })
