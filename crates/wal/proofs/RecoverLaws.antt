-- Laws of recovery of the whole file.
use Prim.Native.Nat.{ℕ, zero, suc, ◌+◌, ◌-◌, ◌*◌, ◌<◌, ◌≤◌}
use mathlib.Core.Path.{◌≡◌, refl, sym, ap, ◌∙◌}
use mathlib.Core.Bool.{Bool, true, false, cond, not, true≢false}
use mathlib.Core.Logic.{⊎_elim}
use mathlib.Core.List.{List, ◌++◌}
use native.Mathlib.Nat.{add-sub_cancel_left, le-suc_iff}
use native.Mathlib.Numerals.{add-one}
use native.Mathlib.Decide.{ℕ_discrete}
use native.Mathlib.Omega.{arith}
use lib.Dec.{ltb, eqb}
use lib.ListN.{length, take, drop}
use borrow.Author.Tests.{lt-ltb, le-ltb, eq-eqb, ne_eqb, eqb-true, eqb-false, ltb-false}
use Rattle.number.specs.Bytes.{byte_at, be, part}
use Rattle.number.proofs.Cases.{by_cond, lt-or-ge, true-or-false}
use Rattle.header.proofs.Laws.{page-end}
use Rattle.paging.specs.Pages.{lock_page, lock_bytes, join_pages, over}
use Rattle.paging.specs.Laying.{lay_image}
use Rattle.paging.proofs.PagesLaws.{part_length, part_at, page-fits, pages-apart, pages-laid, length_over, over_below, over-within, over-past}
use Rattle.paging.proofs.LockLaws.{lock-length, image-length, image-past, image-page, image-lock}
use Rattle.wal.specs.Frames.{frame_at, page_number, last_of, last_frame}
use Rattle.wal.specs.Bounds.{Bounds}
use Rattle.wal.specs.State.{State}
use Rattle.wal.specs.View.{pair_state, page_from, shown_at, in_neither, missing, room_refusal, refusal_in, recovered_is, recover_of, out_of}
use Rattle.paging.specs.Bits.{lacks}
use Rattle.paging.proofs.BitLaws.{eqb-turned}
use Rattle.wal.specs.Whole.{Covers, InPlace, lay_frame, lay_frames, Laid}
use Rattle.wal.proofs.FrameLaws.{frame-far, frame-next, frame-mono, none-holds}
use Rattle.wal.proofs.ViewLaws.{frame-within}

-- ---- pages in neither place, by the marks
-- the marks tell which pages frames hold, the lock-byte page's is set, so they lack what is missing
pub lacks-is : (size : ℕ) (log image t : List ℕ) (m n k : ℕ) → Covers size log m n t → k ≤ n → lacks t (length image) size k ≡ missing size log image m k
unfolding lacks missing
lacks-is size log image t m n zero h l = refl
lacks-is size log image t m n (suc k) h l =
    rw (lacks-is size log image t m n k h (omega arith), h.entry k l, eqb-turned (lock_page size) (suc k))
    (turned (missing size log image m k) (eqb (suc k) (lock_page size)) (eqb (last_frame size log (suc k) m) 0) (ltb (length image) (suc k * size)))
  where
    turned : (a l b x : Bool) → cond a true (cond (cond l true (not b)) false x) ≡ cond a true (cond l false (cond b x false))
    turned true l b x = refl
    turned false true b x = refl
    turned false false true x = refl
    turned false false false x = refl

-- none missing: each page of 1 to n that no frame holds lies within the image, but for the lock-byte page
pub missing-not : (size : ℕ) (log image : List ℕ) (m n p : ℕ) → missing size log image m n ≡ false → 1 ≤ p → p ≤ n → (p ≡ lock_page size → ⊥) → last_frame size log p m ≡ 0
    → p * size ≤ length image
unfolding missing
missing-not size log image m zero p h a b ne z = absurd (omega arith)
missing-not size log image m (suc n) p h a b ne z =
    ⊎_elim
    (λ (l : p ≤ n). missing-not size log image m n p (head (missing size log image m n) (in_neither size log image m (suc n)) h) a l ne z)
    (λ (e : p ≡ suc n).
    let w : in_neither size log image m p ≡ false = rw e (tail (missing size log image m n) (in_neither size log image m (suc n)) h) in
    ltb-false (length image) (p * size) (simp (ne_eqb p (lock_page size) ne, eq-eqb (last_frame size log p m) 0 z) at w))
    (le-suc_iff.0 b)
  where
    head : (x y : Bool) → cond x true y ≡ false → x ≡ false
    head true y k = k
    head false y k = refl

    tail : (x y : Bool) → cond x true y ≡ false → y ≡ false
    tail true y k = absurd (true≢false k)
    tail false y k = k

-- ---- one page
pub from-length : (log image : List ℕ) (size f p : ℕ) → 1 ≤ p → InPlace log image size f p → length (page_from size log image f p) ≡ size
unfolding page_from
from-length log image size f p a h =
    by_cond (λ (l : List ℕ). length l ≡ size) (eqb f 0) _ _
    (λ z. part_length image ((p - 1) * size) size (rw (page-end size p a) (h.imaged (eqb-true f 0 z))))
    (λ z. part_length log (frame_at size (f - 1) + 24) size (h.framed (eqb-false f 0 z)))

pub shown-length : (log image : List ℕ) (size m p : ℕ) → 1 ≤ p → ((p ≡ lock_page size → ⊥) → InPlace log image size (last_frame size log p m) p)
    → length (shown_at size log image m p) ≡ size
unfolding shown_at
shown-length log image size m p a h =
    by_cond (λ (l : List ℕ). length l ≡ size) (eqb p (lock_page size)) _ _
    (λ z. lock-length size image)
    (λ z. from-length log image size (last_frame size log p m) p a (h (eqb-false p (lock_page size) z)))

-- the ways out of `lay_frame`
module _ (size n p : ℕ) (log out : List ℕ) (from : ℕ) where
  pub frame_here : (out' : List ℕ) → (p ≡ 0 → ⊥) → p ≤ n → out' ≡ over out ((p - 1) * size) (take (from + size - from) (drop from log))
      → out' ≡ lay_frame size n p (part log from size) out
  unfolding lay_frame
  frame_here out' z h e = simp (ne_eqb p 0 z, le-ltb n p h) (rw add-sub_cancel_left at e)

-- the loop of `lay_frames`
pub frames-none : (size : ℕ) (log : List ℕ) (n : ℕ) (out : List ℕ) → out ≡ lay_frames size log n out 0
unfolding lay_frames
frames-none size log n out = refl

pub frames-next : (size : ℕ) (log : List ℕ) (n : ℕ) (out₀ out out' : List ℕ) (k at p : ℕ) → out ≡ lay_frames size log n out₀ k → at ≡ frame_at size k → p ≡ be 4 log at
    → out' ≡ lay_frame size n p (part log (at + 24) size) out → out' ≡ lay_frames size log n out₀ (k + 1)
unfolding lay_frames
frames-next size log n out₀ out out' k at p i place number e = e ∙ rw (number, place, i, add-one) refl

-- ---- all frames, over an output with room for n pages
-- one frame: bytes of the page that it holds, of another, and past them
module _ (size n x : ℕ) (bytes out : List ℕ) (sized : length bytes ≡ size) (room : n * size ≤ length out) where
  fits : 1 ≤ x → x ≤ n → (x - 1) * size + length bytes ≤ length out
  fits a b = omega (arith, page-fits x n size a b)

  of-page : (P : List ℕ → Type 0) → P out → (1 ≤ x → x ≤ n → P (over out ((x - 1) * size) bytes)) → P (lay_frame size n x bytes out)
  unfolding lay_frame
  of-page P skip lay = by_cond P (eqb x 0) _ _ (λ z. skip) (λ z. by_cond P (ltb n x) _ _ (λ h. skip) (λ h. lay (let k = eqb-false x 0 z in omega arith) (ltb-false n x h)))

  one-length : length (lay_frame size n x bytes out) ≡ length out
  one-length = of-page (λ (o : List ℕ). length o ≡ length out) refl (λ a b. length_over out ((x - 1) * size) bytes (fits a b))

  one-past : (i : ℕ) → n * size ≤ i → byte_at (lay_frame size n x bytes out) i ≡ byte_at out i
  one-past i h = of-page (λ (o : List ℕ). byte_at o i ≡ byte_at out i) refl (λ a b. over-past out ((x - 1) * size) bytes (fits a b) i (omega (arith, page-fits x n size a b)))

  one-other : (p i : ℕ) → 1 ≤ p → (x ≡ p → ⊥) → i < size → byte_at (lay_frame size n x bytes out) ((p - 1) * size + i) ≡ byte_at out ((p - 1) * size + i)
  one-other p i one ne h =
      of-page (λ (o : List ℕ). byte_at o ((p - 1) * size + i) ≡ byte_at out ((p - 1) * size + i)) refl
      (λ a b.
      ⊎_elim
      (λ (l : p < x). over_below out ((x - 1) * size) bytes (fits a b) ((p - 1) * size + i) (omega (arith, pages-apart p x size one l)))
      (λ (l : x ≤ p). let k : x < p = omega arith in over-past out ((x - 1) * size) bytes (fits a b) ((p - 1) * size + i) (omega (arith, pages-apart x p size a k)))
      (lt-or-ge p x))

  one-own : 1 ≤ x → x ≤ n → (i : ℕ) → i < size → byte_at (lay_frame size n x bytes out) ((x - 1) * size + i) ≡ byte_at bytes i
  unfolding lay_frame
  one-own a b i h = simp (ne_eqb x 0 (λ z. omega arith), le-ltb n x b) (over-within out ((x - 1) * size) bytes (fits a b) i (omega arith))

module _ (size : ℕ) (log : List ℕ) (n : ℕ) (out : List ℕ) (room : n * size ≤ length out) where
  -- the first m frames are whole
  abbrev Whole : (m : ℕ) → Type 0
  Whole m = (k : ℕ) → k < m → frame_at size k + 24 + size ≤ length log

  abbrev laid_by : (m : ℕ) → List ℕ
  laid_by m = lay_frames size log n out m

  body : (m k : ℕ) → Whole m → k < m → length (part log (frame_at size k + 24) size) ≡ size
  body m k w l = part_length log (frame_at size k + 24) size (w k l)

  fewer : (m : ℕ) → Whole (suc m) → Whole m
  fewer m w k l = w k (omega arith)

  pub all-length : (m : ℕ) → Whole m → length (laid_by m) ≡ length out
  unfolding lay_frames
  all-length zero w = refl
  all-length (suc m) w =
      let e = all-length m (fewer m w) in
      one-length size n (page_number size log m) (part log (frame_at size m + 24) size) (laid_by m) (body (suc m) m w (omega arith)) (omega arith) ∙ e

  pub all_past : (m : ℕ) → Whole m → (i : ℕ) → n * size ≤ i → byte_at (laid_by m) i ≡ byte_at out i
  unfolding lay_frames
  all_past zero w i h = refl
  all_past (suc m) w i h =
      let e = all-length m (fewer m w) in
      one-past size n (page_number size log m) (part log (frame_at size m + 24) size) (laid_by m) (body (suc m) m w (omega arith)) (omega arith) i h ∙ all_past m (fewer m w) i h

  -- byte i of page p: of the last frame that holds it, or as it was
  pub all-at : (m : ℕ) → Whole m → (p i : ℕ) → 1 ≤ p → p ≤ n → i < size
      → byte_at (laid_by m) ((p - 1) * size + i) ≡ cond (eqb (last_frame size log p m) 0) (byte_at out ((p - 1) * size + i)) (byte_at log (frame_at size (last_frame size log p m - 1) + 24 + i))
  unfolding lay_frames last_of
  all-at zero w p i a b h = refl
  all-at (suc m) w p i a b h =
      let e = all-length m (fewer m w) in
      let x : ℕ = page_number size log m in
      let bytes : List ℕ = part log (frame_at size m + 24) size in
      let long = body (suc m) m w (omega arith) in
      ⊎_elim
      (λ (same : eqb x p ≡ true).
      let q : x ≡ p = eqb-true x p same in
      let own = one-own size n x bytes (laid_by m) long (omega arith) (omega arith) (omega arith) i h in
      let k : suc m - 1 ≡ m = omega arith in
      rw (same, ne_eqb (suc m) 0 (λ z. omega arith), k)
      (ap (λ (y : ℕ). byte_at (lay_frame size n x bytes (laid_by m)) ((y - 1) * size + i)) (sym q) ∙ own ∙ part_at log (frame_at size m + 24) size i h))
      (λ (other : eqb x p ≡ false).
      rw other
      (one-other size n x bytes (laid_by m) long (omega arith) p i a (eqb-false x p other) h ∙ all-at m (fewer m w) p i a b h))
      (true-or-false (eqb x p))

-- image, then frames: the pages as they are shown, and past them what the output held
module _ (log image out : List ℕ) (size m n : ℕ) (bounds : Bounds log size m n) (none : missing size log image m n ≡ false) (room : n * size ≤ length out) where
  abbrev start : List ℕ
  start = lay_image size n image out

  start-room : n * size ≤ length start
  start-room = omega (arith, image-length size n image out room)

  whole : (k : ℕ) → k < m → frame_at size k + 24 + size ≤ length log
  whole k l = omega (arith, bounds.within, frame-far size k, frame-next size k, frame-mono size (suc k) m l)

  pub in_place : (p : ℕ) → 1 ≤ p → p ≤ n → (p ≡ lock_page size → ⊥) → InPlace log image size (last_frame size log p m) p
  in_place p a b ne =
      record {
        framed = λ z. frame-within log size m n p (last_frame size log p m) bounds z refl;
        imaged = λ z. missing-not size log image m n p none a b ne z;
      }

  -- no frame is laid over the lock-byte page
  lock-free : last_frame size log (lock_page size) m ≡ 0
  lock-free = none-holds size log (lock_page size) m (λ k l. ne_eqb (page_number size log k) (lock_page size) (bounds.unlocked k l))

  lock-here : (i : ℕ) → lock_page size ≤ n → 1 ≤ lock_page size → i < size → byte_at (lay_frames size log n start m) ((lock_page size - 1) * size + i) ≡ byte_at (lock_bytes size image) i
  lock-here i b a h =
      let e = all-at size log n start start-room m whole (lock_page size) i a b h in
      e ∙ rw (eq-eqb (last_frame size log (lock_page size) m) 0 lock-free) (image-lock size n image out room b i h)

  shown-here : (p i : ℕ) → 1 ≤ p → p ≤ n → i < size → byte_at (lay_frames size log n start m) ((p - 1) * size + i) ≡ byte_at (shown_at size log image m p) i
  unfolding page_from shown_at
  shown-here p i a b h = go (ℕ_discrete p (lock_page size))
    where
      go : Dec (p ≡ lock_page size) → byte_at (lay_frames size log n start m) ((p - 1) * size + i) ≡ byte_at (shown_at size log image m p) i
      go (yes same) =
          ap (λ (q : ℕ). byte_at (lay_frames size log n start m) ((q - 1) * size + i)) same
          ∙ lock-here i (omega arith) (omega arith) h
          ∙ sym (rw (eq-eqb p (lock_page size) same) refl)
      go (no ne) =
          let e = all-at size log n start start-room m whole p i a b h in
          ⊎_elim
          (λ (z : eqb (last_frame size log p m) 0 ≡ true).
          e ∙ rw (ne_eqb p (lock_page size) ne, z)
          (image-page size n image out room p i a b h ((in_place p a b ne).imaged (eqb-true _ 0 z)) ∙ sym (part_at image ((p - 1) * size) size i h)))
          (λ (z : eqb (last_frame size log p m) 0 ≡ false).
          e ∙ rw (ne_eqb p (lock_page size) ne, z) (sym (part_at log (frame_at size (last_frame size log p m - 1) + 24) size i h)))
          (true-or-false (eqb (last_frame size log p m) 0))

  pub whole_is : lay_frames size log n start m ≡ join_pages (shown_at size log image m) n ++ drop (n * size) out
  whole_is =
      pages-laid (shown_at size log image m) size n out (lay_frames size log n start m)
      (λ p a b. shown-length log image size m p a (in_place p a b))
      (omega (arith, bounds.least))
      room
      (all-length size log n start start-room m whole ∙ image-length size n image out room)
      shown-here
      (λ i h. all_past size log n start start-room m whole i h ∙ image-past size n image out room i h)

pub join-same : (f g : ℕ → List ℕ) (n : ℕ) → ((p : ℕ) → 1 ≤ p → p ≤ n → f p ≡ g p) → join_pages f n ≡ join_pages g n
unfolding join_pages
join-same f g zero h = refl
join-same f g (suc n) h = rw (join-same f g n (λ p a b. h p a (omega arith)), h (suc n) (omega arith) (omega arith)) refl

-- ---- the ways out of `recover_in`
module _ (log image out : List ℕ) (size m n : ℕ) (bounds : Bounds log size m n) (t : List ℕ) (marks : Covers size log m n t)
    (b : Bool) (e : b ≡ lacks t (length image) size n) where
  is-missing : b ≡ missing size log image m n
  is-missing = e ∙ lacks-is size log image t m n n marks (omega arith)

  pub laid-missing : b ≡ true → Laid size log image m n out 43 out
  unfolding room_refusal
  laid-missing h = record { refuses = rw (← is-missing, h) refl; holds = refl }

  pub laid-small : b ≡ false → length out < n * size → Laid size log image m n out 44 out
  unfolding room_refusal
  laid-small h l = record { refuses = rw (← is-missing, h, lt-ltb (length out) (n * size) l) refl; holds = refl }

  pub laid-whole : (out₁ out₂ : List ℕ) → b ≡ false → n * size ≤ length out → out₁ ≡ lay_image size n image out → out₂ ≡ lay_frames size log n out₁ m
      → Laid size log image m n out 0 out₂
  unfolding room_refusal
  laid-whole out₁ out₂ h l f g =
      record {
        refuses = rw (← is-missing, h, le-ltb (length out) (n * size) l) refl;
        holds = g ∙ ap (λ (o : List ℕ). lay_frames size log n o m) f ∙ whole_is log image out size m n bounds (sym is-missing ∙ h) l;
      }

-- ---- the answer
module _ (log image out : List ℕ) (s : State) (e : s ≡ pair_state log image) where
  pub recovered-early : (s.refusal ≡ 0 → ⊥)
      → (recovered_is s.refusal 0 0 ≡ recover_of log image (length out)) × (out ≡ out_of log image out)
  unfolding recover_of out_of refusal_in
  recovered-early n = (rw (← e) (simp (ne_eqb s.refusal 0 n)), rw (← e) (simp (ne_eqb s.refusal 0 n)))

  module _ (z : s.refusal ≡ 0) (r : ℕ) (out' : List ℕ) (laid : Laid s.size log image s.frames s.pages out r out') where
    is-refusal : refusal_in (pair_state log image) log image (length out) ≡ r
    unfolding refusal_in
    is-refusal = rw (← e) (simp (eq-eqb s.refusal 0 z) (sym laid.refuses))

    pub recovered-late : (r ≡ 0 → ⊥) → (recovered_is r 0 0 ≡ recover_of log image (length out)) × (out' ≡ out_of log image out)
    unfolding recover_of out_of
    recovered-late n = (
      rw (is-refusal) (simp (ne_eqb r 0 n)),
      laid.holds ∙ rw (is-refusal) (simp (ne_eqb r 0 n)),
    )

    pub recovered-whole : r ≡ 0
        → (recovered_is 0 s.pages (s.pages * s.size) ≡ recover_of log image (length out)) × (out' ≡ out_of log image out)
    unfolding recover_of out_of
    recovered-whole y = (
      rw (is-refusal, ← e) (simp (eq-eqb r 0 y)),
      laid.holds ∙ rw (is-refusal, ← e) (simp (eq-eqb r 0 y)),
    )
