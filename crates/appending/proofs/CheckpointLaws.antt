-- Images under a log: what the frames in force hold, the image may hold in any state.
use Prim.Native.Nat.{ℕ, zero, suc, ◌+◌, ◌-◌, ◌*◌, ◌/◌, ◌<◌, ◌≤◌}
use mathlib.Core.Path.{◌≡◌, refl, sym, ap, ◌∙◌}
use mathlib.Core.Logic.{◌⊎◌, ⊎_elim}
use mathlib.Core.Bool.{Bool, true, false}
use mathlib.Core.List.{List}
use native.Mathlib.Nat.{mul-le-mul_right, le_of_mul-le-mul_right, mul-add-div_right, div-eq_of_lt}
use native.Mathlib.Omega.{arith}
use lib.Dec.{eqb, ltb}
use lib.ListN.{length}
use lib.Seq.{ext_get_or}
use borrow.Author.Tests.{ne_eqb, eqb-true, eqb-false, le-ltb, lt-ltb, ltb-false}
use Rattle.number.specs.Bytes.{byte_at, part}
use Rattle.number.proofs.Cases.{by_cond}
use Rattle.header.specs.Header.{pages_in}
use Rattle.header.proofs.Laws.{page-end, pages-passed, sized-paged}
use Rattle.paging.specs.Pages.{lock_page, lock_bytes, join_pages}
use Rattle.paging.proofs.LockLaws.{lock-one}
use Rattle.paging.proofs.PagesLaws.{part_length, part_at}
use Rattle.wal.specs.Frames.{page_number, last_of, last_frame}
use Rattle.wal.specs.State.{nothing, state_is, state_of}
use Rattle.wal.specs.View.{image_state, pair_state, in_neither, no_part, part_is, image_part, page_at, page_in, page_of, bytes_of, view_of, page_from, shown_at}
use Rattle.wal.specs.View.{missing, room_refusal, refusal_in, whole_in, whole_of}
use Rattle.wal.specs.State.{State}
use Rattle.wal.specs.Part.{Part}
use Rattle.wal.proofs.FrameLaws.{none-holds}
use Rattle.wal.proofs.ViewLaws.{state-bounds}
use Rattle.wal.proofs.RecoverLaws.{missing-not, join-same}
use Rattle.wal.proofs.AgreeLaws.{Succeeds, succeeds, whole_length, whole-page, alone-whole}
use Rattle.appending.specs.Promises.{SamePage, SameBelow, AlikeBelow}
use Rattle.appending.proofs.AppendLaws.{by-conds}

mul-cancel : (k a b : ℕ) → 1 ≤ k → a * k ≡ b * k → a ≡ b
mul-cancel k a b h e =
    let l : a ≤ b = le_of_mul-le-mul_right {k = k} (omega arith) h in
    let g : b ≤ a = le_of_mul-le-mul_right {k = k} (omega arith) h in
    omega arith

-- ---- two images that are the same on the pages that no frame in force holds
module _ (size : ℕ) (log : List ℕ) (m n : ℕ) (a b : List ℕ) (same : SameBelow size log m n a b)
    (unlocked : (k : ℕ) → k < m → page_number size log k ≡ lock_page size → ⊥) where
  lock-none : last_frame size log (lock_page size) m ≡ 0
  lock-none = none-holds size log (lock_page size) m (λ j l. ne_eqb _ _ (unlocked j l))

  Rel : Part → Part → Type 0
  Rel r t = (r ≡ t) × (bytes_of log a r ≡ bytes_of log b t)

  image-same : (refusal p : ℕ) → SamePage size a b p → Rel (image_part refusal size a p) (image_part refusal size b p)
  unfolding Rel image_part
  image-same refusal p h =
      rw (← h.there)
      (by-conds Rel (ltb (length a) (p * size)) (no_part refusal) (part_is 0 false ((p - 1) * size) size) (no_part refusal) (part_is 0 false ((p - 1) * size) size)
      (λ o. (refl, refl))
      (λ o. (refl, h.bytes (ltb-false _ _ o))))

  page-same : (p : ℕ) → Rel (page_at size log a m n p) (page_at size log b m n p)
  unfolding Rel page_at
  page-same p =
      by-conds Rel (eqb p 0) _ _ _ _ (λ z. (refl, refl))
      (λ z. by-conds Rel (ltb n p) _ _ _ _ (λ o. (refl, refl))
      (λ o.
      let low : 1 ≤ p = let q = eqb-false p 0 z in omega arith in
      let high : p ≤ n = ltb-false n p o in
      by-conds Rel (eqb p (lock_page size)) _ _ _ _
      (λ k. image-same 46 p (same p low high (ap (λ (q : ℕ). last_frame size log q m) (eqb-true _ _ k) ∙ lock-none)))
      (λ k. by-conds Rel (eqb (last_frame size log p m) 0) _ _ _ _ (λ f. image-same 43 p (same p low high (eqb-true _ 0 f))) (λ f. (refl, refl)))))

  missing-same : (k : ℕ) → k ≤ n → missing size log a m k ≡ missing size log b m k
  unfolding missing
  missing-same zero h = refl
  missing-same (suc k) h =
      let r : missing size log a m k ≡ missing size log b m k = missing-same k (omega arith) in
      let q : in_neither size log a m (suc k) ≡ in_neither size log b m (suc k) =
      by-conds (λ x y. x ≡ y) (eqb (suc k) (lock_page size)) _ _ _ _ (λ e. refl)
      (λ e. by-conds (λ x y. x ≡ y) (eqb (last_frame size log (suc k) m) 0) _ _ _ _ (λ f. (same (suc k) (omega arith) h (eqb-true _ 0 f)).there) (λ f. refl)) in
      rw (r, q) refl

  room-same : (room : ℕ) → room_refusal size log a m n room ≡ room_refusal size log b m n room
  unfolding room_refusal
  room-same room = rw (missing-same n (omega arith)) refl

  lock-same : lock_page size ≤ n → lock_bytes size a ≡ lock_bytes size b
  unfolding lock_bytes
  lock-same h =
      let s = same (lock_page size) (lock-one size) h lock-none in
      rw (← s.there) (by-conds (λ x y. x ≡ y) (ltb (length a) (lock_page size * size)) _ _ _ _ (λ o. refl) (λ o. s.bytes (ltb-false _ _ o)))

  -- with no page missing
  shown-same : missing size log a m n ≡ false → (p : ℕ) → 1 ≤ p → p ≤ n → shown_at size log a m p ≡ shown_at size log b m p
  unfolding shown_at page_from
  shown-same none p low high =
      by-conds (λ x y. x ≡ y) (eqb p (lock_page size)) _ _ _ _ (λ k. lock-same (let e : p ≡ lock_page size = eqb-true _ _ k in omega arith))
      (λ k. by-conds (λ x y. x ≡ y) (eqb (last_frame size log p m) 0) _ _ _ _
      (λ f.
      let z = eqb-true _ 0 f in
      (same p low high z).bytes (missing-not size log a m n p none low high (eqb-false _ _ k) z))
      (λ f. refl))

  whole_same : missing size log a m n ≡ false → join_pages (shown_at size log a m) n ≡ join_pages (shown_at size log b m) n
  whole_same none = join-same (shown_at size log a m) (shown_at size log b m) n (λ p x y. shown-same none p x y)

-- ---- the same by bytes: only bytes of pages that a frame in force holds are other ones, and bytes past the end
pub same_bytes : (size : ℕ) (log : List ℕ) (m n : ℕ) (a b : List ℕ) → 1 ≤ size → length a ≤ length b
    → ((p : ℕ) → 1 ≤ p → p ≤ n → last_frame size log p m ≡ 0 → (p * size ≤ length a) ⊎ (length b < p * size))
    → ((j : ℕ) → j < length a → last_frame size log (j / size + 1) m ≡ 0 → byte_at b j ≡ byte_at a j)
    → SameBelow size log m n a b
same_bytes size log m n a b some grown lies same p low high none =
    ⊎_elim
    (λ (l : p * size ≤ length a).
    let at : ℕ = (p - 1) * size in
    let e : at + size ≡ p * size = page-end size p low in
    let la : length (part a at size) ≡ size = part_length a at size (omega arith) in
    let lb : length (part b at size) ≡ size = part_length b at size (omega arith) in
    record {
      there = le-ltb (length a) (p * size) l ∙ sym (le-ltb (length b) (p * size) (omega arith));
      bytes = λ w.
          ext_get_or 0 (part a at size) (part b at size) (la ∙ sym lb)
          (λ k h.
          let k' : k < size = omega arith in
          let d : (at + k) / size ≡ p - 1 = mul-add-div_right some (p - 1) k ∙ omega (arith, div-eq_of_lt {n = k} {m = size} k') in
          let q : (at + k) / size + 1 ≡ p = omega arith in
          part_at a at size k k' ∙ sym (same (at + k) (omega arith) (ap (λ (x : ℕ). last_frame size log x m) q ∙ none)) ∙ sym (part_at b at size k k'));
    })
    (λ (l : length b < p * size).
    record {
      there = lt-ltb (length a) (p * size) (omega arith) ∙ sym (lt-ltb (length b) (p * size) l);
      bytes = λ w. absurd (omega arith);
    })
    (lies p low high none)

-- ---- the same of a log's state
pub forced : (log x : List ℕ) → ((state_of log).refusal ≡ 0 → (state_of log).frames ≡ 0 → ⊥) → pair_state log x ≡ state_of log
unfolding pair_state
forced log x some = go (eqb (state_of log).refusal 0) refl
  where
    go : (t : Bool) → eqb (state_of log).refusal 0 ≡ t → pair_state log x ≡ state_of log
    go true z = simp (z, ne_eqb (state_of log).frames 0 (some (eqb-true _ 0 z)))
    go false z = simp z

module _ (log a b : List ℕ) (some : (state_of log).refusal ≡ 0 → (state_of log).frames ≡ 0 → ⊥)
    (same : SameBelow (state_of log).size log (state_of log).frames (state_of log).pages a b) where
  abbrev s : State
  s = state_of log

  unlocked : s.refusal ≡ 0 → (k : ℕ) → k < s.frames → page_number s.size log k ≡ lock_page s.size → ⊥
  unlocked r =
      let e = forced log a some in
      let bounds = state-bounds log a (rw e r) in
      rw e at bounds.unlocked

  InRel : Part → Part → Type 0
  InRel r t = (r ≡ t) × (bytes_of log a r ≡ bytes_of log b t)

  in-page : (p : ℕ) → InRel (page_in s log a p) (page_in s log b p)
  unfolding page_in InRel Rel
  in-page p =
      by-conds InRel (eqb s.refusal 0) _ _ _ _
      (λ r. page-same s.size log s.frames s.pages a b same (unlocked (eqb-true _ 0 r)) p)
      (λ r. (refl, refl))

  in-refusal : (room : ℕ) → refusal_in s log a room ≡ refusal_in s log b room
  unfolding refusal_in
  in-refusal room =
      by-conds (λ x y. x ≡ y) (eqb s.refusal 0) _ _ _ _
      (λ r. room-same s.size log s.frames s.pages a b same (unlocked (eqb-true _ 0 r)) room)
      (λ r. refl)

  in_whole : (room : ℕ) → refusal_in s log a room ≡ 0 → whole_in s log a ≡ whole_in s log b
  in_whole room done =
      let ok = succeeds s log a room done in
      whole_same s.size log s.frames s.pages a b same (unlocked ok.passed) ok.none

  pub below_alike : AlikeBelow log a b
  unfolding InRel
  below_alike =
      let ea = forced log a some in
      let eb = forced log b some in
      record {
        state = ea ∙ sym eb;
        page = λ p. rw (ea, eb) (in-page p).0;
        view = λ p. rw (ea, eb) (in-page p).1;
        refusal = λ room. rw (ea, eb) (in-refusal room);
        whole = λ room done. rw (ea, eb) (in_whole room (rw ea at done));
      }

-- ---- the recovered file, alone
-- nothing to recover
pub alone : (log image : List ℕ) → state_of log ≡ nothing → pair_state log image ≡ image_state image
unfolding pair_state
alone log image e = rw e refl

module _ (log image : List ℕ) (room : ℕ) (done : refusal_in (pair_state log image) log image room ≡ 0) where
  abbrev was : State
  was = pair_state log image

  abbrev file : List ℕ
  file = whole_of log image

  ok : Succeeds was log image room
  ok = succeeds was log image room done

  pub file-length : length file ≡ was.pages * was.size
  file-length = whole_length was log image room ok (state-bounds log image ok.passed)

  pub file-page : (p : ℕ) → 1 ≤ p → p ≤ was.pages → part file ((p - 1) * was.size) was.size ≡ shown_at was.size log image was.frames p
  file-page p low high = whole-page was log image room ok (state-bounds log image ok.passed) p low high

  module _ (other : List ℕ) (none : state_of other ≡ nothing) (headed : (pages_in file).refusal ≡ 0) (sized : (pages_in file).size ≡ was.size) where
    -- its own size cuts it into the pages that it was written of
    pub file-pages : (pages_in file).pages ≡ was.pages
    file-pages =
        let g = sized-paged (pages-passed file (pages_in file) refl headed) in
        let e : (pages_in file).pages * was.size ≡ was.pages * was.size = ap (λ (k : ℕ). (pages_in file).pages * k) (sym sized) ∙ g.whole ∙ file-length in
        mul-cancel was.size (pages_in file).pages was.pages (let l = g.least in let z = sized in omega arith) e

    pub file-state : pair_state other file ≡ state_is 0 was.size 0 was.pages
    file-state = alone other file none ∙ rw (headed, sized, file-pages) refl

    pub file-whole : whole_of other file ≡ file
    file-whole = rw (alone other file none) (alone-whole other file headed)

    module _ (p : ℕ) (low : 1 ≤ p) (high : p ≤ was.pages) where
      inside : p * was.size ≤ length file
      inside = rw file-length (mul-le-mul_right was.size high)

      pub file-part : page_of other file p ≡ part_is 0 false ((p - 1) * was.size) was.size
      unfolding page_in page_at image_part last_of
      file-part =
          let i : ltb (length file) (p * was.size) ≡ false = le-ltb _ _ inside in
          rw file-state
          (simp (ne_eqb p 0 (λ z. omega arith), le-ltb was.pages p high, i)
          (by_cond (λ (r : Part). r ≡ part_is 0 false ((p - 1) * was.size) was.size) (eqb p (lock_page was.size)) _ _ (λ e. refl) (λ e. refl)))

      pub file-view : view_of other file p ≡ shown_at was.size log image was.frames p
      file-view = rw file-part (file-page p low high)
