-- What the log promises. The words are in specs/Promises.antt; `take c log` is the log cut at byte c.
use Prim.Native.Nat.{ℕ, suc, ◌+◌, ◌-◌, ◌*◌, ◌<◌, ◌≤◌}
use mathlib.Core.Path.{◌≡◌, refl, sym, ap, ◌∙◌}
use mathlib.Core.Logic.{◌⊎◌, ⊎_elim}
use mathlib.Core.Bool.{Bool, true, false, ◌&&◌, and-true, and-false}
use mathlib.Core.List.{List, [], ◌++◌}
use native.Mathlib.Decide.{dec_le}
use native.Mathlib.Omega.{arith}
use lib.Dec.{leb}
use lib.ListN.{length, take, drop, replicate, length-take, length-drop}
use lib.Seq.{take-append-le, drop-append-le}
use borrow.Author.Tests.{eq-eqb, ne_eqb, le-ltb, lt-ltb, le-leb, lt-leb}
use Rattle.number.specs.Bytes.{be, part}
use Rattle.paging.specs.Pages.{page_limit, lock_page, lock_bytes}
use Rattle.paging.proofs.PagesLaws.{page-fits}
use Rattle.paging.proofs.LockLaws.{lock-one, lock-zeros}
use Rattle.wal.specs.Frames.{frame_at, page_number, commit_size, marked, holds, counting, last_commit, last_frame}
use Rattle.wal.specs.State.{size_of, state_is, state_at}
use Rattle.wal.specs.View.{image_state, pair_state, no_part, image_part, page_at, page_in, page_of, bytes_of, view_of, page_from, shown_at, refusal_in, whole_in, whole_of, recover_of, out_of}
use Rattle.wal.specs.Promises.{Accepted, CommitBy, LastCommitBy, Shown}
use Rattle.wal.specs.Whole.{InPlace}
use Rattle.wal.proofs.FrameLaws.{frame-far, frame-mono, unmarked-fails, lock-fails, none-holds, none-behind}
use Rattle.wal.proofs.ViewLaws.{state-bounds, part-in-log}
use Rattle.wal.proofs.TakeLaws.{counting-take, counting-cut}
use Rattle.wal.proofs.CutLaws.{last-holds, cut-shown, cut-alone, cut-either, cut-behind, commit-before}
use Rattle.wal.proofs.AgreeLaws.{succeeds, shown-is, whole_length, whole-page, view-page, again-shown}

-- ==== What a state shows
-- The state of commit frame k: its first k + 1 frames are in force, and n is the size that frame k carries.
pub commit-state : (size : ℕ) (log : List ℕ) (k : ℕ) → commit_size size log k ≤ page_limit
    → state_at size log (suc k) ≡ state_is 0 size (suc k) (commit_size size log k)
unfolding state_at
commit-state size log k h =
    let i : suc k - 1 ≡ k = omega arith in
    rw (i, le-ltb page_limit (commit_size size log k) h, ne_eqb (suc k) 0 (λ z. omega arith)) refl

-- With m frames in force, page p, if it is not the lock-byte page, has the bytes of the last of them that holds it,
pub frame-shown : (size : ℕ) (log image : List ℕ) (m p i : ℕ) → (p ≡ lock_page size → ⊥) → i < m → page_number size log i ≡ p
    → ((j : ℕ) → i < j → j < m → page_number size log j ≡ p → ⊥) → shown_at size log image m p ≡ part log (frame_at size i + 24) size
unfolding page_from shown_at
frame-shown size log image m p i ne l h f =
    let last : last_frame size log p m ≡ suc i = last-holds size log p i (eq-eqb (page_number size log i) p h) m l (λ j a b. ne_eqb (page_number size log j) p (f j a b)) in
    let k : suc i - 1 ≡ i = omega arith in
    rw (ne_eqb p (lock_page size) ne, last, k, ne_eqb (suc i) 0 (λ z. omega arith)) refl

-- or else of the image.
pub image-shown : (size : ℕ) (log image : List ℕ) (m p : ℕ) → (p ≡ lock_page size → ⊥) → ((j : ℕ) → j < m → page_number size log j ≡ p → ⊥)
    → shown_at size log image m p ≡ part image ((p - 1) * size) size
unfolding page_from shown_at
image-shown size log image m p ne f =
    let none : last_frame size log p m ≡ 0 = none-holds size log p m (λ j l. ne_eqb (page_number size log j) p (f j l)) in
    rw (ne_eqb p (lock_page size) ne, none) refl

-- The lock-byte page has those of the image, whatever the frames are, or zeros where it does not lie wholly within the image.
pub lock-shown : (size : ℕ) (log image : List ℕ) (m : ℕ) → shown_at size log image m (lock_page size) ≡ lock_bytes size image
unfolding shown_at
lock-shown size log image m = rw (eq-eqb (lock_page size) (lock_page size) refl) refl

-- A page of 1 to n that is in one of the two places is shown with those bytes.
pub page-shown : (size : ℕ) (log image : List ℕ) (m n p : ℕ) → 1 ≤ p → p ≤ n → (p ≡ lock_page size → ⊥) → InPlace log image size (last_frame size log p m) p
    → bytes_of log image (page_at size log image m n p) ≡ shown_at size log image m p
page-shown size log image m n p a b ne h = shown-is size log image m n p a b ne h

-- Asked for alone, the lock-byte page of 1 to n is a part of the image; where it does not lie wholly within the image, it does not exist (46).
pub lock-view : (size : ℕ) (log image : List ℕ) (m n : ℕ) → lock_page size ≤ n → page_at size log image m n (lock_page size) ≡ image_part 46 size image (lock_page size)
unfolding page_at
lock-view size log image m n b =
    let one = lock-one size in
    simp (ne_eqb (lock_page size) 0 (λ z. omega arith), le-ltb n (lock_page size) b, eq-eqb (lock_page size) (lock_page size) refl)

-- ==== The cut
-- The frames that count in the cut log are those of the uncut log that end by the cut.
pub cut-counts : (big : Bool) (size c k : ℕ) (log : List ℕ) → 32 ≤ c
    → counting big size (take c log) (suc k) ≡ (counting big size log (suc k) && leb (frame_at size (suc k)) c)
cut-counts big size c k log past = go (dec_le (frame_at size (suc k)) c)
  where
    go : Dec (frame_at size (suc k) ≤ c) → counting big size (take c log) (suc k) ≡ (counting big size log (suc k) && leb (frame_at size (suc k)) c)
    go (yes w) = rw (counting-take c log past size big (suc k) w, le-leb (frame_at size (suc k)) c w) (sym (and-true (counting big size log (suc k))))
    go (no w) =
        rw (counting-cut c log past size big k (omega arith), lt-leb (frame_at size (suc k)) c (omega arith)) (sym (and-false (counting big size log (suc k))))

-- Take any log with an accepted header, any image, and any cut at or after byte 32. What the cut log shows, of n, of every page and of the whole
-- file, is the state of the last commit frame of the uncut log that counts there and lies wholly before the cut, its pages read from the uncut log.
pub cut : (big : Bool) (log image : List ℕ) (c k : ℕ) → Accepted big log → 32 ≤ c → LastCommitBy big log c k
    → Shown (take c log) image (state_at (size_of log) log (suc k)) log
cut big log image c k a past h = cut-shown big log image c past a k h

-- Where there is no such frame, it is the image alone, and no log is read.
pub cut-before-any : (big : Bool) (log image : List ℕ) (c : ℕ) → Accepted big log → 32 ≤ c → ((j : ℕ) → CommitBy big log c j → ⊥)
    → Shown (take c log) image (image_state image) []
cut-before-any big log image c a past none = cut-alone big log image c past a none

-- One of the two is the case at every cut.
pub cut-cases : (big : Bool) (log : List ℕ) (c : ℕ) → Accepted big log → 32 ≤ c
    → ((k : ℕ) × LastCommitBy big log c k) ⊎ ((j : ℕ) → CommitBy big log c j → ⊥)
cut-cases big log c a past = cut-either big log [] c past a

-- ==== No leftovers
-- Take a frame k that fails, for any reason. Neither it nor any frame behind it counts;
pub failed-frames : (big : Bool) (size : ℕ) (log : List ℕ) (k j : ℕ) → holds big size log k ≡ false → k ≤ j → counting big size log (suc j) ≡ false
failed-frames big size log k j h l = none-behind big size log k (suc j) h (omega arith)

-- the log shows what it would show if it ended where that frame begins;
pub first-failure : (big : Bool) (log image : List ℕ) (k : ℕ) → Accepted big log → holds big (size_of log) log k ≡ false
    → Shown log image (pair_state (take (frame_at (size_of log) k) log) image) (take (frame_at (size_of log) k) log)
first-failure big log image k a h =
    let far = frame-far (size_of log) k in
    cut-behind big log image (frame_at (size_of log) k) (omega arith) a
    (frame-mono (size_of log) (last_commit big (size_of log) log) k (commit-before big log k h))

-- and no byte of it or of what lies behind it is shown of any page.
pub nothing-behind : (big : Bool) (log image : List ℕ) (k p : ℕ) → Accepted big log → holds big (size_of log) log k ≡ false
    → (page_of log image p).logged ≡ true → (page_of log image p).start + (page_of log image p).length ≤ frame_at (size_of log) k
nothing-behind big log image k p a h l =
    let c : ℕ = frame_at (size_of log) k in
    let e = (first-failure big log image k a h).page p in
    let w = part-in-log (take c log) image p (page_of log image p) e l in
    let n = length-take c log in
    omega arith

-- A frame with other salts than the header's fails, whatever its sums are: a leftover of an older log.
pub other_salts : (big : Bool) (size : ℕ) (log : List ℕ) (k : ℕ)
    → (be 4 log (frame_at size k + 8) ≡ be 4 log 16 → ⊥) ⊎ (be 4 log (frame_at size k + 12) ≡ be 4 log 20 → ⊥)
    → holds big size log k ≡ false
unfolding marked
other_salts big size log k h =
    unmarked-fails big size log k
    (⊎_elim
    (λ (n : be 4 log (frame_at size k + 8) ≡ be 4 log 16 → ⊥). simp (ne_eqb (be 4 log (frame_at size k + 8)) (be 4 log 16) n, and-false))
    (λ (n : be 4 log (frame_at size k + 12) ≡ be 4 log 20 → ⊥). simp (ne_eqb (be 4 log (frame_at size k + 12)) (be 4 log 20) n, and-false))
    h)

-- So a leftover, and every frame behind it, is shown nowhere.
pub no-leftovers : (big : Bool) (log image : List ℕ) (k : ℕ) → Accepted big log
    → (be 4 log (frame_at (size_of log) k + 8) ≡ be 4 log 16 → ⊥) ⊎ (be 4 log (frame_at (size_of log) k + 12) ≡ be 4 log 20 → ⊥)
    → Shown log image (pair_state (take (frame_at (size_of log) k) log) image) (take (frame_at (size_of log) k) log)
no-leftovers big log image k a h = first-failure big log image k a (other_salts big (size_of log) log k h)

-- ==== The lock-byte page in a log
-- A frame with the lock-byte page's number fails, whatever its sums, its salts and its commit are, and whether or not that page is above n.
pub lock-ends : (big : Bool) (size : ℕ) (log : List ℕ) (k : ℕ) → page_number size log k ≡ lock_page size → holds big size log k ≡ false
lock-ends big size log k e = lock-fails big size log k e

-- So the log shows what it would show if it ended where that frame begins: the frames before it stay, and none behind it is shown.
pub no-lock-frames : (big : Bool) (log image : List ℕ) (k : ℕ) → Accepted big log → page_number (size_of log) log k ≡ lock_page (size_of log)
    → Shown log image (pair_state (take (frame_at (size_of log) k) log) image) (take (frame_at (size_of log) k) log)
no-lock-frames big log image k a e = first-failure big log image k a (lock-ends big (size_of log) log k e)

-- ==== Behind the last commit
-- To cut the log right behind its last counting commit frame changes nothing that is shown: what lies behind has no voice.
pub behind-commit : (big : Bool) (log image : List ℕ) → Accepted big log
    → Shown log image
    (pair_state (take (frame_at (size_of log) (last_commit big (size_of log) log)) log) image)
    (take (frame_at (size_of log) (last_commit big (size_of log) log)) log)
behind-commit big log image a =
    let far = frame-far (size_of log) (last_commit big (size_of log) log) in
    cut-behind big log image (frame_at (size_of log) (last_commit big (size_of log) log)) (omega arith) a (omega arith)

-- ==== Whole recovery and page views
-- Where whole recovery succeeds, page p of the output has the bytes that the state shows,
pub whole-shows : (log image out : List ℕ) (p : ℕ) → refusal_in (pair_state log image) log image (length out) ≡ 0 → 1 ≤ p → p ≤ (pair_state log image).pages
    → part (out_of log image out) ((p - 1) * (pair_state log image).size) (pair_state log image).size ≡ shown_at (pair_state log image).size log image (pair_state log image).frames p
unfolding out_of
whole-shows log image out p done a b =
    let s = pair_state log image in
    let ok = succeeds s log image (length out) done in
    let bounds = state-bounds log image ok.passed in
    let long : length (whole_in s log image) ≡ s.pages * s.size = whole_length s log image (length out) ok bounds in
    let w : (p - 1) * s.size + s.size ≤ s.pages * s.size = page-fits p s.pages s.size a b in
    simp (eq-eqb (refusal_in s log image (length out)) 0 done)
    (front (whole_in s log image) (drop (s.pages * s.size) out) ((p - 1) * s.size) s.size (omega arith)
    ∙ whole-page s log image (length out) ok bounds p a b)
  where
    front : (x y : List ℕ) (at n : ℕ) → at + n ≤ length x → part (x ++ y) at n ≡ part x at n
    front x y at n h =
        ap (take n) (drop-append-le at x y (omega arith))
        ∙ take-append-le n (drop at x) y (omega (arith, length-drop at x))

-- which is what the view of page p shows, for each p of 1 to n, the lock-byte page included if the image has it.
pub agree : (log image out : List ℕ) (p : ℕ) → refusal_in (pair_state log image) log image (length out) ≡ 0 → 1 ≤ p → p ≤ (pair_state log image).pages
    → (p ≡ lock_page (pair_state log image).size → p * (pair_state log image).size ≤ length image)
    → part (out_of log image out) ((p - 1) * (pair_state log image).size) (pair_state log image).size ≡ view_of log image p
agree log image out p done a b there =
    let s = pair_state log image in
    let ok = succeeds s log image (length out) done in
    whole-shows log image out p done a b ∙ sym (view-page s log image (length out) ok (state-bounds log image ok.passed) p a b there)

-- Where the image has not all of it, the output has zeros there, and the view is refused with 46.
pub agree-lock : (log image out : List ℕ) → refusal_in (pair_state log image) log image (length out) ≡ 0
    → lock_page (pair_state log image).size ≤ (pair_state log image).pages → length image < lock_page (pair_state log image).size * (pair_state log image).size
    → (part (out_of log image out) ((lock_page (pair_state log image).size - 1) * (pair_state log image).size) (pair_state log image).size ≡ replicate (pair_state log image).size 0)
    × (page_of log image (lock_page (pair_state log image).size) ≡ no_part 46)
unfolding page_in image_part
agree-lock log image out done b l =
    let s = pair_state log image in
    let lock : ℕ = lock_page s.size in (
      whole-shows log image out lock done (lock-one s.size) b ∙ lock-shown s.size log image s.frames ∙ lock-zeros s.size image l,
      simp (eq-eqb s.refusal 0 (succeeds s log image (length out) done).passed) (lock-view s.size log image s.frames s.pages b ∙ simp (lt-ltb (length image) (lock * s.size) l)),
    )

-- ==== Again
-- Recovery of the recovered file with the same log gives the same again: the same answer, and the same output.
pub again : (log image out : List ℕ) → refusal_in (pair_state log image) log image (length out) ≡ 0
    → (recover_of log (whole_of log image) (length out) ≡ recover_of log image (length out))
    × (out_of log (whole_of log image) out ≡ out_of log image out)
unfolding recover_of out_of
again log image out done =
    let g = again-shown log image (length out) done in
    let s = pair_state log image in (
      simp (eq-eqb (refusal_in (pair_state log (whole_of log image)) log (whole_of log image) (length out)) 0 g.success, eq-eqb (refusal_in s log image (length out)) 0 done)
          (rw g.state refl),
      simp (eq-eqb (refusal_in (pair_state log (whole_of log image)) log (whole_of log image) (length out)) 0 g.success, eq-eqb (refusal_in s log image (length out)) 0 done)
          (rw (g.whole, g.state) refl),
    )
