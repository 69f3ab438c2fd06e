-- Laws of frames: where they lie, which count, and the last of them that passes a test.
use Prim.Native.Nat.{ℕ, max, zero, suc, ◌+◌, ◌-◌, ◌<◌, ◌≤◌}
use mathlib.Core.Path.{◌≡◌, refl, sym, ap, ◌∙◌}
use mathlib.Core.Logic.{⊎_elim}
use mathlib.Core.Bool.{Bool, true, false, cond, ◌&&◌, and-false, false≢true, true≢false}
use mathlib.Core.List.{List}
use native.Mathlib.Nat.{suc-mul, le-mul_of_pos_right, mul-le-mul_right}
use native.Mathlib.Decide.{dec_le}
use native.Mathlib.Omega.{arith}
use lib.Dec.{eqb}
use lib.ListN.{length}
use borrow.Author.Tests.{lt-leb, le-leb, eq-eqb, leb-true}
use Rattle.number.specs.Bytes.{be}
use Rattle.number.proofs.Cases.{true-or-false}
use Rattle.paging.specs.Pages.{lock_page}
use Rattle.wal.specs.Frames.{frame_at, page_number, marked, carries, sums_after, holds, counting, commits, last_of, last_commit, last_frame}

pub frame-first : (size : ℕ) → frame_at size 0 ≡ 32
unfolding frame_at
frame-first size = omega arith

pub frame-next : (size k : ℕ) → frame_at size (suc k) ≡ frame_at size k + (24 + size)
unfolding frame_at
frame-next size k = rw suc-mul (omega arith)

pub frame-prev : (size m : ℕ) → 0 < m → frame_at size (m - 1) + (24 + size) ≡ frame_at size m
frame-prev size m h = let e : suc (m - 1) ≡ m = omega arith in sym (frame-next size (m - 1)) ∙ ap (frame_at size) e

pub frame-mono : (size j m : ℕ) → j ≤ m → frame_at size j ≤ frame_at size m
unfolding frame_at
frame-mono size j m h = omega (arith, mul-le-mul_right (24 + size) h)

-- a frame has bytes
pub frame-far : (size k : ℕ) → k + 32 ≤ frame_at size k
unfolding frame_at
frame-far size k = omega (arith, le-mul_of_pos_right {m = 24 + size} k (omega arith))

-- frame k of the first m, all within the log, at `at`
pub frame-inside : (size k m at : ℕ) (log : List ℕ) → at ≡ frame_at size k → k < m → frame_at size m ≤ max 32 (length log) → at + (24 + size) ≤ length log
frame-inside size k m at log e l h = omega (arith, frame-far size k, frame-next size k, frame-mono size (suc k) m l)

-- ---- a conjunction of tests
pub and_left : (a b : Bool) → (a && b) ≡ true → a ≡ true
and_left true b h = refl
and_left false b h = h

pub and_right : (a b : Bool) → (a && b) ≡ true → b ≡ true
and_right true b h = h
and_right false b h = absurd (false≢true h)

-- ---- the last index that passes
pub last-same : (test : ℕ → Bool) (k n : ℕ) → ((j : ℕ) → k ≤ j → test j ≡ false) → k ≤ n → last_of test n ≡ last_of test k
unfolding last_of
last-same test k zero f h = let e : k ≡ 0 = omega arith in rw e
last-same test k (suc n) f h = go (last-same test k n f) (dec_le k n)
  where
    go : (k ≤ n → last_of test n ≡ last_of test k) → Dec (k ≤ n) → last_of test (suc n) ≡ last_of test k
    go r (yes l) = rw (f n l) (r l)
    go r (no l) = let e : k ≡ suc n = omega arith in rw e

-- ---- which frames count
module _ (big : Bool) (size : ℕ) (log : List ℕ) where
  pub short-fails : (k : ℕ) → length log < frame_at size (suc k) → holds big size log k ≡ false
  unfolding holds
  short-fails k h = simp (lt-leb (frame_at size (suc k)) (length log) h)

  pub unmarked-fails : (k : ℕ) → marked size log (frame_at size k) ≡ false → holds big size log k ≡ false
  unfolding holds
  unmarked-fails k h = simp (h, and-false)

  pub uncarried-fails : (k : ℕ) → carries log (frame_at size k) (sums_after big size log (suc k)) ≡ false → holds big size log k ≡ false
  unfolding holds
  uncarried-fails k h = simp (h, and-false)

  pub frame-holds : (k : ℕ) → frame_at size (suc k) ≤ length log → marked size log (frame_at size k) ≡ true
      → carries log (frame_at size k) (sums_after big size log (suc k)) ≡ true → holds big size log k ≡ true
  unfolding holds
  frame-holds k h m s = simp (le-leb (frame_at size (suc k)) (length log) h, m, s)

  -- nothing behind a frame that fails counts
  pub none-behind : (k j : ℕ) → holds big size log k ≡ false → k < j → counting big size log j ≡ false
  unfolding counting
  none-behind k zero h l = absurd (omega arith)
  none-behind k (suc j) h l = go (none-behind k j h) (dec_le (suc k) j)
    where
      go : (k < j → counting big size log j ≡ false) → Dec (suc k ≤ j) → counting big size log (suc j) ≡ false
      go r (yes m) = simp (r m)
      go r (no m) = let e : k ≡ j = omega arith in simp (rw e at h, and-false)

  pub none-commits : (k j : ℕ) → holds big size log k ≡ false → k ≤ j → commits big size log j ≡ false
  unfolding commits
  none-commits k j h l = simp (none-behind k (suc j) h (omega arith))

  -- so the last commit is found once a frame fails
  pub last_found : (k : ℕ) → holds big size log k ≡ false → k ≤ length log → last_commit big size log ≡ last_of (commits big size log) k
  last_found k h l = last-same (commits big size log) k (length log) (λ j m. none-commits k j h m) l

  pub counted-holds : (m k : ℕ) → counting big size log m ≡ true → k < m → holds big size log k ≡ true
  counted-holds m k c l =
      ⊎_elim (λ (t : holds big size log k ≡ true). t) (λ (f : holds big size log k ≡ false). absurd (true≢false (sym c ∙ none-behind k m f l)))
      (true-or-false (holds big size log k))

  -- a frame with the lock-byte page's number fails
  pub lock-fails : (k : ℕ) → page_number size log k ≡ lock_page size → holds big size log k ≡ false
  unfolding marked
  lock-fails k e = unmarked-fails k (simp (eq-eqb (be 4 log (frame_at size k)) (lock_page size) e, and-false))

-- what the last index found passes
pub last-passes : (test : ℕ → Bool) (n k : ℕ) → last_of test n ≡ suc k → test k ≡ true
unfolding last_of
last-passes test zero k e = absurd (omega arith)
last-passes test (suc n) k e = go (last-passes test n k) (test n) refl e
  where
    go : (last_of test n ≡ suc k → test k ≡ true) → (b : Bool) → test n ≡ b → cond b (suc n) (last_of test n) ≡ suc k → test k ≡ true
    go r true h f = let j : n ≡ k = omega arith in rw (← j) h
    go r false h f = r f

-- no more than was looked at
pub last-below : (test : ℕ → Bool) (n : ℕ) → last_of test n ≤ n
unfolding last_of
last-below test zero = omega arith
last-below test (suc n) = go (last-below test n) (test n)
  where
    go : last_of test n ≤ n → (b : Bool) → cond b (suc n) (last_of test n) ≤ suc n
    go r true = omega arith
    go r false = omega arith

-- a frame that counts is whole
pub counted-whole : (big : Bool) (size : ℕ) (log : List ℕ) (k : ℕ) → counting big size log (suc k) ≡ true → frame_at size (suc k) ≤ length log
unfolding counting holds
counted-whole big size log k h =
    leb-true _ _ (and_left _ _ (and_left _ _ (and_right (counting big size log k) _ h)))

-- the frames in force lie within the log
pub in-force-whole : (big : Bool) (size : ℕ) (log : List ℕ) → 32 ≤ length log → frame_at size (last_commit big size log) ≤ length log
unfolding commits
in-force-whole big size log l = go (last_commit big size log) refl
  where
    go : (m : ℕ) → last_commit big size log ≡ m → frame_at size m ≤ length log
    go zero e = rw (frame-first size) l
    go (suc k) e = counted-whole big size log k (and_left _ _ (last-passes (commits big size log) (length log) k e))

-- they count, so none of them has the lock-byte page's number
pub in-force-unlocked : (big : Bool) (size : ℕ) (log : List ℕ) (k : ℕ) → k < last_commit big size log → page_number size log k ≡ lock_page size → ⊥
unfolding commits counting
in-force-unlocked big size log k l e =
    true≢false (sym (counted-holds big size log (last_commit big size log) k (go (last_commit big size log) refl) l) ∙ lock-fails big size log k e)
  where
    go : (m : ℕ) → last_commit big size log ≡ m → counting big size log m ≡ true
    go zero e = refl
    go (suc k) e = and_left (counting big size log (suc k)) _ (last-passes (commits big size log) (length log) k e)

-- a page that none of the first m frames holds has no last frame
pub none-holds : (size : ℕ) (log : List ℕ) (p m : ℕ) → ((j : ℕ) → j < m → eqb (page_number size log j) p ≡ false) → last_frame size log p m ≡ 0
unfolding last_of
none-holds size log p zero f = refl
none-holds size log p (suc m) f = rw (f m (omega arith)) (none-holds size log p m (λ j l. f j (omega arith)))
