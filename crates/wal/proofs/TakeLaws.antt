-- A log that is cut: what lies before the cut reads as in the whole log.
use Prim.Native.Nat.{ℕ, zero, suc, ◌+◌, ◌*◌, ◌/◌, ◌<◌, ◌≤◌}
use mathlib.Core.Path.{◌≡◌, refl}
use mathlib.Core.Bool.{Bool, true, false}
use mathlib.Core.List.{List}
use native.Mathlib.Omega.{arith}
use lib.Dec.{leb}
use lib.ListN.{length, take, drop, length-take, length-drop}
use lib.Seq.{get_or-take, get_or-drop, ext_get_or}
use borrow.Author.Tests.{le-leb, lt-leb, leb-true, leb-false}
use Rattle.number.specs.Bytes.{byte_at, be, part}
use Rattle.number.proofs.BeLaws.{be-same}
use Rattle.wal.specs.Sums.{le, word_at, Sums, sums_over}
use Rattle.wal.specs.Frames.{frame_at, page_number, commit_size, marked, carries, header_sums, frame_sums, sums_after, holds, counting, commits, last_of, last_frame}
use Rattle.wal.proofs.FrameLaws.{frame-next, short-fails, none-behind, none-commits}

-- ---- bytes and words
module _ (c : ℕ) (log : List ℕ) where
  be-take : (k at : ℕ) → at + k ≤ c → be k (take c log) at ≡ be k log at
  be-take k at h = be-same k (take c log) log at at (λ i l. get_or-take c log (at + i) 0 (omega arith))

  pub be4-take : (at : ℕ) → at + 4 ≤ c → be 4 (take c log) at ≡ be 4 log at
  be4-take at h = be-take 4 at h

  le-take : (k at : ℕ) → at + k ≤ c → le k (take c log) at ≡ le k log at
  unfolding le
  le-take zero at h = refl
  le-take (suc k) at h =
      let r : le k (take c log) (at + 1) ≡ le k log (at + 1) = le-take k (at + 1) (omega arith) in
      let b : byte_at (take c log) at ≡ byte_at log at = get_or-take c log at 0 (omega arith) in
      omega arith

  word-take : (big : Bool) (at : ℕ) → at + 4 ≤ c → word_at big (take c log) at ≡ word_at big log at
  word-take true at h = be-take 4 at h
  word-take false at h = le-take 4 at h

  sums-take : (big : Bool) (at n : ℕ) (s : Sums) → at + 8 * n ≤ c → sums_over big (take c log) at n s ≡ sums_over big log at n s
  unfolding sums_over
  sums-take big at zero s h = refl
  sums-take big at (suc i) s h =
      rw (sums-take big at i s (omega arith), word-take big (at + 8 * i) (omega arith), word-take big (at + 8 * i + 4) (omega arith)) refl

  -- ---- the header and the frames, c being past the header
  module _ (past : 32 ≤ c) where
    pub headed-take : (big : Bool) → carries (take c log) 8 (header_sums big (take c log)) ≡ carries log 8 (header_sums big log)
    unfolding carries
    headed-take big = rw (sums-take big 0 3 (0, 0) (omega arith), be4-take 24 (omega arith), be4-take 28 (omega arith)) refl

    module _ (size : ℕ) where
      marked-take : (at : ℕ) → at + 24 ≤ c → marked size (take c log) at ≡ marked size log at
      unfolding marked
      marked-take at h =
          rw (be4-take at (omega arith), be4-take (at + 8) (omega arith), be4-take (at + 12) (omega arith), be4-take 16 (omega arith), be4-take 20 (omega arith)) refl

      carries-take : (at : ℕ) (s : Sums) → at + 24 ≤ c → carries (take c log) at s ≡ carries log at s
      unfolding carries
      carries-take at s h = rw (be4-take (at + 16) (omega arith), be4-take (at + 20) (omega arith)) refl

      frame-take : (big : Bool) (at : ℕ) (s : Sums) → at + (24 + size) ≤ c → frame_sums big size (take c log) at s ≡ frame_sums big size log at s
      frame-take big at s h = rw (sums-take big at 1 s (omega arith)) (sums-take big (at + 24) (size / 8) _ (omega arith))

      after-take : (big : Bool) (k : ℕ) → frame_at size k ≤ c → sums_after big size (take c log) k ≡ sums_after big size log k
      unfolding sums_after
      after-take big zero h = sums-take big 0 3 (0, 0) (omega arith)
      after-take big (suc k) h =
          let n = frame-next size k in
          rw (after-take big k (omega arith)) (frame-take big (frame_at size k) _ (omega arith))

      whole_take : (k : ℕ) → frame_at size k ≤ c → leb (frame_at size k) (length (take c log)) ≡ leb (frame_at size k) (length log)
      whole_take k h = go (leb (frame_at size k) (length log)) refl
        where
          go : (b : Bool) → leb (frame_at size k) (length log) ≡ b → leb (frame_at size k) (length (take c log)) ≡ b
          go true e = le-leb (frame_at size k) (length (take c log)) (let l : frame_at size k ≤ length log = leb-true _ _ e in rw length-take (omega arith))
          go false e = lt-leb (frame_at size k) (length (take c log)) (let l : length log < frame_at size k = leb-false _ _ e in rw length-take (omega arith))

      holds-take : (big : Bool) (k : ℕ) → frame_at size (suc k) ≤ c → holds big size (take c log) k ≡ holds big size log k
      unfolding holds
      holds-take big k h =
          let n = frame-next size k in
          rw (whole_take (suc k) h, marked-take (frame_at size k) (omega arith), after-take big (suc k) h, carries-take (frame_at size k) _ (omega arith)) refl

      -- a frame that ends by the cut counts, and commits, as in the whole log
      pub counting-take : (big : Bool) (k : ℕ) → frame_at size k ≤ c → counting big size (take c log) k ≡ counting big size log k
      unfolding counting
      counting-take big zero h = refl
      counting-take big (suc k) h =
          let n = frame-next size k in
          rw (counting-take big k (omega arith), holds-take big k h) refl

      pub commit-size-take : (k : ℕ) → frame_at size (suc k) ≤ c → commit_size size (take c log) k ≡ commit_size size log k
      commit-size-take k h = let n = frame-next size k in be4-take (frame_at size k + 4) (omega arith)

      pub commits-take : (big : Bool) (k : ℕ) → frame_at size (suc k) ≤ c → commits big size (take c log) k ≡ commits big size log k
      unfolding commits
      commits-take big k h = rw (counting-take big (suc k) h, commit-size-take k h) refl

      -- no other does
      pub commits-cut : (big : Bool) (k : ℕ) → c < frame_at size (suc k) → commits big size (take c log) k ≡ false
      commits-cut big k h =
          none-commits big size (take c log) k k (short-fails big size (take c log) k (rw length-take (omega arith))) (omega arith)

      pub counting-cut : (big : Bool) (k : ℕ) → c < frame_at size (suc k) → counting big size (take c log) (suc k) ≡ false
      counting-cut big k h =
          none-behind big size (take c log) k (suc k) (short-fails big size (take c log) k (rw length-take (omega arith))) (omega arith)

      -- the last frame for a page among frames that end by the cut
      pub number-take : (k : ℕ) → frame_at size (suc k) ≤ c → page_number size (take c log) k ≡ page_number size log k
      number-take k h = let n = frame-next size k in be4-take (frame_at size k) (omega arith)

      pub last-frame-take : (p m : ℕ) → frame_at size m ≤ c → last_frame size (take c log) p m ≡ last_frame size log p m
      unfolding last_of
      last-frame-take p zero h = refl
      last-frame-take p (suc m) h =
          let n = frame-next size m in
          rw (number-take m h, last-frame-take p m (omega arith)) refl

-- a part that ends by the cut
pub part-take : (c : ℕ) (b : List ℕ) (at n : ℕ) → at + n ≤ c → part (take c b) at n ≡ part b at n
part-take c b at n h =
    ext_get_or 0 (part (take c b) at n) (part b at n)
    (simp (length-take, length-drop) (omega arith))
    (λ i l.
    let a = length-take n (drop at (take c b)) in
    rw (get_or-take n (drop at (take c b)) i 0 (omega arith), get_or-take n (drop at b) i 0 (omega arith), get_or-drop at (take c b) i 0, get_or-drop at b i 0)
    (get_or-take c b (at + i) 0 (omega arith)))
