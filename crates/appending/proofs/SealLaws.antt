-- Where the sums over the frames in force are carried.
use Prim.Native.Nat.{ℕ, zero, suc, ◌+◌, ◌-◌, ◌≤◌}
use mathlib.Core.Path.{◌≡◌, refl}
use mathlib.Core.Bool.{Bool, true, ◌&&◌}
use mathlib.Core.List.{List}
use native.Mathlib.Omega.{arith}
use lib.Dec.{eqb, leb}
use lib.ListN.{length}
use borrow.Author.Tests.{ne_eqb, eqb-true}
use Rattle.number.specs.Bytes.{be}
use Rattle.wal.specs.Sums.{Sums}
use Rattle.wal.specs.Frames.{frame_at, marked, carries, header_sums, sums_after, holds, counting, commits, last_commit}
use Rattle.wal.specs.State.{size_of}
use Rattle.wal.specs.Promises.{Accepted}
use Rattle.wal.proofs.FrameLaws.{and_left, and_right, frame-next, last-passes, in-force-whole, counted-holds}
use Rattle.appending.specs.Answers.{seal_at}

-- the sums that stand where they match
pub carried-is : (log : List ℕ) (at : ℕ) (s : Sums) → carries log at s ≡ true → s ≡ (be 4 log (at + 16), be 4 log (at + 20))
unfolding carries
carried-is log at s h =
    let x : be 4 log (at + 16) ≡ s.0 = eqb-true _ _ (and_left _ _ h) in
    let y : be 4 log (at + 20) ≡ s.1 = eqb-true _ _ (and_right (eqb (be 4 log (at + 16)) s.0) _ h) in
    rw (x, y) refl

module _ (big : Bool) (log : List ℕ) (a : Accepted big log) where
  abbrev size : ℕ
  size = size_of log

  pub counted : (k : ℕ) → last_commit big size log ≡ k → counting big size log k ≡ true
  unfolding counting commits
  counted zero e = refl
  counted (suc k) e = and_left (counting big size log (suc k)) _ (last-passes (commits big size log) (length log) k e)

  -- in the last frame in force, or in the header
  pub sealed : (k : ℕ) → last_commit big size log ≡ k
      → (sums_after big size log k ≡ (be 4 log (seal_at size k + 16), be 4 log (seal_at size k + 20))) × (seal_at size k + 24 ≤ length log)
  unfolding seal_at sums_after holds
  sealed zero e = (carried-is log 8 (header_sums big log) a.sums, let l = a.long in omega arith)
  sealed (suc k) e =
      let i : suc k - 1 ≡ k = omega arith in
      let h : holds big size log k ≡ true = counted-holds big size log (suc k) k (counted (suc k) e) (omega arith) in
      let w : frame_at size (suc k) ≤ length log = ap-le (in-force-whole big size log a.long) e in
      rw (ne_eqb (suc k) 0 (λ z. omega arith), i)
      (carried-is log (frame_at size k) (sums_after big size log (suc k)) (and_right (leb (frame_at size (suc k)) (length log) && marked size log (frame_at size k)) _ h), omega (arith, frame-next size k))
    where
      ap-le : {k : ℕ} → frame_at size (last_commit big size log) ≤ length log → last_commit big size log ≡ k → frame_at size k ≤ length log
      ap-le l e = rw e at l
