-- A log cut behind its last commit in force, and whatever is written there.
use Prim.Native.Nat.{ℕ, zero, suc, ◌+◌, ◌<◌, ◌≤◌}
use mathlib.Core.Path.{◌≡◌, refl, sym, ap, ◌∙◌, subst}
use mathlib.Core.Bool.{Bool, true, false}
use mathlib.Core.List.{List, ◌++◌}
use native.Mathlib.Omega.{arith}
use lib.ListN.{length, length-take}
use lib.Seq.{take-take, get_or-take}
use Rattle.number.specs.Bytes.{byte_at, be}
use Rattle.number.proofs.BeLaws.{be-same}
use Rattle.wal.specs.Frames.{frame_at, sums_after, commits, last_commit}
use Rattle.wal.specs.State.{size_of, state_of}
use Rattle.wal.specs.Promises.{Accepted, in_force, Begins}
use Rattle.wal.specs.State.{State}
use Rattle.wal.proofs.FrameLaws.{frame-next, frame-far, frame-mono, short-fails, none-commits, last-passes}
use Rattle.wal.proofs.TakeLaws.{commits-take}
use Rattle.wal.proofs.CutLaws.{last-is, last_none, commit-short, size-take, accepted-take}
use Rattle.wal.proofs.Grows.{append-commits, append-force}
use Rattle.appending.specs.Written.{frames_bytes}
use Rattle.appending.specs.Tail.{tail_of}
use Rattle.appending.specs.Promises.{Fits, torn_at}
use Rattle.appending.proofs.TailLaws.{told}
use Rattle.appending.proofs.AppendLaws as A

module _ (big : Bool) (log : List ℕ) (a : Accepted big log) where
  abbrev size : ℕ
  size = size_of log

  abbrev m : ℕ
  m = last_commit big size log

  past : 32 ≤ frame_at size m
  past = omega (arith, frame-far size m)

  pub base-accepted : Accepted big (in_force big log)
  base-accepted = accepted-take (frame_at size m) log past big a

  pub base-size : size_of (in_force big log) ≡ size
  base-size = size-take (frame_at size m) log past

  commit-in : (k : ℕ) → commits big size log k ≡ true → commits big size (in_force big log) k ≡ true
  commit-in k h =
      let e : k < m = A.before_last (commits big size log) (length log) k (commit-short big size log k h) h in
      commits-take (frame_at size m) log past size big k (frame-mono size (suc k) m e) ∙ h

  base-none : (j : ℕ) → m ≤ j → commits big size (in_force big log) j ≡ false
  base-none j l =
      none-commits big size (in_force big log) j j
      (short-fails big size (in_force big log) j
      (omega (arith, length-take (frame_at size m) log, frame-mono size m j l, frame-next size j)))
      (omega arith)

  pub base-last : last_commit big size (in_force big log) ≡ m
  base-last = go m refl
    where
      go : (k : ℕ) → m ≡ k → last_commit big size (in_force big log) ≡ k
      go zero e = last_none (commits big size (in_force big log)) (length (in_force big log)) (λ j. base-none j (omega arith))
      go (suc k) e =
          let t = commit-in k (last-passes (commits big size log) (length log) k e) in
          last-is (commits big size (in_force big log)) (length (in_force big log)) k (commit-short big size (in_force big log) k t) t (λ j l. base-none j (omega arith))

  base-force : in_force big (in_force big log) ≡ in_force big log
  base-force = rw (base-size, base-last) (take-take (frame_at size m) (frame_at size m) log (omega arith))

  pub force-state : state_of (in_force big log) ≡ state_of log
  force-state =
      A.state-from big (in_force big log) (in_force big log) size m base-accepted base-size base-last (take-take (frame_at size m) (frame_at size m) log (omega arith))
      ∙ sym (A.state-from big log (in_force big log) size m a refl refl refl)

  pub behind : (x : List ℕ) → ((k : ℕ) → commits big size log k ≡ true → commits big (size_of (in_force big log ++ x)) (in_force big log ++ x) k ≡ true)
      × Begins (in_force big log) (in_force big (in_force big log ++ x))
  behind x = (
    λ k h. append-commits big (in_force big log) x k base-accepted (rw base-size (commit-in k h)),
    subst (λ (y : List ℕ). Begins y (in_force big (in_force big log ++ x))) base-force (append-force big (in_force big log) x base-accepted),
  )

-- ---- tails
-- the tail of a log that begins as another does, with the same frames in force and the same state
tail-same : (big : Bool) (a b : List ℕ) → Accepted big a → Accepted big b → ((i : ℕ) → i < frame_at (size_of a) (last_commit big (size_of a) a) → byte_at b i ≡ byte_at a i)
    → last_commit big (size_of a) b ≡ last_commit big (size_of a) a → state_of b ≡ state_of a → tail_of b ≡ tail_of a
unfolding tail_of
tail-same big a b ha hb same last state =
    let size : ℕ = size_of a in
    let m : ℕ = last_commit big size a in
    let past : 32 ≤ frame_at size m = omega (arith, frame-far size m) in
    let e : size_of b ≡ size = be-same 4 b a 8 8 (λ i l. same (8 + i) (omega arith)) in
    let x : be 4 b 16 ≡ be 4 a 16 = be-same 4 b a 16 16 (λ i l. same (16 + i) (omega arith)) in
    let y : be 4 b 20 ≡ be 4 a 20 = be-same 4 b a 20 20 (λ i l. same (20 + i) (omega arith)) in
    let s : sums_after big size b m ≡ sums_after big size a m = A.after_same big size (frame_at size m) a b past same m (omega arith) in
    let n : (state_of b).pages ≡ (state_of a).pages = ap (λ (z : State). z.pages) state in
    rw (n, told big b hb, told big a ha, e, x, y, last, s) refl

-- cut behind the last commit in force, a log has the tail that it had;
pub base-tail : (big : Bool) (log : List ℕ) → Accepted big log → tail_of (in_force big log) ≡ tail_of log
base-tail big log a =
    tail-same big log (in_force big log) a (base-accepted big log a) (λ i l. get_or-take (frame_at (size_of log) (last_commit big (size_of log) log)) log i 0 l)
    (base-last big log a) (force-state big log a)

-- and so with a commit behind it that was cut.
pub torn-tail : (big : Bool) (log : List ℕ) (n : ℕ) (numbers pages : List ℕ) (c : ℕ) → Accepted big log → Fits (size_of log) n numbers pages
    → c < length (frames_bytes big log n numbers pages) → tail_of (torn_at big log n numbers pages c) ≡ tail_of log
torn-tail big log n numbers pages c a fits l =
    tail-same big log (torn_at big log n numbers pages c) a (A.cut-accepted big log n numbers pages a fits c l) (A.cut-byte big log n numbers pages a fits c l)
    (A.cut-last big log n numbers pages a fits c l) (A.cut-state big log n numbers pages a fits c l)
