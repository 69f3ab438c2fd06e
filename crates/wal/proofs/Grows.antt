-- A log that grows never shows an older commit. The words are in specs/Promises.antt; `take c log` is the log cut at byte c.
use Prim.Native.Nat.{ℕ, zero, suc, ◌+◌, ◌-◌, ◌<◌, ◌≤◌}
use mathlib.Core.Path.{◌≡◌, refl, sym, ap, ◌∙◌}
use mathlib.Core.Logic.{⊎_elim}
use mathlib.Core.Bool.{Bool, true, true≢false}
use mathlib.Core.List.{List, ◌++◌}
use native.Mathlib.Omega.{arith}
use lib.ListN.{length, take, drop, length-take, length-append}
use lib.Seq.{take-take, take-add, take-append-le, take-length}
use Rattle.number.proofs.Cases.{lt-or-ge}
use Rattle.wal.specs.Frames.{frame_at, counting, commits, last_commit}
use Rattle.wal.specs.State.{size_of, state_at}
use Rattle.wal.specs.View.{whole_of}
use Rattle.wal.specs.Promises.{Accepted, CommitBy, LastCommitBy, Shown, in_force, Begins, NeverLowers}
use Rattle.wal.proofs.FrameLaws.{and_left, frame-mono, in-force-whole, last-passes, counted-whole}
use Rattle.wal.proofs.TakeLaws.{commits-take}
use Rattle.wal.proofs.CutLaws.{last-later, commit-short, size-take}
use Rattle.wal.proofs.Theorems.{cut, cut-before-any, cut-cases}

-- ---- a commit of the cut log ends by the cut, and is one of the uncut log
module _ (big : Bool) (size : ℕ) (log : List ℕ) (c : ℕ) (past : 32 ≤ c) where
  ends_by : (k : ℕ) → commits big size (take c log) k ≡ true → frame_at size (suc k) ≤ c
  unfolding commits
  ends_by k h =
      let w = counted-whole big size (take c log) k (and_left (counting big size (take c log) (suc k)) _ h) in
      let n = length-take c log in
      omega arith

  -- so it is one at a later cut too
  stays : (c' k : ℕ) → c ≤ c' → commits big size (take c log) k ≡ true → commits big size (take c' log) k ≡ true
  stays c' k l h =
      let w = ends_by k h in
      commits-take c' log (omega arith) size big k (omega arith) ∙ sym (commits-take c log past size big k w) ∙ h

  -- and the last commit there is no earlier one
  later : (c' : ℕ) → c ≤ c' → last_commit big size (take c log) ≤ last_commit big size (take c' log)
  later c' l = go (last_commit big size (take c log)) refl
    where
      go : (m : ℕ) → last_commit big size (take c log) ≡ m → m ≤ last_commit big size (take c' log)
      go zero e = omega arith
      go (suc k) e =
          let there = stays c' k l (last-passes (commits big size (take c log)) (length (take c log)) k e) in
          ⊎_elim
          (λ (a : k < last_commit big size (take c' log)). a)
          (λ (b : last_commit big size (take c' log) ≤ k).
          absurd (true≢false (sym there ∙ last-later (commits big size (take c' log)) (length (take c' log)) (last_commit big size (take c' log)) k refl b (commit-short big size (take c' log) k there))))
          (lt-or-ge k (last_commit big size (take c' log)))

begins-take : (a b : ℕ) (l : List ℕ) → a ≤ b → Begins (take a l) (take b l)
begins-take a b l h =
    let e : a + (b - a) ≡ b = omega arith in
    (take (b - a) (drop a l), ap (λ (n : ℕ). take n l) (sym e) ∙ take-add a (b - a) l)

force-begins : (big : Bool) (log : List ℕ) (c c' : ℕ) → 32 ≤ length log → 32 ≤ c → c ≤ c' → Begins (in_force big (take c log)) (in_force big (take c' log))
force-begins big log c c' long past l =
    let size = size_of log in
    let m = last_commit big size (take c log) in
    let m' = last_commit big size (take c' log) in
    let n = length-take c log in
    let n' = length-take c' log in
    let w : frame_at size m ≤ length (take c log) = in-force-whole big size (take c log) (omega arith) in
    let w' : frame_at size m' ≤ length (take c' log) = in-force-whole big size (take c' log) (omega arith) in
    let b = begins-take (frame_at size m) (frame_at size m') log (frame-mono size m m' (later big size log c past c' l)) in
    rw (size-take c log past, size-take c' log (omega arith), take-take (frame_at size m) c log (omega arith), take-take (frame_at size m') c' log (omega arith)) b

-- ==== Growing
-- Take any log with an accepted header and two cuts at or after byte 32. The header and the frames in force at the first stand at the beginning of those in force at the later one;
pub grows : (big : Bool) (log : List ℕ) (c c' : ℕ) → Accepted big log → 32 ≤ c → c ≤ c' → Begins (in_force big (take c log)) (in_force big (take c' log))
grows big log c c' a past l = force-begins big log c c' a.long past l

-- every commit that the first showed or that stood before it is in force at the later one;
pub never-older : (big : Bool) (log : List ℕ) (c c' k k' : ℕ) → c ≤ c' → LastCommitBy big log c k → LastCommitBy big log c' k' → k ≤ k'
never-older big log c c' k k' l h h' =
    ⊎_elim
    (λ (b : k' < k). absurd (h'.last k b (record { commit = h.here.commit; before = let w = h.here.before in omega arith })))
    (λ (o : k ≤ k'). o)
    (lt-or-ge k' k)

-- so that where the first cut showed the state of commit frame k, the later one shows the state of that commit frame or of a later one.
pub shows_later : (big : Bool) (log image : List ℕ) (c c' k : ℕ) → Accepted big log → 32 ≤ c → c ≤ c' → LastCommitBy big log c k
    → (k' : ℕ) × (k ≤ k') × LastCommitBy big log c' k' × Shown (take c' log) image (state_at (size_of log) log (suc k')) log
shows_later big log image c c' k a past l h =
    ⊎_elim
    (λ (s : (k' : ℕ) × LastCommitBy big log c' k'). (s.0, never-older big log c c' k s.0 l h s.1, s.1, cut big log image c' s.0 a (omega arith) s.1))
    (λ (none : (j : ℕ) → CommitBy big log c' j → ⊥).
    absurd (none k (record { commit = h.here.commit; before = let w = h.here.before in omega arith })))
    (cut-cases big log c' a (omega arith))

-- ==== Appending
appended : (log x : List ℕ) → take (length log) (log ++ x) ≡ log
appended log x = take-append-le (length log) log x (omega arith) ∙ take-length log

-- Bytes appended to a log with an accepted header, whatever they are, leave in force every commit that was: they complete a frame that was cut, or add frames, or fail.
pub append-commits : (big : Bool) (log x : List ℕ) (k : ℕ) → Accepted big log → commits big (size_of log) log k ≡ true
    → commits big (size_of (log ++ x)) (log ++ x) k ≡ true
append-commits big log x k a h =
    let past = a.long in
    let e = appended log x in
    let s : size_of (log ++ x) ≡ size_of log = sym (size-take (length log) (log ++ x) past) ∙ ap size_of e in
    let w : frame_at (size_of log) (suc k) ≤ length log =
    ends_by big (size_of log) (log ++ x) (length log) past k (ap (λ (l : List ℕ). commits big (size_of log) l k) e ∙ h) in
    rw s
    (sym (commits-take (length log) (log ++ x) past (size_of log) big k w) ∙ ap (λ (l : List ℕ). commits big (size_of log) l k) e ∙ h)

-- The header and the frames in force stand at the beginning of those in force then.
pub append-force : (big : Bool) (log x : List ℕ) → Accepted big log → Begins (in_force big log) (in_force big (log ++ x))
append-force big log x a =
    let n = length-append log x in
    let past = a.long in
    let b = force-begins big (log ++ x) (length log) (length (log ++ x)) (omega arith) past (omega arith) in
    rw (appended log x, take-length (log ++ x)) at b

-- ==== A number that no commit lowers
-- Whatever is read from the bytes of the recovered file as a number: if no commit of the log lowers it, no cut shows a lower one than an earlier cut did.
pub number-never-falls : (number : List ℕ → ℕ) (big : Bool) (log image : List ℕ) (c c' : ℕ) → Accepted big log → 32 ≤ c → c ≤ c' → NeverLowers number big log image
    → number (whole_of (take c log) image) ≤ number (whole_of (take c' log) image)
number-never-falls number big log image c c' a past l rises =
    ⊎_elim
    (λ (s : (k : ℕ) × LastCommitBy big log c k).
    let r = shows_later big log image c c' s.0 a past l s.1 in
    rw ((cut big log image c s.0 a past s.1).whole, r.3.whole) (rises.next s.0 r.0 s.1.here.commit r.2.here.commit r.1))
    (λ (none : (j : ℕ) → CommitBy big log c j → ⊥).
    ⊎_elim
    (λ (s : (k : ℕ) × LastCommitBy big log c' k).
    rw ((cut-before-any big log image c a past none).whole, (cut big log image c' s.0 a (omega arith) s.1).whole) (rises.first s.0 s.1.here.commit))
    (λ (none' : (j : ℕ) → CommitBy big log c' j → ⊥).
    rw ((cut-before-any big log image c a past none).whole, (cut-before-any big log image c' a (omega arith) none').whole) (omega arith))
    (cut-cases big log c' a (omega arith)))
    (cut-cases big log c a past)
