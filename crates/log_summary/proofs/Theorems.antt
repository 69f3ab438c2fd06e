-- What a summary says of recovery from the same log, and of the frame that the scan stopped at.
use Prim.Native.Nat.{ℕ, zero, suc, ◌+◌, ◌-◌, ◌<◌, ◌≤◌}
use mathlib.Core.Path.{◌≡◌, refl, sym, ap, ◌∙◌}
use mathlib.Core.Bool.{Bool, true, false, cond, true≢false}
use mathlib.Core.List.{List}
use mathlib.Core.Logic.{⊎_elim}
use native.Mathlib.Omega.{arith}
use lib.Dec.{ltb, eqb}
use lib.ListN.{length}
use borrow.Author.Tests.{le-ltb, eq-eqb, eqb-true, eqb-false, ltb-true, ltb-false}
use Rattle.number.specs.Bytes.{be}
use Rattle.number.proofs.Cases.{true-or-false, by_cond, lt-or-ge}
use Rattle.paging.specs.Pages.{page_limit, size_fits, lock_page}
use Rattle.wal.specs.Frames.{frame_at, commit_size, marked, carries, header_sums, sums_after, holds, counting, commits, last_of, last_commit, salted, count_of}
use Rattle.wal.specs.State.{little_magic, big_magic, log_version, size_of, nothing, refused, state_is, state_at, state_in, state_of}
use Rattle.wal.specs.Promises.{Accepted}
use Rattle.wal.specs.State.{State}
use Rattle.wal.proofs.FrameLaws.{and_left, frame-next, frame-far, frame-holds, counted-holds, counted-whole, last-below}
use Rattle.wal.proofs.CutLaws.{last-later}
use Rattle.frames.specs.Table.{whole_frames}
use Rattle.frames.proofs.PartLaws.{frame-whole}
use Rattle.log_summary.specs.Summary.{Summary, size_after, stop_at, over_limit, untold, told, summary_in, log_summary_of}
use Rattle.log_summary.specs.Promises.{Agrees, Stops}
use Rattle.log_summary.proofs.StopLaws.{stop-end}
use Rattle.log_summary.proofs.TellLaws.{count-counts, count-whole}

-- ==== What recovery finds
-- in force, counting, whole
last-fewer : (t u : ℕ → Bool) → ((k : ℕ) → t k ≡ true → u k ≡ true) → (n : ℕ) → last_of t n ≤ last_of u n
unfolding last_of
last-fewer t u f zero = omega arith
last-fewer t u f (suc n) = go (last-fewer t u f n) (t n) refl (u n) refl
  where
    go : last_of t n ≤ last_of u n → (a : Bool) → t n ≡ a → (b : Bool) → u n ≡ b → cond a (suc n) (last_of t n) ≤ cond b (suc n) (last_of u n)
    go r true p true q = omega arith
    go r true p false q = absurd (true≢false (sym (f n p) ∙ q))
    go r false p true q = omega (arith, last-below t n)
    go r false p false q = r

force-counts : (big : Bool) (size : ℕ) (log : List ℕ) → last_commit big size log ≤ count_of big size log
unfolding commits
force-counts big size log = last-fewer (commits big size log) (λ (k : ℕ). counting big size log (suc k)) (λ k h. and_left (counting big size log (suc k)) _ h) (length log)

counts_whole : (big : Bool) (size : ℕ) (log : List ℕ) → 32 ≤ length log → count_of big size log ≤ whole_frames size log
counts_whole big size log l =
    ⊎_elim
    (λ (z : count_of big size log < 1). omega arith)
    (λ (s : 1 ≤ count_of big size log). frame-whole size log (count_of big size log) s (count-whole big size log l))
    (lt-or-ge (count_of big size log) 1)

-- the same tests lead to both
both : {A B : Type 0} (P : A → B → Type 0) (t : Bool) (a a' : A) (b b' : B) → (t ≡ true → P a b) → (t ≡ false → P a' b') → P (cond t a a') (cond t b b')
both P true a a' b b' f g = f refl
both P false a a' b b' f g = g refl

none-agrees : (h : ℕ) → Agrees nothing (untold 0 h)
none-agrees h =
    record {
      refusal = refl;
      nothing = (λ e. (refl, refl), λ e. refl);
      commit = λ e n. absurd (n refl);
      within_counting = omega arith;
      within_frames = omega arith;
    }

refused-agrees : (k : ℕ) → (k ≡ 0 → ⊥) → Agrees (refused k) (untold k 0)
refused-agrees k n =
    record {
      refusal = refl;
      nothing = (λ e. absurd (n (ap (λ (s : State). s.refusal) e)), λ e. absurd (n e.0));
      commit = λ e m. absurd (n e);
      within_counting = omega arith;
      within_frames = omega arith;
    }

-- m frames in force and n pages, n told where m is not 0; z and over are the tests of them
agrees_at : (size m n o pages frames count stop : ℕ) → m ≤ count → count ≤ frames → (z over : Bool) → eqb m 0 ≡ z → (z ≡ true → o ≡ 0) → (z ≡ false → o ≡ cond over 42 0)
    → (z ≡ false → pages ≡ n) → Agrees (cond z nothing (cond over (refused 42) (state_is 0 size m n)))
    (record { refusal = o; header = 0; page_size = size; pages = pages; frames = frames; counting = count; in_force = m; stop = stop })
agrees_at size m n o pages frames count stop a b true over e f g p =
    let none : m ≡ 0 = eqb-true m 0 e in
    record {
      refusal = sym (f refl);
      nothing = (λ h. (f refl, none), λ h. refl);
      commit = λ h k. absurd (k none);
      within_counting = a;
      within_frames = b;
    }
agrees_at size m n o pages frames count stop a b false true e f g p =
    let is : o ≡ 42 = g refl in
    record {
      refusal = sym is;
      nothing = (λ h. absurd (let k : 42 ≡ 0 = ap (λ (s : State). s.refusal) h in omega arith), λ h. absurd (let k = h.0 in omega arith));
      commit = λ h k. absurd (omega arith);
      within_counting = a;
      within_frames = b;
    }
agrees_at size m n o pages frames count stop a b false false e f g p =
    let some = eqb-false m 0 e in
    record {
      refusal = sym (g refl);
      nothing = (λ h. absurd (some (ap (λ (s : State). s.frames) h)), λ h. absurd (some h.1));
      commit = λ h k. rw (p refl) refl;
      within_counting = a;
      within_frames = b;
    }

told-agrees : (big : Bool) (size : ℕ) (log : List ℕ) → 32 ≤ length log → Agrees (state_at size log (last_commit big size log)) (told big size log)
unfolding state_at told size_after over_limit
told-agrees big size log l =
    agrees_at size (last_commit big size log) (commit_size size log (last_commit big size log - 1)) _ _ _ _ _ (force-counts big size log) (counts_whole big size log l) _
    (ltb page_limit (commit_size size log (last_commit big size log - 1))) refl (λ t. simp t) (λ f. simp f) (λ f. simp f)

-- The summary says what recovery finds in the log: its refusal, whether there is nothing to recover, and else page size, frames in force and pages.
pub agrees : (log : List ℕ) (r : Summary) → r ≡ log_summary_of log → Agrees (state_of log) r
unfolding state_of state_in log_summary_of summary_in
agrees log r e =
    rw e
    (both Agrees (ltb (length log) 32) _ _ _ _ (λ t. none-agrees 1)
    (λ long.
    let l = ltb-false (length log) 32 long in
    both Agrees (eqb (be 4 log 0) little_magic) _ _ _ _ (λ t. within false l)
    (λ t. both Agrees (eqb (be 4 log 0) big_magic) _ _ _ _ (λ t. within true l) (λ t. none-agrees 2))))
  where
    within : (big : Bool) → 32 ≤ length log → Agrees (state_in big log) (summary_in big log)
    within big l =
        both Agrees (carries log 8 (header_sums big log)) _ _ _ _
        (λ t. both Agrees (eqb (be 4 log 4) log_version) _ _ _ _
        (λ t. both Agrees (size_fits (size_of log)) _ _ _ _ (λ t. told-agrees big (size_of log) log l) (λ t. refused-agrees 41 (λ k. omega arith)))
        (λ t. refused-agrees 40 (λ k. omega arith)))
        (λ t. none-agrees 3)

-- ==== Why the scan stops
accepted-told : (big : Bool) (log : List ℕ) → Accepted big log → log_summary_of log ≡ told big (size_of log) log
unfolding log_summary_of summary_in
accepted-told true log a =
    simp (le-ltb (length log) 32 a.long, a.magic, a.sums, eq-eqb (be 4 log 4) log_version a.version, a.size)
accepted-told false log a =
    simp (le-ltb (length log) 32 a.long, a.magic, a.sums, eq-eqb (be 4 log 4) log_version a.version, a.size)

-- the frame after the last that counts does not hold
count-fails : (big : Bool) (size : ℕ) (log : List ℕ) → holds big size log (count_of big size log) ≡ false
unfolding counting holds
count-fails big size log =
    ⊎_elim (λ (t : holds big size log k ≡ true). absurd (true≢false (sym (counts t) ∙ fails t))) (λ (f : holds big size log k ≡ false). f) (true-or-false (holds big size log k))
  where
    k : ℕ
    k = count_of big size log

    counts : holds big size log k ≡ true → counting big size log (suc k) ≡ true
    counts t = rw (count-counts big size log) t

    fails : holds big size log k ≡ true → counting big size log (suc k) ≡ false
    fails t =
        let w : frame_at size (suc k) ≤ length log = counted-whole big size log k (counts t) in
        last-later (λ (j : ℕ). counting big size log (suc j)) (length log) k k refl (omega arith) (omega (arith, frame-far size (suc k)))

-- what each number of `stop` says of the frame at `at`
abbrev Says : (size : ℕ) → List ℕ → (at n : ℕ) → Type 0
Says size log at zero = length log ≡ at
Says size log at (suc zero) = length log < at + (24 + size)
Says size log at (suc (suc zero)) = be 4 log at ≡ 0
Says size log at (suc (suc (suc zero))) = salted log at ≡ false
Says size log at (suc (suc (suc (suc zero)))) = (at + (24 + size) ≤ length log) × (marked size log at ≡ true)
Says size log at (suc (suc (suc (suc (suc zero))))) = be 4 log at ≡ lock_page size
Says size log at (suc (suc (suc (suc (suc (suc n)))))) = ⊥

says : (size : ℕ) (log : List ℕ) (at : ℕ) → Says size log at (stop_at size log at)
unfolding stop_at salted marked
says size log at =
    by_cond (Says size log at) (eqb (length log) at) 0 _ (λ t. eqb-true _ _ t)
    (λ a. by_cond (Says size log at) (ltb (length log) (at + (24 + size))) 1 _ (λ t. ltb-true _ _ t)
    (λ b. by_cond (Says size log at) (eqb (be 4 log at) 0) 2 _ (λ t. eqb-true _ _ t)
    (λ c. by_cond (Says size log at) (eqb (be 4 log at) (lock_page size)) 5 _ (λ t. eqb-true _ _ t)
    (λ d. by_cond (Says size log at) (salted log at) 4 3 (λ t. (ltb-false _ _ b, simp (c, d) t)) (λ t. t)))))

says-one : (size : ℕ) (log : List ℕ) (at n : ℕ) → Says size log at n → n ≤ 5
says-one size log at zero h = omega arith
says-one size log at (suc zero) h = omega arith
says-one size log at (suc (suc zero)) h = omega arith
says-one size log at (suc (suc (suc zero))) h = omega arith
says-one size log at (suc (suc (suc (suc zero)))) h = omega arith
says-one size log at (suc (suc (suc (suc (suc zero))))) h = omega arith
says-one size log at (suc (suc (suc (suc (suc (suc n)))))) h = absurd h

told-stops : (big : Bool) (size : ℕ) (log : List ℕ) → Stops big log (told big size log)
unfolding told
told-stops big size log =
    record {
      counted = λ k l. counted-holds big size log (count_of big size log) k (count-counts big size log) l;
      fails = fails;
      whole = (λ e. because 0 e, λ e. sym (stop-end size log at e));
      cut = λ e. rw (frame-next size (count_of big size log)) (because 1 e);
      zero_number = because 2;
      other_salts = because 3;
      other_sums = λ e. sums (because 4 e);
      lock_byte = because 5;
      one = says-one size log at (stop_at size log at) (says size log at);
    }
  where
    at : ℕ
    at = frame_at size (count_of big size log)

    because : (n : ℕ) → stop_at size log at ≡ n → Says size log at n
    because n e = rw e at (says size log at)

    fails : holds big size log (count_of big size log) ≡ false
    fails = count-fails big size log

    sums : (at + (24 + size) ≤ length log) × (marked size log at ≡ true) → carries log at (sums_after big size log (suc (count_of big size log))) ≡ false
    sums (w, m) =
        ⊎_elim
        (λ (t : carries log at (sums_after big size log (suc (count_of big size log))) ≡ true).
        absurd (true≢false (sym (frame-holds big size log (count_of big size log) (rw (frame-next size (count_of big size log)) w) m t) ∙ fails)))
        (λ (f : carries log at (sums_after big size log (suc (count_of big size log))) ≡ false). f)
        (true-or-false (carries log at (sums_after big size log (suc (count_of big size log)))))

-- Where the header is accepted, the frames counted hold, the next one does not, and `stop` says why; it is 0 exactly where all bytes behind the header are frames that count.
pub stops : (big : Bool) (log : List ℕ) (r : Summary) → Accepted big log → r ≡ log_summary_of log → Stops big log r
stops big log r a e = rw (e ∙ accepted-told big log a) (told-stops big (size_of log) log)
