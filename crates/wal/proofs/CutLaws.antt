-- The last commit of a log that is cut.
use Prim.Native.Nat.{ℕ, zero, suc, ◌-◌, ◌<◌, ◌≤◌}
use mathlib.Core.Path.{◌≡◌, refl, sym, ap, ◌∙◌}
use mathlib.Core.Logic.{◌⊎◌, inl, inr, ⊎_elim}
use mathlib.Core.Bool.{Bool, true, false, cond, ◌&&◌, true≢false}
use mathlib.Core.List.{List, []}
use native.Mathlib.Decide.{dec_le}
use native.Mathlib.Omega.{arith}
use lib.Dec.{ltb, leb, eqb}
use lib.ListN.{length, take, length-take}
use borrow.Author.Tests.{le-leb, leb-true, le-ltb, eq-eqb, ne_eqb, eqb-true}
use Rattle.number.specs.Bytes.{be}
use Rattle.paging.specs.Pages.{page_limit, size_fits}
use Rattle.number.proofs.Cases.{lt-or-ge, by_cond}
use Rattle.wal.specs.Frames.{frame_at, page_number, last_frame, commit_size, holds, counting, commits, last_of, last_commit}
use Rattle.wal.specs.State.{log_version, size_of, nothing, refused, state_at, state_in, state_of}
use Rattle.wal.specs.View.{image_state, pair_state}
use Rattle.wal.specs.Promises.{Accepted, CommitBy, LastCommitBy, Shown}
use Rattle.wal.specs.State.{State}
use Rattle.wal.proofs.FrameLaws.{and_left, and_right, last_found, frame-far, last-same, last-passes, last-below, counted-whole}
use Rattle.wal.proofs.TakeLaws.{be4-take, headed-take, commits-take, commits-cut, commit-size-take}
use Rattle.wal.proofs.ShownLaws.{Agree, none-agree, take-agree, agree-sym, shown_by}

-- ---- the last index that passes, by what it is
pub last-is : (test : ℕ → Bool) (n k : ℕ) → k < n → test k ≡ true → ((j : ℕ) → k < j → test j ≡ false) → last_of test n ≡ suc k
unfolding last_of
last-is test n k l h f = last-same test (suc k) n (λ j m. f j m) l ∙ rw h refl

pub last_none : (test : ℕ → Bool) (n : ℕ) → ((j : ℕ) → test j ≡ false) → last_of test n ≡ 0
unfolding last_of
last_none test n f = last-same test 0 n (λ j m. f j) (omega arith)

-- the same of the last frame for a page
pub last-holds : (size : ℕ) (log : List ℕ) (p i : ℕ) → eqb (page_number size log i) p ≡ true → (m : ℕ) → i < m
    → ((j : ℕ) → i < j → j < m → eqb (page_number size log j) p ≡ false) → last_frame size log p m ≡ suc i
unfolding last_of
last-holds size log p i h zero l f = absurd (omega arith)
last-holds size log p i h (suc m) l f = go (last-holds size log p i h m) (dec_le (suc i) m)
  where
    go : (i < m → ((j : ℕ) → i < j → j < m → eqb (page_number size log j) p ≡ false) → last_frame size log p m ≡ suc i) → Dec (i < m)
        → last_frame size log p (suc m) ≡ suc i
    go r (yes w) = rw (f m w (omega arith)) (r w (λ j a b. f j a (omega arith)))
    go r (no w) = let e : m ≡ i = omega arith in rw (e, h) refl

-- and what is known of it
pub last-later : (test : ℕ → Bool) (n k j : ℕ) → last_of test n ≡ k → k ≤ j → j < n → test j ≡ false
unfolding last_of
last-later test zero k j e a b = absurd (omega arith)
last-later test (suc n) k j e a b = go (last-later test n k j) (test n) refl
  where
    go : (last_of test n ≡ k → k ≤ j → j < n → test j ≡ false) → (t : Bool) → test n ≡ t → test j ≡ false
    go r true h = absurd (let f : suc n ≡ k = rw h at e in omega arith)
    go r false h = by (dec_le (suc j) n)
      where
        by : Dec (suc j ≤ n) → test j ≡ false
        by (yes m) = r (rw h at e) a m
        by (no m) = let i : j ≡ n = omega arith in rw i h

-- a commit is no commit past the log's end, so the length bounds nothing away
pub commit-short : (big : Bool) (size : ℕ) (log : List ℕ) (k : ℕ) → commits big size log k ≡ true → k < length log
unfolding commits
commit-short big size log k h =
    let w : frame_at size (suc k) ≤ length log = counted-whole big size log k (and_left (counting big size log (suc k)) _ h) in
    omega (arith, frame-far size (suc k))

-- ---- the header
module _ (c : ℕ) (log : List ℕ) (past : 32 ≤ c) where
  pub size-take : size_of (take c log) ≡ size_of log
  size-take = be4-take c log 8 (omega arith)

  pub accepted-take : (big : Bool) → Accepted big log → Accepted big (take c log)
  accepted-take big a =
      record {
        long = let l = a.long in rw length-take (omega arith);
        magic = be4-take c log 0 (omega arith) ∙ a.magic;
        sums = headed-take c log past big ∙ a.sums;
        version = be4-take c log 4 (omega arith) ∙ a.version;
        size = ap size_fits size-take ∙ a.size;
      }

pub accepted-state : (big : Bool) (log : List ℕ) → Accepted big log → state_of log ≡ state_at (size_of log) log (last_commit big (size_of log) log)
unfolding state_of state_in
accepted-state true log a =
    simp (le-ltb (length log) 32 a.long, a.magic, a.sums, eq-eqb (be 4 log 4) log_version a.version, a.size)
accepted-state false log a =
    simp (le-ltb (length log) 32 a.long, a.magic, a.sums, eq-eqb (be 4 log 4) log_version a.version, a.size)

-- ---- the state of a commit
module _ (size : ℕ) (log : List ℕ) (m : ℕ) where
  -- it is refused or has its frames
  at_some : (m ≡ 0 → ⊥) → (state_at size log m).refusal ≡ 0 → (state_at size log m).frames ≡ 0 → ⊥
  unfolding state_at
  at_some n = by_cond (λ (s : State). s.refusal ≡ 0 → s.frames ≡ 0 → ⊥) (eqb m 0) nothing _
      (λ z. absurd (n (eqb-true m 0 z)))
      (λ z. by_cond (λ (s : State). s.refusal ≡ 0 → s.frames ≡ 0 → ⊥) (ltb page_limit (commit_size size log (m - 1))) (refused 42) _
      (λ o r f. omega arith) (λ o r f. n f))

  -- and no frame of it lies past where its last one ends
  at_agree : (a b : List ℕ) → Agree size m a b → Agree (state_at size log m).size (state_at size log m).frames a b
  unfolding state_at
  at_agree a b g = by_cond (λ (s : State). Agree s.size s.frames a b) (eqb m 0) nothing _ (λ z. none-agree 0 a b)
      (λ z. by_cond (λ (s : State). Agree s.size s.frames a b) (ltb page_limit (commit_size size log (m - 1))) (refused 42) _
      (λ o. none-agree 0 a b) (λ o. g))

pair_is : (log image : List ℕ) (s : State) → state_of log ≡ s → (s.refusal ≡ 0 → s.frames ≡ 0 → ⊥) → pair_state log image ≡ s
unfolding pair_state
pair_is log image s e h = rw e (go (eqb s.refusal 0) refl)
  where
    go : (t : Bool) → eqb s.refusal 0 ≡ t → cond (eqb s.refusal 0) (cond (eqb s.frames 0) (image_state image) s) s ≡ s
    go true z = simp (z, ne_eqb s.frames 0 (h (eqb-true _ 0 z)))
    go false z = simp z

pair-alone-is : (log image : List ℕ) → state_of log ≡ nothing → pair_state log image ≡ image_state image
unfolding pair_state
pair-alone-is log image e = rw e refl

at_zero : (size : ℕ) (log : List ℕ) → state_at size log 0 ≡ nothing
unfolding state_at
at_zero size log = refl

at_take : (size c : ℕ) (log : List ℕ) (k : ℕ) → 32 ≤ c → frame_at size (suc k) ≤ c → state_at size (take c log) (suc k) ≡ state_at size log (suc k)
unfolding state_at
at_take size c log k past w =
    let i : suc k - 1 ≡ k = omega arith in
    rw (i, commit-size-take c log past size k w) refl

-- ---- the last commit before the cut is that of the cut log
module _ (big : Bool) (log image : List ℕ) (c : ℕ) (past : 32 ≤ c) (a : Accepted big log) where
  cut-commits : (j : ℕ) → (CommitBy big log c j → ⊥) → commits big (size_of log) (take c log) j ≡ false
  cut-commits j f = go (dec_le (frame_at (size_of log) (suc j)) c) (commits big (size_of log) log j) refl
    where
      go : Dec (frame_at (size_of log) (suc j) ≤ c) → (t : Bool) → commits big (size_of log) log j ≡ t → commits big (size_of log) (take c log) j ≡ false
      go (yes w) true h = absurd (f (record { commit = h; before = w }))
      go (yes w) false h = commits-take c log past (size_of log) big j w ∙ h
      go (no w) t h = commits-cut c log past (size_of log) big j (omega arith)

  cut-state : (m : ℕ) → last_commit big (size_of log) (take c log) ≡ m → state_of (take c log) ≡ state_at (size_of log) (take c log) m
  cut-state m e =
      accepted-state big (take c log) (accepted-take c log past big a) ∙ rw (size-take c log past, e) refl

  pub cut-shown : (k : ℕ) → LastCommitBy big log c k → Shown (take c log) image (state_at (size_of log) log (suc k)) log
  cut-shown k h =
      let size = size_of log in
      let w : frame_at size (suc k) ≤ c = h.here.before in
      let here : commits big size (take c log) k ≡ true = commits-take c log past size big k w ∙ h.here.commit in
      let last : last_commit big size (take c log) ≡ suc k =
      last-is (commits big size (take c log)) (length (take c log)) k (commit-short big size (take c log) k here) here
      (λ j l. cut-commits j (h.last j l)) in
      let state : state_of (take c log) ≡ state_at size log (suc k) = cut-state (suc k) last ∙ at_take size c log k past w in
      shown_by (take c log) image (state_at size log (suc k)) log
      (pair_is (take c log) image (state_at size log (suc k)) state (at_some size log (suc k) (λ z. omega arith)))
      (at_agree size log (suc k) (take c log) log (take-agree size (suc k) c log past w))

  pub cut-alone : ((j : ℕ) → CommitBy big log c j → ⊥) → Shown (take c log) image (image_state image) []
  cut-alone f =
      let size = size_of log in
      let last : last_commit big size (take c log) ≡ 0 = last_none (commits big size (take c log)) (length (take c log)) (λ j. cut-commits j (f j)) in
      let state : state_of (take c log) ≡ nothing = cut-state 0 last ∙ at_zero size (take c log) in
      shown_by (take c log) image (image_state image) [] (pair-alone-is (take c log) image state) (none-agree (image_state image).size (take c log) [])

  -- one of the two is the case
  by-test : ℕ → Bool
  by-test k = commits big (size_of log) log k && leb (frame_at (size_of log) (suc k)) c

  passes-by : (k : ℕ) → CommitBy big log c k → by-test k ≡ true
  unfolding by-test
  passes-by k h = rw (h.commit, le-leb (frame_at (size_of log) (suc k)) c h.before) refl

  none-by : (m j : ℕ) → last_of by-test (length log) ≡ m → m ≤ j → CommitBy big log c j → ⊥
  none-by m j e l h =
      true≢false
      (sym (passes-by j h) ∙ last-later by-test (length log) m j e l (commit-short big (size_of log) log j h.commit))

  pub cut-either : ((k : ℕ) × LastCommitBy big log c k) ⊎ ((j : ℕ) → CommitBy big log c j → ⊥)
  unfolding by-test
  cut-either = go (last_of by-test (length log)) refl
    where
      go : (m : ℕ) → last_of by-test (length log) ≡ m → ((k : ℕ) × LastCommitBy big log c k) ⊎ ((j : ℕ) → CommitBy big log c j → ⊥)
      go zero e = inr (λ j h. none-by 0 j e (omega arith) h)
      go (suc k) e =
          let t : by-test k ≡ true = last-passes by-test (length log) k e in
          inl (
            k,
            record {
              here = record {
                commit = and_left (commits big (size_of log) log k) (leb (frame_at (size_of log) (suc k)) c) t;
                before = leb-true _ _ (and_right (commits big (size_of log) log k) (leb (frame_at (size_of log) (suc k)) c) t);
              };
              last = λ j l h. none-by (suc k) j e l h;
            },
          )

  -- a cut behind the last commit changes nothing
  whole-state : (m : ℕ) → last_commit big (size_of log) log ≡ m → state_of log ≡ state_at (size_of log) log m
  whole-state m e = accepted-state big log a ∙ rw e refl

  pub cut-behind : frame_at (size_of log) (last_commit big (size_of log) log) ≤ c → Shown log image (pair_state (take c log) image) (take c log)
  cut-behind w = go (last_commit big (size_of log) log) refl
    where
      none-later : (m j : ℕ) → last_commit big (size_of log) log ≡ m → m ≤ j → CommitBy big log c j → ⊥
      none-later m j e l h =
          true≢false
          (sym h.commit ∙ last-later (commits big (size_of log) log) (length log) m j e l (commit-short big (size_of log) log j h.commit))

      go : (m : ℕ) → last_commit big (size_of log) log ≡ m → Shown log image (pair_state (take c log) image) (take c log)
      go zero e =
          let alone = cut-alone (λ j h. none-later 0 j e (omega arith) h) in
          rw alone.state
          (shown_by log image (image_state image) (take c log)
          (pair-alone-is log image (whole-state 0 e ∙ at_zero (size_of log) log))
          (none-agree (image_state image).size log (take c log)))
      go (suc k) e =
          let size = size_of log in
          let b : frame_at size (suc k) ≤ c = rw e at w in
          let s = state_at size log (suc k) in
          let shown = cut-shown k (record {
            here = record { commit = last-passes (commits big size log) (length log) k e; before = b };
            last = λ j l h. none-later (suc k) j e l h;
          }) in
          rw shown.state
          (shown_by log image s (take c log)
          (pair_is log image s (whole-state (suc k) e) (at_some size log (suc k) (λ z. omega arith)))
          (at_agree size log (suc k) log (take c log) (agree-sym size (suc k) (take c log) log (take-agree size (suc k) c log past b))))

-- ---- frames that fail
module _ (big : Bool) (log : List ℕ) (k : ℕ) (fails : holds big (size_of log) log k ≡ false) where
  -- the last commit lies before such a frame
  pub commit-before : last_commit big (size_of log) log ≤ k
  commit-before = ⊎_elim
      (λ (l : length log < k). let b = last-below (commits big (size_of log) log) (length log) in omega arith)
      (λ (l : k ≤ length log). rw (last_found big (size_of log) log k fails l) (last-below (commits big (size_of log) log) k))
      (lt-or-ge (length log) k)
