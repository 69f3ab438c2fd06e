-- A log with a commit behind its last commit in force, whole or cut.
use Prim.Native.Nat.{ℕ, zero, suc, ◌+◌, ◌-◌, ◌*◌, ◌/◌, ◌<◌, ◌≤◌}
use mathlib.Core.Path.{◌≡◌, refl, sym, ap, ◌∙◌, subst}
use mathlib.Core.Logic.{⊎_elim}
use mathlib.Core.Bool.{Bool, true, false, cond, and-false, true≢false}
use mathlib.Core.List.{List}
use native.Mathlib.Nat.{add-zero, zero-add, zero-mul, suc-mul}
use native.Mathlib.Decide.{dec_le}
use native.Mathlib.Omega.{arith}
use lib.Dec.{eqb, ltb}
use lib.ListN.{length, get_or, take, length-append, get_or-append}
use lib.Seq.{length-take-le, take-append-add, take_at, get_or-take}
use borrow.Author.Tests.{eq-eqb, ne_eqb, eqb-true, eqb-false, le-ltb}
use Rattle.number.specs.Bytes.{byte_at, be, part}
use Rattle.number.proofs.BeLaws.{be-same}
use Rattle.number.proofs.Cases.{by_cond, lt-or-ge}
use Rattle.header.specs.Header.{pages_in}
use Rattle.paging.specs.Pages.{page_limit, lock_page, lock_bytes, size_fits}
use Rattle.paging.proofs.PagesLaws.{part_length, part_at}
use Rattle.wal.specs.Sums.{sums_over}
use Rattle.wal.specs.Frames.{frame_at, page_number, commit_size, carries, sums_after, counting, commits, last_of, last_commit, last_frame}
use Rattle.wal.specs.State.{size_of, state_is, nothing, refused, state_at, state_of}
use Rattle.wal.specs.View.{image_state, pair_state, page_at, page_in, page_of, bytes_of, view_of, page_from, shown_at, no_part, image_part}
use Rattle.wal.specs.Promises.{Accepted, Shown, in_force}
use Rattle.wal.proofs.FrameLaws.{and_left, frame-next, frame-far, frame-mono, last-passes, last-below, frame-prev, in-force-whole, short-fails, none-commits}
use Rattle.wal.proofs.TakeLaws.{counting-take, commits-take, commits-cut, commit-size-take, last-frame-take, part-take}
use Rattle.wal.proofs.CutLaws.{last-is, last-later, last-holds, last_none, commit-short, size-take, accepted-state, cut-behind}
use Rattle.wal.proofs.Theorems.{commit-state, behind-commit, frame-shown, page-shown}
use Rattle.wal.specs.Whole.{InPlace}
use Rattle.wal.specs.State.{State}
use Rattle.wal.specs.Part.{Part}
use Rattle.appending.specs.Written.{sums_from, frames_bytes}
use Rattle.appending.specs.Promises.{Fits, committed, torn_at, Alike}
use Rattle.appending.proofs.StandLaws.{stands-behind, sums_same}
use Rattle.appending.proofs.FrameLaws.{Salted, Allowed, FramesRead, frames-read, frames-length, frames-summed}

-- ---- two logs with the same first c bytes
-- the header
pub accepted-same : (big : Bool) (a b : List ℕ) → 32 ≤ length b → ((i : ℕ) → i < 32 → byte_at b i ≡ byte_at a i) → Accepted big a → Accepted big b
unfolding carries
accepted-same big a b long same h =
    record {
      long = long;
      magic = field 0 (omega arith) ∙ h.magic;
      sums = rw (sums_same big b a 0 0 3 (0, 0) (λ i l. same (0 + i) (omega arith)), field 24 (omega arith), field 28 (omega arith)) h.sums;
      version = field 4 (omega arith) ∙ h.version;
      size = ap size_fits (field 8 (omega arith)) ∙ h.size;
    }
  where
    field : (k : ℕ) → k + 4 ≤ 32 → be 4 b k ≡ be 4 a k
    field k l = be-same 4 b a k k (λ i w. same (k + i) (omega arith))

-- the sums over the first k frames
pub after_same : (big : Bool) (size c : ℕ) (a b : List ℕ) → 32 ≤ c → ((i : ℕ) → i < c → byte_at b i ≡ byte_at a i) → (k : ℕ) → frame_at size k ≤ c
    → sums_after big size b k ≡ sums_after big size a k
unfolding sums_after
after_same big size c a b past same zero h = sums_same big b a 0 0 3 (0, 0) (λ i l. same (0 + i) (omega arith))
after_same big size c a b past same (suc k) h =
    let n = frame-next size k in
    let e : sums_after big size b k ≡ sums_after big size a k = after_same big size c a b past same k (omega arith) in
    let f : sums_over big b (frame_at size k) 1 (sums_after big size a k) ≡ sums_over big a (frame_at size k) 1 (sums_after big size a k) =
    sums_same big b a (frame_at size k) (frame_at size k) 1 _ (λ i l. same (frame_at size k + i) (omega arith)) in
    rw (e, f)
    (sums_same big b a (frame_at size k + 24) (frame_at size k + 24) (size / 8) _ (λ i l. same (frame_at size k + 24 + i) (omega arith)))

-- the state of a log whose last commit is that of a shorter one
pub state-from : (big : Bool) (log base : List ℕ) (size m : ℕ) → Accepted big log → size_of log ≡ size → last_commit big size log ≡ m
    → take (frame_at size m) log ≡ base → state_of log ≡ state_at size base m
unfolding state_at
state-from big log base size m a s l e = accepted-state big log a ∙ rw (s, l) (go m e)
  where
    go : (m : ℕ) → take (frame_at size m) log ≡ base → state_at size log m ≡ state_at size base m
    go zero e = refl
    go (suc k) e =
        let i : suc k - 1 ≡ k = omega arith in
        let far = frame-far size (suc k) in
        let f : commit_size size base k ≡ commit_size size log k =
        ap (λ (x : List ℕ). commit_size size x k) (sym e) ∙ commit-size-take (frame_at size (suc k)) log (omega arith) size k (omega arith) in
        rw (i, f) refl

-- what both show as a third shows it is the same
pub alike-by : (a b image base : List ℕ) → Shown a image (pair_state base image) base → Shown b image (pair_state base image) base → Alike a b image
alike-by a b image base x y =
    record {
      state = x.state ∙ sym y.state;
      page = λ p. x.page p ∙ sym (y.page p);
      view = λ p. x.view p ∙ sym (y.view p);
      whole = x.whole ∙ sym y.whole;
      refusal = λ room. x.refusal room ∙ sym (y.refusal room);
    }

-- one more than the last index that passes, where none of the last k does
pub last_on : (test : ℕ → Bool) (m k : ℕ) → ((i : ℕ) → i < k → test (m + i) ≡ false) → last_of test (m + k) ≡ last_of test m
unfolding last_of
last_on test m zero f = rw (add-zero m) refl
last_on test m (suc k) f =
    let e : m + suc k ≡ suc (m + k) = omega arith in
    rw (e, f k (omega arith)) (last_on test m k (λ i l. f i (omega arith)))

-- an index that passes lies before the last
pub before_last : (test : ℕ → Bool) (n k : ℕ) → k < n → test k ≡ true → k < last_of test n
before_last test n k l h =
    ⊎_elim (λ (b : k < last_of test n). b) (λ (b : last_of test n ≤ k). absurd (true≢false (sym h ∙ last-later test n (last_of test n) k refl b l)))
    (lt-or-ge k (last_of test n))

-- what holds between both ways of a test holds between what it picks
pub by-conds : {A : Type 0} (R : A → A → Type 0) (b : Bool) (x y x' y' : A) → (b ≡ true → R x x') → (b ≡ false → R y y') → R (cond b x y) (cond b x' y')
by-conds R true x y x' y' f g = f refl
by-conds R false x y x' y' f g = g refl

abbrev pair_of : (image : List ℕ) → State → State
pair_of image s = cond (eqb s.refusal 0) (cond (eqb s.frames 0) (image_state image) s) s

-- the frames in force of a log and an image are those up to the log's last commit
pub pair-frames : (big : Bool) (log image : List ℕ) → Accepted big log → (pair_state log image).refusal ≡ 0
    → (pair_state log image).frames ≡ last_commit big (size_of log) log
unfolding pair_state state_at
pair-frames big log image a = rw (accepted-state big log a) (go (last_commit big (size_of log) log))
  where
    go : (m : ℕ) → (pair_of image (state_at (size_of log) log m)).refusal ≡ 0 → (pair_of image (state_at (size_of log) log m)).frames ≡ m
    go zero = λ r. refl
    go (suc k) =
        by_cond (λ (s : State). (pair_of image s).refusal ≡ 0 → (pair_of image s).frames ≡ suc k) (eqb (suc k) 0) nothing _ (λ z. absurd (let e = eqb-true (suc k) 0 z in omega arith))
        (λ z. by_cond (λ (s : State). (pair_of image s).refusal ≡ 0 → (pair_of image s).frames ≡ suc k) (ltb page_limit (commit_size (size_of log) log (suc k - 1))) (refused 42) _
        (λ o r. absurd (let e : ◌≡◌ {A = ℕ} 42 0 = r in omega arith)) (λ o r. rw z refl))

-- with a commit in force, or an image that passes with the log's page size, a pair that shows pages is not refused and has that page size
pub pair-sized : (big : Bool) (log image : List ℕ) → Accepted big log
    → (last_commit big (size_of log) log ≡ 0 → ((pages_in image).refusal ≡ 0) × ((pages_in image).size ≡ size_of log)) → 1 ≤ (pair_state log image).pages
    → ((pair_state log image).refusal ≡ 0) × ((pair_state log image).size ≡ size_of log)
unfolding pair_state state_at
pair-sized big log image a = rw (accepted-state big log a) (go (last_commit big (size_of log) log))
  where
    go : (m : ℕ) → (m ≡ 0 → ((pages_in image).refusal ≡ 0) × ((pages_in image).size ≡ size_of log)) → 1 ≤ (pair_of image (state_at (size_of log) log m)).pages
        → ((pair_of image (state_at (size_of log) log m)).refusal ≡ 0) × ((pair_of image (state_at (size_of log) log m)).size ≡ size_of log)
    go zero = λ h l. h refl
    go (suc k) =
        let F : State → Type 0 = λ s. (suc k ≡ 0 → ((pages_in image).refusal ≡ 0) × ((pages_in image).size ≡ size_of log)) → 1 ≤ (pair_of image s).pages
        → ((pair_of image s).refusal ≡ 0) × ((pair_of image s).size ≡ size_of log) in
        by_cond F (eqb (suc k) 0) nothing _ (λ z. absurd (let e = eqb-true (suc k) 0 z in omega arith))
        (λ z. by_cond F (ltb page_limit (commit_size (size_of log) log (suc k - 1))) (refused 42) _ (λ o h l. absurd (omega arith)) (λ o h l. rw z (refl, refl)))

-- ---- the log with the commit
module _ (big : Bool) (log : List ℕ) (n : ℕ) (numbers pages : List ℕ) (a : Accepted big log) (fits : Fits (size_of log) n numbers pages) where
  abbrev size : ℕ
  size = size_of log

  abbrev m : ℕ
  m = last_commit big size log

  abbrev count : ℕ
  count = length numbers

  abbrev base : List ℕ
  base = in_force big log

  abbrev frames : List ℕ
  frames = frames_bytes big log n numbers pages

  abbrev new : List ℕ
  new = committed big log n numbers pages

  past : 32 ≤ frame_at size m
  past = omega (arith, frame-far size m)

  inside : frame_at size m ≤ length log
  inside = in-force-whole big size log a.long

  pub base-length : length base ≡ frame_at size m
  base-length = length-take-le (frame_at size m) log inside

  salts-length : length (part log 16 8) ≡ 8
  salts-length = part_length log 16 8 (omega (arith, a.long))

  pub added-length : length frames ≡ count * (24 + size)
  added-length = frames-length big size (part log 16 8) n numbers pages _ salts-length fits.whole

  far-frame : (k : ℕ) → frame_at size (m + k) ≡ frame_at size m + k * (24 + size)
  far-frame zero = rw (add-zero m, zero-mul (24 + size)) (omega arith)
  far-frame (suc k) =
      let e : m + suc k ≡ suc (m + k) = omega arith in
      rw e (omega (arith, frame-next size (m + k), far-frame k, suc-mul k (24 + size)))

  pub new-length : length new ≡ frame_at size (m + count)
  new-length = omega (arith, length-append base frames, base-length, added-length, far-frame count)

  -- the new log begins as the old one
  same_byte : (i : ℕ) → i < frame_at size m → byte_at new i ≡ byte_at log i
  same_byte i l = get_or-append base frames 0 i (omega (arith, base-length)) ∙ get_or-take (frame_at size m) log i 0 l

  new-front : take (frame_at size m) new ≡ base
  new-front = take_at base frames (frame_at size m) base-length

  pub new-accepted : Accepted big new
  new-accepted =
      let long : 32 ≤ length new = omega (arith, new-length, frame-far size (m + count)) in
      accepted-same big log new long (λ i l. same_byte i (omega (arith, past))) a

  pub new-salt1 : be 4 new 16 ≡ be 4 log 16
  new-salt1 = be-same 4 new log 16 16 (λ i l. same_byte (16 + i) (omega (arith, past)))

  pub new-salt2 : be 4 new 20 ≡ be 4 log 20
  new-salt2 = be-same 4 new log 20 20 (λ i l. same_byte (20 + i) (omega (arith, past)))

  pub new-size : size_of new ≡ size
  new-size = be-same 4 new log 8 8 (λ i l. same_byte (8 + i) (omega (arith, past)))

  counted : (k : ℕ) → last_commit big size log ≡ k → counting big size log k ≡ true
  unfolding counting commits
  counted zero e = refl
  counted (suc k) e = and_left (counting big size log (suc k)) _ (last-passes (commits big size log) (length log) k e)

  base-counting : counting big size new m ≡ true
  base-counting =
      sym (counting-take (frame_at size m) new past size big m (omega arith))
      ∙ ap (λ (x : List ℕ). counting big size x m) new-front
      ∙ counting-take (frame_at size m) log past size big m (omega arith)
      ∙ counted m refl

  salted : Salted new (part log 16 8)
  salted =
      record {
        long = salts-length;
        first = be-same 4 new (part log 16 8) 16 0
            (λ i l. same_byte (16 + i) (omega (arith, past)) ∙ sym (part_at log 16 8 (0 + i) (omega arith) ∙ ap (λ (k : ℕ). byte_at log (16 + k)) (zero-add i)));
        second = be-same 4 new (part log 16 8) 20 4
            (λ i l.
            let e : 16 + (4 + i) ≡ 20 + i = omega arith in
            same_byte (20 + i) (omega (arith, past)) ∙ sym (part_at log 16 8 (4 + i) (omega arith) ∙ ap (byte_at log) e));
      }

  allowed : Allowed size n numbers
  allowed = record { few = let f = fits.few in omega arith; low = fits.low; high = fits.high; unlocked = fits.unlocked }

  -- what is read of the frames added
  pub added : FramesRead big size new m n numbers pages
  added =
      frames-read big size new (part log 16 8) n numbers pages (sums_after big size log m) m salted allowed fits.whole
      (omega (arith, new-length)) base-counting
      (after_same big size (frame_at size m) log new past same_byte m (omega arith))
      (stands-behind base frames (frame_at size m) base-length)

  -- and the sums carried on over them
  pub new-sums : sums_after big size new (m + count) ≡ sums_from big size n numbers pages (sums_after big size log m)
  new-sums =
      frames-summed big size new (part log 16 8) n numbers pages (sums_after big size log m) m salts-length fits.whole
      (after_same big size (frame_at size m) log new past same_byte m (omega arith))
      (stands-behind base frames (frame_at size m) base-length)

  -- the old commit is one of the new log
  base-commits : (k : ℕ) → last_commit big size log ≡ suc k → commits big size new k ≡ true
  base-commits k e =
      let far : frame_at size (suc k) ≤ frame_at size m = frame-mono size (suc k) m (omega arith) in
      sym (commits-take (frame_at size m) new past size big k far)
      ∙ ap (λ (x : List ℕ). commits big size x k) new-front
      ∙ commits-take (frame_at size m) log past size big k far
      ∙ last-passes (commits big size log) (length log) k e

  -- ---- cut
  module _ (c : ℕ) (short : c < length frames) where
    abbrev cut : List ℕ
    cut = torn_at big log n numbers pages c

    abbrev end : ℕ
    end = frame_at size m + c

    cut-is : take end new ≡ cut
    cut-is = ap (λ (k : ℕ). take (k + c) new) (sym base-length) ∙ take-append-add base frames c

    below : end < frame_at size (m + count)
    below = omega (arith, added-length, far-frame count)

    -- no commit but the old ones
    cut-none : (j : ℕ) → m ≤ j → commits big size cut j ≡ false
    unfolding commits
    cut-none j l = ap (λ (x : List ℕ). commits big size x j) (sym cut-is) ∙ go (dec_le (frame_at size (suc j)) end)
      where
        inner : (i : ℕ) → m + i ≡ j → suc i < count → commits big size new j ≡ false
        inner i e w =
            let z : commit_size size new j ≡ 0 =
            ap (commit_size size new) (sym e) ∙ added.after i (omega arith) ∙ rw (ne_eqb (suc i) count (λ q. omega arith)) refl in
            rw z (and-false (counting big size new (suc j)))

        go : Dec (frame_at size (suc j) ≤ end) → commits big size (take end new) j ≡ false
        go (yes w) =
            let early : suc j < m + count =
            ⊎_elim (λ (q : suc j < m + count). q)
            (λ (q : m + count ≤ suc j). absurd (let f = frame-mono size (m + count) (suc j) q in let b = below in omega arith))
            (lt-or-ge (suc j) (m + count)) in
            commits-take end new (omega (arith, past)) size big j w ∙ inner (j - m) (omega arith) (omega arith)
        go (no w) = commits-cut end new (omega (arith, past)) size big j (omega arith)

    cut-commits : (k : ℕ) → last_commit big size log ≡ suc k → commits big size cut k ≡ true
    cut-commits k e =
        let far : frame_at size (suc k) ≤ frame_at size m = frame-mono size (suc k) m (omega arith) in
        ap (λ (x : List ℕ). commits big size x k) (sym cut-is)
        ∙ commits-take end new (omega (arith, past)) size big k (omega arith)
        ∙ base-commits k e

    pub cut-last : last_commit big size cut ≡ m
    cut-last = go m refl
      where
        go : (k : ℕ) → last_commit big size log ≡ k → last_commit big size cut ≡ k
        go zero e = last_none (commits big size cut) (length cut) (λ j. cut-none j (omega arith))
        go (suc k) e =
            let t = cut-commits k e in
            last-is (commits big size cut) (length cut) k (commit-short big size cut k t) t (λ j l. cut-none j (omega arith))

    pub cut-byte : (i : ℕ) → i < frame_at size m → byte_at cut i ≡ byte_at log i
    cut-byte i l = get_or-append base (take c frames) 0 i (omega (arith, base-length)) ∙ get_or-take (frame_at size m) log i 0 l

    pub cut-accepted : Accepted big cut
    cut-accepted =
        accepted-same big log cut (omega (arith, length-append base (take c frames), base-length, past)) (λ i l. cut-byte i (omega (arith, past))) a

    cut-size : size_of cut ≡ size
    cut-size = ap size_of (sym cut-is) ∙ size-take end new (omega (arith, past)) ∙ new-size

    cut-front : take (frame_at size m) cut ≡ base
    cut-front = take_at base (take c frames) (frame_at size m) base-length

    pub cut-state : state_of cut ≡ state_of log
    cut-state =
        state-from big cut base size m cut-accepted cut-size cut-last cut-front
        ∙ sym (state-from big log base size m a refl refl refl)

    pub cut-alike : (image : List ℕ) → Alike cut log image
    cut-alike image =
        let w : frame_at (size_of cut) (last_commit big (size_of cut) cut) ≤ frame_at size m = rw (cut-size, cut-last) (omega arith) in
        let shown : Shown cut image (pair_state (take (frame_at size m) cut) image) (take (frame_at size m) cut) =
        cut-behind big cut image (frame_at size m) past cut-accepted w in
        alike-by cut log image base
        (subst (λ (x : List ℕ). Shown cut image (pair_state x image) x) cut-front shown)
        (behind-commit big log image a)

  -- ---- whole
  some-pages : 1 ≤ n
  some-pages = let s = fits.some in let l = fits.low 0 s in let h = fits.high 0 s in omega arith

  abbrev final : ℕ
  final = m + (count - 1)

  final-next : suc final ≡ m + count
  final-next = let s = fits.some in omega arith

  final-commit : commit_size size new final ≡ n
  final-commit =
      let s = fits.some in
      added.after (count - 1) (omega arith) ∙ rw (eq-eqb (suc (count - 1)) count (omega arith)) refl

  new-commits : commits big size new final ≡ true
  unfolding commits
  new-commits =
      let s = some-pages in
      simp (final-next, added.counts, final-commit, ne_eqb n 0 (λ z. omega arith))

  pub new-last : last_commit big size new ≡ m + count
  new-last =
      last-is (commits big size new) (length new) final (commit-short big size new final new-commits) new-commits
      (λ j l.
      none-commits big size new j j
      (short-fails big size new j
      (let f = frame-mono size (suc (m + count)) (suc j) (let e = final-next in omega arith) in
      let g = frame-next size (m + count) in omega (arith, new-length)))
      (omega arith))
      ∙ final-next

  pub new-state : state_of new ≡ state_is 0 size (m + count) n
  new-state =
      accepted-state big new new-accepted
      ∙ rw (new-size, new-last, ← final-next) (commit-state size new final (let f = fits.few in rw final-commit f) ∙ rw final-commit refl)

  pub new-pair : (image : List ℕ) → pair_state new image ≡ state_is 0 size (m + count) n
  unfolding pair_state
  new-pair image = let s = fits.some in simp (new-state, ne_eqb (m + count) 0 (λ z. omega arith))

  -- a page that was given: the last bytes given for it
  module _ (image : List ℕ) (p i : ℕ) (l : i < count) (is : get_or numbers i 0 ≡ p) (later : (j : ℕ) → i < j → j < count → get_or numbers j 0 ≡ p → ⊥) where
    given-number : page_number size new (m + i) ≡ p
    given-number = added.number i l ∙ is

    given-later : (j : ℕ) → m + i < j → j < m + count → page_number size new j ≡ p → ⊥
    given-later j b c e =
        let k : m + (j - m) ≡ j = omega arith in
        later (j - m) (omega arith) (omega arith) (sym (added.number (j - m) (omega arith)) ∙ ap (page_number size new) k ∙ e)

    given-unlocked : p ≡ lock_page size → ⊥
    given-unlocked e = fits.unlocked i l (is ∙ e)

    pub given-shown : shown_at size new image (m + count) p ≡ part pages (i * size) size
    given-shown =
        frame-shown size new image (m + count) p (m + i) given-unlocked (omega arith) given-number given-later ∙ added.bytes i l

    given-last : last_frame size new p (m + count) ≡ suc (m + i)
    given-last =
        last-holds size new p (m + i) (eq-eqb _ _ given-number) (m + count) (omega arith) (λ j b c. ne_eqb _ _ (given-later j b c))

    given-place : InPlace new image size (last_frame size new p (m + count)) p
    given-place =
        let e = given-last in
        record {
          framed = λ z.
              let k : last_frame size new p (m + count) - 1 ≡ m + i = omega arith in
              rw k (omega (arith, frame-next size (m + i), frame-mono size (suc (m + i)) (m + count) (omega arith), new-length));
          imaged = λ z. absurd (omega arith);
        }

    pub given-view : view_of new image p ≡ part pages (i * size) size
    unfolding page_in
    given-view =
        let low : 1 ≤ p = rw is at (fits.low i l) in
        let high : p ≤ n = rw is at (fits.high i l) in
        rw (new-pair image) (page-shown size new image (m + count) n p low high given-unlocked given-place ∙ given-shown)

  -- any other page: what it was
  module _ (image : List ℕ) (p : ℕ) (not-given : (i : ℕ) → i < count → get_or numbers i 0 ≡ p → ⊥) where
    other_last : last_frame size new p (m + count) ≡ last_frame size log p m
    other_last =
        last_on (λ (k : ℕ). eqb (page_number size new k) p) m count
        (λ i l. ne_eqb _ _ (λ e. not-given i l (sym (added.number i l) ∙ e)))
        ∙ sym (last-frame-take (frame_at size m) new past size p m (omega arith))
        ∙ ap (λ (x : List ℕ). last_frame size x p m) new-front
        ∙ last-frame-take (frame_at size m) log past size p m (omega arith)

    frame_same : (f : ℕ) → (f ≡ 0 → ⊥) → f ≤ m → part new (frame_at size (f - 1) + 24) size ≡ part log (frame_at size (f - 1) + 24) size
    frame_same f z l =
        let e = frame-mono size f m l in
        let g = frame-prev size f (omega arith) in
        sym (part-take (frame_at size m) new (frame_at size (f - 1) + 24) size (omega arith))
        ∙ ap (λ (x : List ℕ). part x (frame_at size (f - 1) + 24) size) new-front
        ∙ part-take (frame_at size m) log (frame_at size (f - 1) + 24) size (omega arith)

    other_from : (f : ℕ) → f ≤ m → page_from size new image f p ≡ page_from size log image f p
    unfolding page_from
    other_from f l = by-conds (λ x y. x ≡ y) (eqb f 0) _ _ _ _ (λ e. refl) (λ e. frame_same f (eqb-false f 0 e) l)

    low-last : last_frame size log p m ≤ m
    low-last = last-below (λ (k : ℕ). eqb (page_number size log k) p) m

    pub other-shown : shown_at size new image (m + count) p ≡ shown_at size log image m p
    unfolding shown_at
    other-shown = rw other_last (ap (cond (eqb p (lock_page size)) (lock_bytes size image)) (other_from (last_frame size log p m) low-last))

    other_at : page_at size new image (m + count) n p ≡ page_at size log image m n p
    unfolding page_at
    other_at = rw other_last refl

    other-bytes : bytes_of new image (page_at size log image m n p) ≡ bytes_of log image (page_at size log image m n p)
    unfolding page_at image_part
    other-bytes =
        let F : Part → Type 0 = λ r. bytes_of new image r ≡ bytes_of log image r in
        let G : (refusal : ℕ) → F (image_part refusal size image p) =
        λ refusal. by_cond F (ltb (length image) (p * size)) (no_part refusal) _ (λ l. refl) (λ l. refl) in
        by_cond F (eqb p 0) (no_part 46) _ (λ z. refl)
        (λ z. by_cond F (ltb n p) (no_part 46) _ (λ o. refl)
        (λ o. by_cond F (eqb p (lock_page size)) (image_part 46 size image p) _ (λ k. G 46)
        (λ k. by_cond F (eqb (last_frame size log p m) 0) (image_part 43 size image p) _ (λ f. G 43)
        (λ f. frame_same (last_frame size log p m) (eqb-false _ 0 f) low-last))))

    module _ (ok : (pair_state log image).refusal ≡ 0) (sized : (pair_state log image).size ≡ size) (low : 1 ≤ p) (high : p ≤ n)
        (old : p ≤ (pair_state log image).pages) where
      at_old : page_at size log image m n p ≡ page_at size log image m (pair_state log image).pages p
      unfolding page_at
      at_old = simp (le-ltb n p high, le-ltb (pair_state log image).pages p old)

      old-page : page_of log image p ≡ page_at size log image m n p
      unfolding page_in
      old-page = simp (eq-eqb _ 0 ok, sized, pair-frames big log image a ok) (sym at_old)

      pub other-page : page_of new image p ≡ page_of log image p
      unfolding page_in
      other-page = rw (new-pair image) (other_at ∙ sym old-page)

      pub other-view : view_of new image p ≡ view_of log image p
      other-view = rw (other-page, old-page) other-bytes
