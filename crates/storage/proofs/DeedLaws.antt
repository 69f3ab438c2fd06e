-- Laws of one deed, over a log and an image: what is recovered and shown when it is cut and when it is completed.
use Prim.Native.Nat.{ℕ, zero, suc, ◌+◌, ◌-◌, ◌*◌, ◌<◌, ◌≤◌}
use mathlib.Core.Path.{◌≡◌, refl, sym, ap, ◌∙◌, subst}
use mathlib.Core.Logic.{◌⊎◌, inl, inr, ⊎_elim}
use mathlib.Core.Bool.{Bool, true, false, and-false}
use mathlib.Core.List.{List, [], ◌++◌}
use native.Mathlib.Nat.{mul-le-mul_right}
use native.Mathlib.Decide.{ℕ_discrete}
use native.Mathlib.Omega.{arith}
use lib.Dec.{eqb}
use lib.ListN.{length, get_or, take, drop, length-append, length-take, get_or-append}
use lib.Seq.{take_all, take_at, get_or-take, get_or-drop, get_or-append-add, length-take-le}
use borrow.Author.Tests.{eq-eqb, ne_eqb, eqb-true, eqb-false}
use Rattle.number.specs.Bytes.{byte_at, be, part}
use Rattle.number.proofs.Cases.{by_cond, lt-or-ge}
use Rattle.number.proofs.VarintReading.{Stands}
use Rattle.header.specs.Header as HS
use Rattle.header.specs.Header.{pages_in, size_for}
use Rattle.header.proofs.Laws.{pages-passed, sized-paged}
use Rattle.paging.specs.Pages.{lock_page, size_fits}
use Rattle.paging.proofs.LockLaws.{lock-one, lock-there}
use Rattle.wal.specs.Frames.{frame_at, page_number, marked, holds, commits, last_commit, last_frame, last_of}
use Rattle.wal.specs.State.{size_of, state_is, nothing, state_of}
use Rattle.wal.specs.View.{image_state, pair_state, page_from, shown_at, missing, whole_of}
use Rattle.wal.specs.Promises.{Accepted, Shown, in_force}
use Rattle.wal.specs.State.{State}
use Rattle.wal.proofs.FrameLaws.{frame-far, frame-mono, none-holds, in-force-whole, last-passes, last-below}
use Rattle.wal.proofs.TakeLaws.{number-take}
use Rattle.wal.proofs.CutLaws.{cut-behind, size-take, last-later, commit-short}
use Rattle.wal.proofs.RecoverLaws.{missing-not, join-same}
use Rattle.wal.proofs.ViewLaws.{state-bounds}
use Rattle.wal.proofs.AgreeLaws.{Succeeds, succeeds, succeeded, none-missing, whole_length, whole-page, alone-whole, join-image}
use Rattle.wal.proofs.Theorems.{lock-shown, behind-commit}
use Rattle.wal.proofs.ShownLaws.{Agree, shown_by}
use Rattle.appending.specs.Written.{header_bytes}
use Rattle.appending.specs.Promises.{Fits, committed, Alike}
use Rattle.appending.proofs.AppendLaws as A
use Rattle.appending.proofs.AppendLaws.{by-conds, before_last}
use Rattle.appending.proofs.FrameLaws.{FramesRead}
use Rattle.appending.proofs.CheckpointLaws.{alone, forced}
use Rattle.appending.proofs.HeaderLaws as H
use Rattle.appending.proofs.Theorems.{header-cut, header-alone}
use Rattle.storage.specs.Disk.{disk_is, Recovers, File}
use Rattle.storage.specs.Deeds.{Given, MayRestart, ImageInCheckpoint}

-- ---- an image with nothing to recover
module _ (log image : List ℕ) (none : state_of log ≡ nothing) (passes : (pages_in image).refusal ≡ 0) where
  pub alone-state : pair_state log image ≡ image_state image
  alone-state = alone log image none

  pub alone-shown : whole_of log image ≡ image
  alone-shown = rw alone-state (alone-whole log image passes)

  pub alone-recovers : Recovers (disk_is image log)
  alone-recovers =
      let g = sized-paged (pages-passed image (pages_in image) refl passes) in
      let size : ℕ = (pages_in image).size in
      let n : ℕ = (pages_in image).pages in
      let all : missing size log image 0 n ≡ false =
      none-missing size log image 0 n (λ p a b ne z. let l = mul-le-mul_right size b in let w = g.whole in omega arith) in (
        length image,
        rw alone-state (succeeded (image_state image) log image (length image) (record { passed = passes; none = all; fits = let w = g.whole in omega arith })),
      )

-- the page size that a file names is one that a log may have
for-fits : (x : ℕ) → (size_for x ≡ 0) ⊎ (size_fits (size_for x) ≡ true)
unfolding size_for size_fits
for-fits x =
    let P : ℕ → Type 0 = λ y. (y ≡ 0) ⊎ (size_fits y ≡ true) in
    by_cond P (eqb x 1) 65536 _ (λ e. inr refl)
    (λ e. by_cond P (eqb x 512) 512 _ (λ e. inr refl)
    (λ e. by_cond P (eqb x 1024) 1024 _ (λ e. inr refl)
    (λ e. by_cond P (eqb x 2048) 2048 _ (λ e. inr refl)
    (λ e. by_cond P (eqb x 4096) 4096 _ (λ e. inr refl)
    (λ e. by_cond P (eqb x 8192) 8192 _ (λ e. inr refl)
    (λ e. by_cond P (eqb x 16384) 16384 _ (λ e. inr refl)
    (λ e. by_cond P (eqb x 32768) 32768 0 (λ e. inr refl) (λ e. inl refl))))))))

pub file-fits : (size : ℕ) (b : List ℕ) → File size b → size_fits size ≡ true
unfolding HS.size_of
file-fits size b f =
    let s = pages-passed b (pages_in b) refl f.passes in
    let g = sized-paged s in
    let e : size ≡ size_for (be 2 b 16) = sym f.names ∙ s.size_is in
    ⊎_elim
    (λ (z : size_for (be 2 b 16) ≡ 0). absurd (let l = g.least in let n = f.names in omega arith))
    (λ (t : size_fits (size_for (be 2 b 16)) ≡ true). ap size_fits e ∙ t)
    (for-fits (be 2 b 16))

-- ---- logs that show the same
pub alike-recovers : (a b image : List ℕ) → Alike a b image → Recovers (disk_is image b) → Recovers (disk_is image a)
alike-recovers a b image h r = (r.0, h.refusal r.0 ∙ r.1)

-- ---- a frame with page number 0 fails
pub zero-fails : (big : Bool) (size : ℕ) (log : List ℕ) (k : ℕ) → page_number size log k ≡ 0 → holds big size log k ≡ false
unfolding holds marked
zero-fails big size log k z = simp (eq-eqb (page_number size log k) 0 z, and-false)

-- ---- a commit
module _ (big : Bool) (log : List ℕ) (a : Accepted big log) where
  abbrev size : ℕ
  size = size_of log

  abbrev m : ℕ
  m = last_commit big size log

  past : 32 ≤ frame_at size m
  past = omega (arith, frame-far size m)

  -- the log being cut
  pub cut-alike : (c : ℕ) → frame_at size m ≤ c → (image : List ℕ) → Alike (take c log) log image
  cut-alike c l image =
      let s = cut-behind big log image c (let p = past in omega arith) a l in
      record {
        state = sym s.state;
        page = λ p. sym (s.page p);
        view = λ p. sym (s.view p);
        whole = sym s.whole;
        refusal = λ room. sym (s.refusal room);
      }

  pub cut-size : (c : ℕ) → frame_at size m ≤ c → size_of (take c log) ≡ size
  cut-size c l = size-take c log (let p = past in omega arith)

  -- whatever stands behind what is in force
  pub behind-size : (x : List ℕ) → size_of (in_force big log ++ x) ≡ size
  behind-size x =
      let n : length (in_force big log) ≡ frame_at size m = length-take-le (frame_at size m) log (in-force-whole big size log a.long) in
      let e : take (frame_at size m) (in_force big log ++ x) ≡ in_force big log = take_at (in_force big log) x (frame_at size m) n in
      sym (size-take (frame_at size m) (in_force big log ++ x) past) ∙ ap size_of e ∙ size-take (frame_at size m) log past

  -- and no commit counts there
  pub behind-byte : (x : List ℕ) (i : ℕ) → i < 32 → byte_at (in_force big log ++ x) i ≡ byte_at log i
  behind-byte x i l =
      let n : length (in_force big log) ≡ frame_at size m = length-take-le (frame_at size m) log (in-force-whole big size log a.long) in
      get_or-append (in_force big log) x 0 i (omega (arith, past)) ∙ get_or-take (frame_at size m) log i 0 (omega (arith, past))

  pub behind-accepted : (x : List ℕ) → Accepted big (in_force big log ++ x)
  behind-accepted x =
      let n : length (in_force big log) ≡ frame_at size m = length-take-le (frame_at size m) log (in-force-whole big size log a.long) in
      A.accepted-same big log (in_force big log ++ x) (omega (arith, length-append (in_force big log) x, past)) (behind-byte x) a

  pub behind-alike : (x image : List ℕ) → last_commit big (size_of (in_force big log ++ x)) (in_force big log ++ x) ≡ m → Alike (in_force big log ++ x) log image
  behind-alike x image none =
      let after : List ℕ = in_force big log ++ x in
      let n : length (in_force big log) ≡ frame_at size m = length-take-le (frame_at size m) log (in-force-whole big size log a.long) in
      let e : take (frame_at size m) after ≡ in_force big log = take_at (in_force big log) x (frame_at size m) n in
      let w : frame_at (size_of after) (last_commit big (size_of after) after) ≤ frame_at size m = rw (none, behind-size x) (omega arith) in
      let s : Shown after image (pair_state (take (frame_at size m) after) image) (take (frame_at size m) after) =
      cut-behind big after image (frame_at size m) past (behind-accepted x) w in
      A.alike-by after log image (in_force big log)
      (subst (λ (y : List ℕ). Shown after image (pair_state y image) y) e s)
      (behind-commit big log image a)

  -- no commit older than the last in force is the last
  pub not-older : (x : List ℕ) → ((k : ℕ) → commits big size log k ≡ true → commits big (size_of (in_force big log ++ x)) (in_force big log ++ x) k ≡ true)
      → m ≤ last_commit big (size_of (in_force big log ++ x)) (in_force big log ++ x)
  not-older x stays = go m refl
    where
      after : List ℕ
      after = in_force big log ++ x

      go : (k : ℕ) → last_commit big size log ≡ k → k ≤ last_commit big (size_of after) after
      go zero e = omega arith
      go (suc k) e =
          let t = stays k (last-passes (commits big size log) (length log) k e) in
          before_last (commits big (size_of after) after) (length after) k (commit-short big (size_of after) after k t) t

  -- the commit completed: no page is missing
  module _ (n : ℕ) (numbers pages : List ℕ) (fits : Fits size n numbers pages) (image : List ℕ) (recovers : Recovers (disk_is image log))
      (sized : size ≡ (pair_state log image).size)
      (grows : (p : ℕ) → (pair_state log image).pages < p → p ≤ n → (p ≡ lock_page size → ⊥) → Given numbers p) where
    abbrev new : List ℕ
    new = committed big log n numbers pages

    abbrev count : ℕ
    count = length numbers

    ok : Succeeds (pair_state log image) log image recovers.0
    ok = succeeds (pair_state log image) log image recovers.0 recovers.1

    old-frames : (pair_state log image).frames ≡ m
    old-frames = A.pair-frames big log image a ok.passed

    old-none : missing size log image m (pair_state log image).pages ≡ false
    old-none =
        subst (λ (s : ℕ). missing s log image m (pair_state log image).pages ≡ false) (sym sized)
        (subst (λ (k : ℕ). missing (pair_state log image).size log image k (pair_state log image).pages ≡ false) old-frames ok.none)

    added : FramesRead big size new m n numbers pages
    added = A.added big log n numbers pages a fits

    same_number : (k : ℕ) → k < m → page_number size new k ≡ page_number size log k
    same_number k l =
        let far : frame_at size (suc k) ≤ frame_at size m = frame-mono size (suc k) m l in
        let e : take (frame_at size m) new ≡ in_force big log = take_at (in_force big log) _ (frame_at size m) (A.base-length big log n numbers pages a fits) in
        sym (number-take (frame_at size m) new past size k far)
        ∙ ap (λ (x : List ℕ). page_number size x k) e
        ∙ number-take (frame_at size m) log past size k far

    -- a page that no frame of the new log holds was in the image
    in_image : (p : ℕ) → 1 ≤ p → p ≤ n → (p ≡ lock_page size → ⊥) → last_frame size new p (m + count) ≡ 0 → p * size ≤ length image
    in_image p low high ne z =
        let test : ℕ → Bool = λ k. eqb (page_number size new k) p in
        let not-held : (k : ℕ) → k < m + count → page_number size new k ≡ p → ⊥ =
        λ k l e. eqb-false _ _ (last-later test (m + count) 0 k z (omega arith) l) e in
        ⊎_elim
        (λ (over : (pair_state log image).pages < p).
        let g = grows p over high ne in
        absurd (not-held (m + g.0) (let q = g.1 in omega arith) (added.number g.0 g.1 ∙ g.2)))
        (λ (old : p ≤ (pair_state log image).pages).
        missing-not size log image m (pair_state log image).pages p old-none low old ne
        (none-holds size log p m (λ k l. ne_eqb _ _ (λ e. not-held k (omega arith) (same_number k l ∙ e)))))
        (lt-or-ge (pair_state log image).pages p)

    pub new-state : pair_state new image ≡ state_is 0 size (m + count) n
    new-state = A.new-pair big log n numbers pages a fits image

    pub new-recovers : Recovers (disk_is image new)
    new-recovers =
        let all : missing size new image (m + count) n ≡ false = none-missing size new image (m + count) n in_image in (
          n * size,
          rw new-state (succeeded (state_is 0 size (m + count) n) new image (n * size) (record { passed = refl; none = all; fits = omega arith })),
        )

    new_ok : Succeeds (pair_state new image) new image new-recovers.0
    new_ok = succeeds (pair_state new image) new image new-recovers.0 new-recovers.1

    -- the new file, page by page
    pub new-length : length (whole_of new image) ≡ n * size
    new-length = whole_length (pair_state new image) new image new-recovers.0 new_ok (state-bounds new image new_ok.passed) ∙ rw new-state refl

    pub new-page : (p : ℕ) → 1 ≤ p → p ≤ n → part (whole_of new image) ((p - 1) * size) size ≡ shown_at size new image (m + count) p
    new-page p low high =
        let w = whole-page (pair_state new image) new image new-recovers.0 new_ok (state-bounds new image new_ok.passed) p low
        (rw new-state high) in
        subst (λ (s : State). part (whole_of new image) ((p - 1) * s.size) s.size ≡ shown_at s.size new image s.frames p) new-state w

    pub new-given : (p i : ℕ) → i < count → get_or numbers i 0 ≡ p → ((j : ℕ) → i < j → j < count → get_or numbers j 0 ≡ p → ⊥)
        → part (whole_of new image) ((p - 1) * size) size ≡ part pages (i * size) size
    new-given p i l is later =
        new-page p (rw is at (fits.low i l)) (rw is at (fits.high i l)) ∙ A.given-shown big log n numbers pages a fits image p i l is later

    pub new-kept : (p : ℕ) → 1 ≤ p → p ≤ n → p ≤ (pair_state log image).pages → ((i : ℕ) → i < count → get_or numbers i 0 ≡ p → ⊥)
        → part (whole_of new image) ((p - 1) * size) size ≡ part (whole_of log image) ((p - 1) * size) size
    new-kept p low high old not-given =
        let w : part (whole_of log image) ((p - 1) * (pair_state log image).size) (pair_state log image).size
        ≡ shown_at (pair_state log image).size log image (pair_state log image).frames p =
        whole-page (pair_state log image) log image recovers.0 ok (state-bounds log image ok.passed) p low old in
        let x : part (whole_of log image) ((p - 1) * size) size ≡ shown_at size log image m p =
        subst (λ (s : ℕ). part (whole_of log image) ((p - 1) * s) s ≡ shown_at s log image m p) (sym sized)
        (subst (λ (k : ℕ). part (whole_of log image) ((p - 1) * (pair_state log image).size) (pair_state log image).size ≡ shown_at (pair_state log image).size log image k p) old-frames w) in
        new-page p low high ∙ A.other-shown big log n numbers pages a fits image p not-given ∙ sym x

-- ---- a checkpoint
-- with no frames in force the state is the image's
none-alone : (log image : List ℕ) → (pair_state log image).refusal ≡ 0 → (pair_state log image).frames ≡ 0 → pair_state log image ≡ image_state image
unfolding pair_state
none-alone log image =
    by_cond (λ (s : State). s.refusal ≡ 0 → s.frames ≡ 0 → s ≡ image_state image) (eqb (state_of log).refusal 0) _ (state_of log)
    (λ a. by_cond (λ (s : State). s.refusal ≡ 0 → s.frames ≡ 0 → s ≡ image_state image) (eqb (state_of log).frames 0) (image_state image) (state_of log)
    (λ z r f. refl) (λ z r f. absurd (eqb-false _ 0 z f)))
    (λ a r f. absurd (eqb-false _ 0 a r))

-- with frames in force the state is the log's
pub in-force : (log image : List ℕ) → ((pair_state log image).frames ≡ 0 → ⊥) → (state_of log).refusal ≡ 0 → (state_of log).frames ≡ 0 → ⊥
unfolding pair_state
in-force log image some r f = some (rw (r, f) refl)

module _ (log a b : List ℕ) (recovers : Recovers (disk_is a log)) (some : (pair_state log a).frames ≡ 0 → ⊥)
    (left : ImageInCheckpoint (pair_state log a).size log (pair_state log a).frames (pair_state log a).pages a b) where
  abbrev s : State
  s = pair_state log a

  was : Succeeds s log a recovers.0
  was = succeeds s log a recovers.0 recovers.1

  pub copied-state : pair_state log b ≡ s
  copied-state = forced log b (in-force log a some) ∙ sym (forced log a (in-force log a some))

  pub copied-recovers : Recovers (disk_is b log)
  copied-recovers = (
    recovers.0,
    rw copied-state
        (succeeded s log b recovers.0
        (record {
          passed = was.passed;
          none = none-missing s.size log b s.frames s.pages (λ p low high ne z. (left.others p low high ne z).there);
          fits = was.fits;
        })),
  )

  page-same : (p : ℕ) → 1 ≤ p → p ≤ s.pages → shown_at s.size log b s.frames p ≡ shown_at s.size log a s.frames p
  unfolding shown_at page_from
  page-same p low high =
      by-conds (λ x y. x ≡ y) (eqb p (lock_page s.size)) _ _ _ _
      (λ k. left.lock (let e : p ≡ lock_page s.size = eqb-true _ _ k in omega arith))
      (λ k. by-conds (λ x y. x ≡ y) (eqb (last_frame s.size log p s.frames) 0) _ _ _ _
      (λ f. (left.others p low high (eqb-false _ _ k) (eqb-true _ 0 f)).bytes) (λ f. refl))

  pub copied-shown : whole_of log b ≡ whole_of log a
  copied-shown =
      rw copied-state
      (join-same (shown_at s.size log b s.frames) (shown_at s.size log a s.frames) s.pages page-same)

-- frames are in force, or the image is shown
pub some-or-alone : (log image : List ℕ) → Recovers (disk_is image log) → ((pair_state log image).frames ≡ 0 → ⊥) ⊎ MayRestart (disk_is image log)
some-or-alone log image recovers = go (ℕ_discrete (pair_state log image).frames 0)
  where
    go : Dec ((pair_state log image).frames ≡ 0) → ((pair_state log image).frames ≡ 0 → ⊥) ⊎ MayRestart (disk_is image log)
    go (no some) = inl some
    go (yes z) =
        let r = (succeeds (pair_state log image) log image recovers.0 recovers.1).passed in
        let e : pair_state log image ≡ image_state image = none-alone log image r z in
        let passes : (pages_in image).refusal ≡ 0 = rw e at r in
        let w : whole_of log image ≡ image = rw e (alone-whole log image passes) in
        inr (record {
          done = sym w;
          file = record { passes = passes; names = sym (ap (λ (s : State). s.size) e) };
        })

-- the whole file is one of what a checkpoint may leave
pub all-copied : (log a : List ℕ) → Recovers (disk_is a log)
    → ImageInCheckpoint (pair_state log a).size log (pair_state log a).frames (pair_state log a).pages a (whole_of log a)
unfolding shown_at page_from
all-copied log a recovers =
    let s : State = pair_state log a in
    let ok = succeeds s log a recovers.0 recovers.1 in
    let bounds = state-bounds log a ok.passed in
    let long = whole_length s log a recovers.0 ok bounds in
    record {
      others = λ p low high ne z. record {
        there = rw long (mul-le-mul_right s.size high);
        bytes = whole-page s log a recovers.0 ok bounds p low high ∙ rw (ne_eqb p (lock_page s.size) ne, z) refl;
      };
      lock = λ high.
          lock-there s.size (whole_of log a) (rw long (mul-le-mul_right s.size high))
          ∙ whole-page s log a recovers.0 ok bounds (lock_page s.size) (lock-one s.size) high
          ∙ lock-shown s.size log a s.frames;
    }

-- ---- a fresh header
-- cut anywhere or whole, it has nothing to recover
pub fresh-nothing : (size sequence salt1 salt2 c : ℕ) → size_fits size ≡ true → state_of (take c (header_bytes size sequence salt1 salt2)) ≡ nothing
fresh-nothing size sequence salt1 salt2 c ok =
    let h : List ℕ = header_bytes size sequence salt1 salt2 in
    ⊎_elim
    (λ (l : c < 32). (header-cut h [] c l).0)
    (λ (l : 32 ≤ c). ap state_of (take_all c h (omega (arith, H.header-length size sequence salt1 salt2))) ∙ (header-alone size sequence salt1 salt2 [] ok).0)
    (lt-or-ge c 32)

pub self : (h : List ℕ) → Stands h 0 h
self h j q = ap (byte_at h) (omega arith)

-- and names that size
pub fresh-size : (size sequence salt1 salt2 c : ℕ) → size_fits size ≡ true → 32 ≤ length (take c (header_bytes size sequence salt1 salt2))
    → size_of (take c (header_bytes size sequence salt1 salt2)) ≡ size
fresh-size size sequence salt1 salt2 c ok long =
    let h : List ℕ = header_bytes size sequence salt1 salt2 in
    let n = H.header-length size sequence salt1 salt2 in
    let e : take c h ≡ h = take_all c h (omega (arith, length-take c h)) in
    ap size_of e ∙ H.written-size size sequence salt1 salt2 h (omega arith) (self h) ok

-- laid over a header with the same page size and torn anywhere, it names that size
pub torn-size : (size o1 o2 o3 n1 n2 n3 c : ℕ) (log : List ℕ) → size_fits size ≡ true → 32 ≤ length log → c ≤ 32 → Stands log 0 (header_bytes size o1 o2 o3)
    → size_of (take c (header_bytes size n1 n2 n3) ++ drop c log) ≡ size
torn-size size o1 o2 o3 n1 n2 n3 c log ok long low old =
    H.first-size size torn first ok
  where
    h : List ℕ
    h = header_bytes size n1 n2 n3

    torn : List ℕ
    torn = take c h ++ drop c log

    front : length (take c h) ≡ c
    front = length-take-le c h (omega (arith, H.header-length size n1 n2 n3))

    first : Stands torn 0 (H.first_bytes size)
    first i l =
        ⊎_elim
        (λ (b : 0 + i < c).
        get_or-append (take c h) (drop c log) 0 (0 + i) (omega (arith, front)) ∙ get_or-take c h (0 + i) 0 b ∙ H.written-first size n1 n2 n3 h (self h) i l)
        (λ (b : c ≤ 0 + i).
        let e : 0 + i ≡ length (take c h) + (0 + i - c) = omega (arith, front) in
        let f : c + (0 + i - c) ≡ 0 + i = omega arith in
        ap (byte_at torn) e ∙ get_or-append-add (take c h) (drop c log) (0 + i - c) 0 ∙ get_or-drop c log (0 + i - c) 0 ∙ ap (byte_at log) f ∙ H.written-first size o1 o2 o3 log old i l)
        (lt-or-ge (0 + i) c)

-- a log that says what the old one said
pub same_alike : (a b image : List ℕ) → state_of a ≡ state_of b → ((k m : ℕ) → Agree k m a b) → Alike a b image
unfolding pair_state
same_alike a b image same agree =
    let s : State = pair_state b image in
    let e : pair_state a image ≡ s = rw same refl in
    let w : Shown a image s b = shown_by a image s b e (agree s.size s.frames) in
    record { state = w.state; page = w.page; view = w.view; whole = w.whole; refusal = w.refusal }

-- ---- pages side by side
-- files with the same pages are the same
pub same-pages : (size n : ℕ) (a b : List ℕ) → length a ≡ n * size → length b ≡ n * size
    → ((p : ℕ) → 1 ≤ p → p ≤ n → part a ((p - 1) * size) size ≡ part b ((p - 1) * size) size) → a ≡ b
same-pages size n a b la lb same =
    sym (take_all (n * size) a (omega arith))
    ∙ sym (join-image size a n)
    ∙ join-same (λ (p : ℕ). part a ((p - 1) * size) size) (λ (p : ℕ). part b ((p - 1) * size) size) n same
    ∙ join-image size b n
    ∙ take_all (n * size) b (omega arith)

-- the last place of a number in a list, if it is there
abbrev pub LastGiven : (numbers : List ℕ) (p : ℕ) → Type 0
LastGiven numbers p = (i : ℕ) × (i < length numbers) × (get_or numbers i 0 ≡ p) × ((j : ℕ) → i < j → j < length numbers → get_or numbers j 0 ≡ p → ⊥)

pub last-given : (numbers : List ℕ) (p : ℕ) → LastGiven numbers p ⊎ ((i : ℕ) → i < length numbers → get_or numbers i 0 ≡ p → ⊥)
last-given numbers p = go (last_of test count) refl
  where
    count : ℕ
    count = length numbers

    test : ℕ → Bool
    test k = eqb (get_or numbers k 0) p

    go : (k : ℕ) → last_of test count ≡ k → LastGiven numbers p ⊎ ((i : ℕ) → i < count → get_or numbers i 0 ≡ p → ⊥)
    go zero e = inr (λ i l q. eqb-false _ _ (last-later test count 0 i e (omega arith) l) q)
    go (suc k) e =
        inl (
          k,
          (let b = last-below test count in omega arith),
          eqb-true _ _ (last-passes test count k e),
          λ j l h q. eqb-false _ _ (last-later test count (suc k) j e (omega arith) h) q,
        )
