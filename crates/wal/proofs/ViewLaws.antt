-- Laws of what is shown: bounds of a state, and where a page's part lies.
use Prim.Native.Nat.{ℕ, suc, max, ◌+◌, ◌-◌, ◌*◌, ◌<◌, ◌≤◌}
use mathlib.Core.Path.{◌≡◌, refl}
use mathlib.Core.Bool.{Bool, true, false, cond}
use mathlib.Core.List.{List}
use native.Mathlib.Omega.{arith}
use lib.Dec.{ltb, eqb}
use lib.ListN.{length}
use borrow.Author.Tests.{eq-eqb, ne_eqb, eqb-true, eqb-false, ltb-false}
use Rattle.std.specs.Prelude.{Option, Some, None}
use Rattle.std.specs.Option.{ok_or}
use Rattle.refusal.specs.declared.Rule.{Rule}
use Rattle.refusal.specs.Rule.{number_of}
use Rattle.wal.specs.declared.Part as P
use Rattle.wal.specs.Told.{part_or, part_told}
use Rattle.number.specs.Bytes.{be}
use Rattle.number.proofs.Cases.{by_cond}
use Rattle.paging.specs.Pages.{page_limit, lock_page, size_fits}
use Rattle.paging.proofs.PagesLaws.{fits-range}
use Rattle.header.specs.Header.{pages_in}
use Rattle.header.specs.Pages.{Pages}
use Rattle.header.proofs.Laws.{page-end, pages-passed, sized-paged}
use Rattle.wal.specs.Frames.{frame_at, carries, header_sums, commit_size, last_commit, last_frame, page_number}
use Rattle.wal.specs.State.{little_magic, big_magic, log_version, size_of, state_is, nothing, refused, state_at, state_in, state_of}
use Rattle.wal.specs.View.{image_state, pair_state, no_part, image_part, page_at, page_in, page_of}
use Rattle.wal.specs.Bounds.{Bounds}
use Rattle.wal.specs.State.{State}
use Rattle.wal.specs.Part.{Part}
use Rattle.wal.proofs.FrameLaws.{frame-first, frame-prev, frame-far, frame-mono, last-below, in-force-whole, in-force-unlocked}

-- a part that may be there, and what it is refused with where it is not
pub or-told : (o : Option P.Part) (rule : Rule) → part_told (ok_or o rule) ≡ part_or (number_of rule) o
or-told None rule = refl
or-told (Some p) rule = refl

-- ---- bounds
-- a state with frames in force
abbrev Forced : List ℕ → State → Type 0
Forced log s = s.refusal ≡ 0 → (s.frames ≡ 0 → ⊥) → Bounds log s.size s.frames s.pages

nothing-forced : (log : List ℕ) → Forced log nothing
nothing-forced log r f = absurd (f refl)

refused-forced : (log : List ℕ) (n : ℕ) → 0 < n → Forced log (refused n)
refused-forced log n h r f = absurd (omega arith)

at-forced : (big : Bool) (log : List ℕ) → 32 ≤ length log → size_fits (size_of log) ≡ true → Forced log (state_at (size_of log) log (last_commit big (size_of log) log))
unfolding state_at
at-forced big log l h =
    let m = last_commit big (size_of log) log in
    let n = commit_size (size_of log) log (m - 1) in
    by_cond (Forced log) (eqb m 0) nothing _ (λ z. nothing-forced log)
    (λ z. by_cond (Forced log) (ltb page_limit n) (refused 42) _ (λ o. refused-forced log 42 (omega arith))
    (λ o r f. record {
      least = (fits-range (size_of log) h).0;
      most = (fits-range (size_of log) h).1;
      few = ltb-false _ _ o;
      within = let w = in-force-whole big (size_of log) log l in omega arith;
      unlocked = in-force-unlocked big (size_of log) log;
    }))

in-forced : (big : Bool) (log : List ℕ) → 32 ≤ length log → Forced log (state_in big log)
unfolding state_in
in-forced big log l =
    by_cond (Forced log) (carries log 8 (header_sums big log)) _ nothing
    (λ c. by_cond (Forced log) (eqb (be 4 log 4) log_version) _ (refused 40)
    (λ v. by_cond (Forced log) (size_fits (size_of log)) _ (refused 41) (λ s. at-forced big log l s) (λ s. refused-forced log 41 (omega arith)))
    (λ v. refused-forced log 40 (omega arith)))
    (λ c. nothing-forced log)

of-forced : (log : List ℕ) → Forced log (state_of log)
unfolding state_of
of-forced log =
    by_cond (Forced log) (ltb (length log) 32) nothing _ (λ l. nothing-forced log)
    (λ l. by_cond (Forced log) (eqb (be 4 log 0) little_magic) (state_in false log) _ (λ e. in-forced false log (ltb-false _ _ l))
    (λ e. by_cond (Forced log) (eqb (be 4 log 0) big_magic) (state_in true log) nothing (λ f. in-forced true log (ltb-false _ _ l)) (λ f. nothing-forced log)))

abbrev Bounded : List ℕ → State → Type 0
Bounded log s = s.refusal ≡ 0 → Bounds log s.size s.frames s.pages

image_bounded : (log image : List ℕ) → Bounded log (image_state image)
image_bounded log image r =
    let g = sized-paged (pages-passed image (pages_in image) refl r) in
    record {
      least = g.least;
      most = g.most;
      few = omega (arith, g.few);
      within = rw (frame-first (pages_in image).size) (omega arith);
      unlocked = λ k l. absurd (omega arith);
    }

-- every state that is not refused keeps the bounds
pub state-bounds : (log image : List ℕ) → (pair_state log image).refusal ≡ 0
    → Bounds log (pair_state log image).size (pair_state log image).frames (pair_state log image).pages
unfolding pair_state
state-bounds log image =
    by_cond (Bounded log) (eqb (state_of log).refusal 0) _ (state_of log)
    (λ r. by_cond (Bounded log) (eqb (state_of log).frames 0) (image_state image) (state_of log)
    (λ f. image_bounded log image)
    (λ f h. of-forced log h (eqb-false _ _ f)))
    (λ r h. absurd (eqb-false _ _ r h))

-- ---- the state of the pair, as the code finds it
module _ (log image : List ℕ) (s : State) (e : s ≡ state_of log) where
  pub pair-refused : (s.refusal ≡ 0 → ⊥) → s ≡ pair_state log image
  unfolding pair_state
  pair-refused n = rw (← e) (simp (ne_eqb s.refusal 0 n))

  module _ (r : s.refusal ≡ 0) where
    pub pair-forced : (s.frames ≡ 0 → ⊥) → s ≡ pair_state log image
    unfolding pair_state
    pair-forced n = rw (← e) (simp (eq-eqb s.refusal 0 r, ne_eqb s.frames 0 n))

    pub pair-alone : (q : Pages) → s.frames ≡ 0 → q ≡ pages_in image → state_is q.refusal q.size 0 q.pages ≡ pair_state log image
    unfolding pair_state
    pair-alone q z f = rw (← e) (simp (eq-eqb s.refusal 0 r, eq-eqb s.frames 0 z, f))

-- the frame in force lies within the log
pub frame-within : (log : List ℕ) (size m n p f : ℕ) → Bounds log size m n → (f ≡ 0 → ⊥) → f ≡ last_frame size log p m
    → frame_at size (f - 1) + 24 + size ≤ length log
frame-within log size m n p f b n0 e =
    let low : f ≤ m = rw e (last-below (λ (k : ℕ). eqb (page_number size log k) p) m) in
    let w = b.within in
    omega (arith, frame-prev size f (omega arith), frame-mono size f m low, frame-far size (f - 1))

pub framed : (log : List ℕ) (size m n p k : ℕ) → Bounds log size m n → suc k ≡ last_frame size log p m → frame_at size k + 24 + size ≤ length log
framed log size m n p k b e =
    let i : suc k - 1 ≡ k = omega arith in
    rw i at (frame-within log size m n p (suc k) b (λ z. omega arith) e)

-- ---- where the part lies
abbrev Fits-in : (log image : List ℕ) → Part → Type 0
Fits-in log image r = (r.start + r.length) ≤ cond r.logged (length log) (length image)

none-fits : (log image : List ℕ) (n : ℕ) → Fits-in log image (no_part n)
none-fits log image n = omega arith

image-fits : (log image : List ℕ) (refusal size p : ℕ) → 1 ≤ p → Fits-in log image (image_part refusal size image p)
unfolding image_part
image-fits log image refusal size p one =
    by_cond (Fits-in log image) (ltb (length image) (p * size)) (no_part refusal) _ (λ l. none-fits log image refusal)
    (λ l. let low : p * size ≤ length image = ltb-false _ _ l in rw (page-end size p one) low)

at-fits : (log image : List ℕ) (size m n p : ℕ) → Bounds log size m n → Fits-in log image (page_at size log image m n p)
unfolding page_at
at-fits log image size m n p b =
    let F = Fits-in log image in
    by_cond F (eqb p 0) (no_part 46) _ (λ z. none-fits log image 46)
    (λ z. by_cond F (ltb n p) (no_part 46) _ (λ o. none-fits log image 46)
    (λ o.
    let nz : p ≡ 0 → ⊥ = eqb-false p 0 z in
    by_cond F (eqb p (lock_page size)) (image_part 46 size image p) _ (λ k. image-fits log image 46 size p (omega arith))
    (λ k. by_cond F (eqb (last_frame size log p m) 0) (image_part 43 size image p) _ (λ f. image-fits log image 43 size p (omega arith))
    (λ f. frame-within log size m n p (last_frame size log p m) b (eqb-false _ 0 f) refl))))

in-fits : (log image : List ℕ) (s : State) (p : ℕ) → (s.refusal ≡ 0 → Bounds log s.size s.frames s.pages) → Fits-in log image (page_in s log image p)
unfolding page_in
in-fits log image s p b =
    by_cond (Fits-in log image) (eqb s.refusal 0) _ (no_part s.refusal)
    (λ r. at-fits log image s.size s.frames s.pages p (b (eqb-true _ _ r)))
    (λ r. none-fits log image s.refusal)

module _ (log image : List ℕ) (p : ℕ) where
  -- the state found, and a page of it
  module _ (s : State) (e : s ≡ pair_state log image) where
    pub found-bounds : s.refusal ≡ 0 → Bounds log s.size s.frames s.pages
    found-bounds r = rw e (state-bounds log image (rw e at r))

    pub found-refused : (s.refusal ≡ 0 → ⊥) → no_part s.refusal ≡ page_of log image p
    unfolding page_in
    found-refused n = rw (← e) (simp (ne_eqb s.refusal 0 n))

    pub found-page : (r : Part) → s.refusal ≡ 0 → r ≡ page_at s.size log image s.frames s.pages p → r ≡ page_of log image p
    unfolding page_in
    found-page r z h = rw (← e) (simp (eq-eqb s.refusal 0 z) h)

  -- the part found, and its bytes
  module _ (r : Part) (e : r ≡ page_of log image p) where
    fits : Fits-in log image r
    fits = rw e (in-fits log image (pair_state log image) p (state-bounds log image))

    pub part-in-log : r.logged ≡ true → r.start + r.length ≤ length log
    part-in-log h = rw h at fits

    pub part-in-image : r.logged ≡ false → r.start + r.length ≤ length image
    part-in-image h = rw h at fits

    pub part_low : r.start + r.length ≤ max (length log) (length image)
    part_low = go r.logged refl
      where
        go : (b : Bool) → r.logged ≡ b → r.start + r.length ≤ max (length log) (length image)
        go true h = omega (arith, part-in-log h)
        go false h = omega (arith, part-in-image h)
