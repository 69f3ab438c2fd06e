-- What a table of frames promises.
use Prim.Native.Nat.{ℕ, zero, suc, ◌+◌, ◌-◌, ◌*◌, ◌^◌, ◌<◌, ◌≤◌}
use mathlib.Core.Path.{◌≡◌, refl, sym, ap, ◌∙◌}
use mathlib.Core.Bool.{Bool, true, false, cond}
use mathlib.Core.List.{List, ◌++◌}
use native.Mathlib.Omega.{arith}
use lib.Dec.{ltb, eqb}
use lib.ListN.{length, get_or, drop, length-append, get_or-append}
use borrow.Author.Tests.{eq-eqb, ne_eqb, le-ltb, eqb-true, eqb-false, ltb-false}
use Rattle.number.specs.Bytes.{be}
use Rattle.number.proofs.Cases.{by_cond}
use Rattle.header.specs.Header.{pages_in}
use Rattle.header.proofs.Laws.{Size, page-end, pages-passed, sized-paged}
use Rattle.paging.specs.Pages.{page_limit, size_fits, lock_page}
use Rattle.wal.specs.Frames.{page_number, commit_size, carries, header_sums, last_commit, last_frame}
use Rattle.wal.specs.State.{little_magic, big_magic, log_version, size_of, nothing, refused, state_at, state_in, state_of}
use Rattle.wal.specs.View.{image_state, pair_state, no_part, image_part, page_at, page_in, page_of}
use Rattle.wal.specs.Bounds.{Bounds}
use Rattle.wal.specs.State.{State}
use Rattle.wal.specs.Part.{Part}
use Rattle.wal.proofs.FrameLaws.{frame-far, frame-mono, frame-prev, last-below, none-holds}
use Rattle.wal.proofs.ViewLaws.{state-bounds}
use Rattle.frames.specs.Table.{late, fill_refusal, fill_of, last_frames, table_of, whole_frames, entry_part, part_by, Serves, Within}
use Rattle.frames.specs.Filled.{Filled}
use Rattle.frames.proofs.FillLaws.{frames-length, frames-at}
use Rattle.frames.proofs.PartLaws.{frame-whole, whole-frame}

-- ---- the page size of a state is one that 41 lets pass
power-fits : (k : ℕ) → 9 ≤ k → k ≤ 16 → size_fits (2 ^ k) ≡ true
unfolding size_fits
power-fits k a b = let e : 9 + (k - 9) ≡ k = omega arith in rw (← e) (go (k - 9) (omega arith))
  where
    go : (j : ℕ) → j ≤ 7 → size_fits (2 ^ (9 + j)) ≡ true
    go zero h = refl
    go (suc zero) h = refl
    go (suc (suc zero)) h = refl
    go (suc (suc (suc zero))) h = refl
    go (suc (suc (suc (suc zero)))) h = refl
    go (suc (suc (suc (suc (suc zero))))) h = refl
    go (suc (suc (suc (suc (suc (suc zero)))))) h = refl
    go (suc (suc (suc (suc (suc (suc (suc zero))))))) h = refl
    go (suc (suc (suc (suc (suc (suc (suc (suc j)))))))) h = absurd (omega arith)

size-fits : (x : ℕ) → Size x → size_fits x ≡ true
size-fits x s = ap size_fits s.3 ∙ power-fits s.0 s.1 s.2

abbrev Fitting : State → Type 0
Fitting s = s.refusal ≡ 0 → (s.frames ≡ 0 → ⊥) → size_fits s.size ≡ true

nothing-fits : Fitting nothing
nothing-fits r f = absurd (f refl)

refused-fits : (n : ℕ) → 0 < n → Fitting (refused n)
refused-fits n h r f = absurd (omega arith)

at-fits : (size : ℕ) (log : List ℕ) (m : ℕ) → size_fits size ≡ true → Fitting (state_at size log m)
unfolding state_at
at-fits size log m h =
    by_cond Fitting (eqb m 0) nothing _ (λ z. nothing-fits)
    (λ z. by_cond Fitting (ltb page_limit (commit_size size log (m - 1))) (refused 42) _ (λ o. refused-fits 42 (omega arith)) (λ o r f. h))

in-fits : (big : Bool) (log : List ℕ) → Fitting (state_in big log)
unfolding state_in
in-fits big log =
    by_cond Fitting (carries log 8 (header_sums big log)) _ nothing
    (λ c. by_cond Fitting (eqb (be 4 log 4) log_version) _ (refused 40)
    (λ v. by_cond Fitting (size_fits (size_of log)) _ (refused 41) (λ s. at-fits (size_of log) log (last_commit big (size_of log) log) s) (λ s. refused-fits 41 (omega arith)))
    (λ v. refused-fits 40 (omega arith)))
    (λ c. nothing-fits)

of-fits : (log : List ℕ) → Fitting (state_of log)
unfolding state_of
of-fits log =
    by_cond Fitting (ltb (length log) 32) nothing _ (λ l. nothing-fits)
    (λ l. by_cond Fitting (eqb (be 4 log 0) little_magic) (state_in false log) _ (λ e. in-fits false log)
    (λ e. by_cond Fitting (eqb (be 4 log 0) big_magic) (state_in true log) nothing (λ f. in-fits true log) (λ f. nothing-fits)))

pub state-fits : (log image : List ℕ) → (pair_state log image).refusal ≡ 0 → size_fits (pair_state log image).size ≡ true
unfolding pair_state
state-fits log image =
    by_cond (λ (s : State). s.refusal ≡ 0 → size_fits s.size ≡ true) (eqb (state_of log).refusal 0) _ (state_of log)
    (λ r. by_cond (λ (s : State). s.refusal ≡ 0 → size_fits s.size ≡ true) (eqb (state_of log).frames 0) (image_state image) (state_of log)
    (λ f h. size-fits (pages_in image).size (sized-paged (pages-passed image (pages_in image) refl h)).power)
    (λ f h. of-fits log h (eqb-false _ _ f)))
    (λ r h. absurd (eqb-false _ _ r h))

-- ---- what a fill that is not refused says
pub record Passes (s : State) (log : List ℕ) (long : ℕ) : Type 0 where
  pub state : s.refusal ≡ 0
  pub fits : s.pages ≤ long
  pub early : late s.size log s.frames s.pages ≡ false

pub fill-passes : (s : State) (log : List ℕ) (long : ℕ) → fill_refusal s log long ≡ 0 → Passes s log long
unfolding fill_refusal
fill-passes s log long =
    by_cond (λ (x : ℕ). x ≡ 0 → Passes s log long) (eqb s.refusal 0) _ s.refusal
    (λ r. by_cond (λ (x : ℕ). x ≡ 0 → Passes s log long) (ltb long s.pages) 47 _ (λ l h. absurd (omega arith))
    (λ l. by_cond (λ (x : ℕ). x ≡ 0 → Passes s log long) (late s.size log s.frames s.pages) 47 0 (λ t h. absurd (omega arith))
    (λ t h. record { state = eqb-true _ 0 r; fits = ltb-false _ _ l; early = t })))
    (λ r h. absurd (eqb-false _ 0 r h))

pub filled-refusal : (log image : List ℕ) (long : ℕ) → (fill_of log image long).refusal ≡ fill_refusal (pair_state log image) log long
unfolding fill_of
filled-refusal log image long =
    by_cond (λ (f : Filled). f.refusal ≡ fill_refusal (pair_state log image) log long) (eqb (fill_refusal (pair_state log image) log long) 0) _ _
    (λ z. sym (eqb-true _ 0 z)) (λ z. refl)

-- ---- one page, by its last frame
cond_same : (b : Bool) (x y z : Part) → (b ≡ false → y ≡ z) → cond b x y ≡ cond b x z
cond_same true x y z h = refl
cond_same false x y z h = h refl

-- a frame in force is one of the log's whole frames
force-whole : (log : List ℕ) (size m n p : ℕ) → Bounds log size m n → last_frame size log p m ≤ whole_frames size log
force-whole log size m n p b = go (last_frame size log p m) refl
  where
    go : (f : ℕ) → last_frame size log p m ≡ f → f ≤ whole_frames size log
    go zero e = omega arith
    go (suc k) e =
        let low : suc k ≤ m = rw (← e) (last-below (λ (j : ℕ). eqb (page_number size log j) p) m) in
        let mono = frame-mono size (suc k) m low in
        let far = frame-far size (suc k) in
        let w = b.within in
        frame-whole size log (suc k) (omega arith) (omega arith)

-- a table with the last frame of page p in its entry shows the page as the scan does
pub shown-alike : (log image t : List ℕ) (size m n p : ℕ) → Bounds log size m n → size_fits size ≡ true → n ≤ length t
    → (1 ≤ p → p ≤ n → get_or t (p - 1) 0 ≡ last_frame size log p m) → part_by log image t n size p ≡ page_at size log image m n p
unfolding part_by page_at entry_part
shown-alike log image t size m n p b fits long entry =
    simp (fits, le-ltb (length t) n long)
    (cond_same (eqb p 0) (no_part 46) _ _
    (λ z. cond_same (ltb n p) (no_part 46) _ _
    (λ o. cond_same (eqb p (lock_page size)) (image_part 46 size image p) _ _
    (λ k.
    let nz = eqb-false p 0 z in
    let e : get_or t (p - 1) 0 ≡ last_frame size log p m = entry (omega arith) (ltb-false n p o) in
    rw e (simp (le-ltb (whole_frames size log) (last_frame size log p m) (force-whole log size m n p b)))))))

-- ---- a refusal of the state is the scan's
neither : (a b : Bool) → (◌≡◌ {A = ℕ} (cond a 47 (cond b 47 0)) 0 → ⊥) → (◌≡◌ {A = ℕ} (cond a 47 (cond b 47 0)) 47 → ⊥) → ⊥
neither true b f g = g refl
neither false true f g = g refl
neither false false f g = f refl

by-refusal : (s : State) (log image : List ℕ) (long p : ℕ) → (fill_refusal s log long ≡ 0 → ⊥) → (fill_refusal s log long ≡ 47 → ⊥)
    → page_in s log image p ≡ no_part (fill_refusal s log long)
unfolding fill_refusal page_in
by-refusal s log image long p some other = go (eqb s.refusal 0) refl
  where
    go : (t : Bool) → eqb s.refusal 0 ≡ t → page_in s log image p ≡ no_part (fill_refusal s log long)
    go true e = absurd (neither (ltb long s.pages) (late s.size log s.frames s.pages) (λ z. some (rw e z)) (λ z. other (rw e z)))
    go false e = simp e

-- ---- where a part lies
none_within : (log image : List ℕ) (n : ℕ) → Within log image (no_part n)
none_within log image n = record { inside = omega arith }

image-within : (log image : List ℕ) (refusal size p : ℕ) → 1 ≤ p → Within log image (image_part refusal size image p)
unfolding image_part
image-within log image refusal size p one =
    by_cond (Within log image) (ltb (length image) (p * size)) (no_part refusal) _ (λ l. none_within log image refusal)
    (λ l. record { inside = let low : p * size ≤ length image = ltb-false _ _ l in rw (page-end size p one) low })

entry-within : (log image : List ℕ) (size e p : ℕ) → 1 ≤ p → Within log image (entry_part size log image e p)
unfolding entry_part
entry-within log image size e p one =
    by_cond (Within log image) (ltb (whole_frames size log) e) (no_part 43) _ (λ l. none_within log image 43)
    (λ l. by_cond (Within log image) (eqb e 0) (image_part 43 size image p) _ (λ z. image-within log image 43 size p one)
    (λ z.
    let nz = eqb-false e 0 z in
    let some : 0 < e = omega arith in
    let w = whole-frame size log e some (ltb-false _ _ l) in
    record { inside = omega (arith, frame-prev size e some, w) }))

-- ==== As by the scan
-- Take any log, image and table. Where the fill succeeds, every page is shown by the n and page size that it answered and the table that it left as by the scan:
-- pages of log and image, the lock-byte page, and each refusal.
pub by-table : (log image table : List ℕ) → (fill_of log image (length table)).refusal ≡ 0
    → Serves log image (table_of log image table) (fill_of log image (length table)).pages (fill_of log image (length table)).size
unfolding fill_of table_of page_in
by-table log image table done =
    let s = pair_state log image in
    let z : fill_refusal s log (length table) ≡ 0 = sym (filled-refusal log image (length table)) ∙ done in
    let ok = fill-passes s log (length table) z in
    let bounds = state-bounds log image ok.state in
    let t : List ℕ = last_frames s.size log s.frames s.pages ++ drop s.pages table in
    let n = frames-length s.size log s.frames s.pages in
    let long : s.pages ≤ length t = rw length-append (omega arith) in
    record {
      page = λ p.
          simp (eq-eqb (fill_refusal s log (length table)) 0 z, eq-eqb s.refusal 0 ok.state)
          (shown-alike log image t s.size s.frames s.pages p bounds (state-fits log image ok.state) long
          (λ a b.
          let i : suc (p - 1) ≡ p = omega arith in
          get_or-append (last_frames s.size log s.frames s.pages) (drop s.pages table) 0 (p - 1) (omega arith)
          ∙ frames-at s.size log s.frames s.pages (p - 1) (omega arith)
          ∙ ap (λ (q : ℕ). last_frame s.size log q s.frames) i));
    }

-- the same of what the code answers and leaves
pub serves : (log image table : List ℕ) (r : Filled) (t : List ℕ) → r ≡ fill_of log image (length table) → t ≡ table_of log image table → r.refusal ≡ 0
    → Serves log image t r.pages r.size
serves log image table r t e f z = rw (e, f) (by-table log image table (rw e at z))

-- Where it is refused, but not with 47, the scan refuses every page with the same number.
pub refused-alike : (log image : List ℕ) (long p : ℕ) → ((fill_of log image long).refusal ≡ 0 → ⊥) → ((fill_of log image long).refusal ≡ 47 → ⊥)
    → page_of log image p ≡ no_part (fill_of log image long).refusal
refused-alike log image long p some other =
    let h = filled-refusal log image long in
    rw h (by-refusal (pair_state log image) log image long p (λ z. some (h ∙ z)) (λ z. other (h ∙ z)))

-- The entry of the lock-byte page is 0.
pub lock-entry : (log image : List ℕ) → (pair_state log image).refusal ≡ 0
    → last_frame (pair_state log image).size log (lock_page (pair_state log image).size) (pair_state log image).frames ≡ 0
lock-entry log image r =
    let s = pair_state log image in
    none-holds s.size log (lock_page s.size) s.frames
    (λ j l. ne_eqb (page_number s.size log j) (lock_page s.size) ((state-bounds log image r).unlocked j l))

-- ==== Whatever the table
-- Whatever table, n and page size are given, what is shown lies within the log or within the image.
pub within : (log image table : List ℕ) (n size p : ℕ) → Within log image (part_by log image table n size p)
unfolding part_by
within log image table n size p =
    let W = Within log image in
    by_cond W (size_fits size) _ (no_part 41)
    (λ f. by_cond W (ltb (length table) n) (no_part 47) _ (λ l. none_within log image 47)
    (λ l. by_cond W (eqb p 0) (no_part 46) _ (λ z. none_within log image 46)
    (λ z. by_cond W (ltb n p) (no_part 46) _ (λ o. none_within log image 46)
    (λ o. let nz = eqb-false p 0 z in
    by_cond W (eqb p (lock_page size)) (image_part 46 size image p) _ (λ k. image-within log image 46 size p (omega arith))
    (λ k. entry-within log image size (get_or table (p - 1) 0) p (omega arith))))))
    (λ f. none_within log image 41)
