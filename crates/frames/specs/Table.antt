-- A table of frames that the caller lends, one entry a page: entry p - 1 is page p's. Filled once from the log, it has for each page of 1 to n the last frame in force, frames being
-- numbered from 1, and 0 for none; pages are then shown without a scan.
use Rattle.std.specs.Prelude.{ℕ, zero, suc, ◌+◌, ◌-◌, ◌/◌, ◌≤◌, ◌≡◌, Bool, true, false, cond, List, [], ◌∷◌, ◌++◌, ltb, eqb, length, get_or, drop}
use Rattle.paging.specs.Pages.{size_fits, lock_page}
use Rattle.wal.specs.Frames.{frame_at, last_frame}
use Rattle.wal.specs.View.{pair_state, no_part, part_is, image_part, page_of}
use Rattle.wal.specs.State.{State}
use Rattle.wal.specs.Part.{Part}
use Rattle.frames.specs.Filled.{Filled}

-- ---- the fill
-- no entry is larger
abbrev pub entry_limit : ℕ
entry_limit = 4294967295

-- the last frame in force for some page of 1 to n is numbered past that
unfoldable pub late : (size : ℕ) (log : List ℕ) (m n : ℕ) → Bool
late size log m zero = false
late size log m (suc k) = cond (late size log m k) true (ltb entry_limit (last_frame size log (suc k) m))

-- the first refusal, or 0: that of the state (40, 41, 42; with nothing to recover 1 to 5 about the image), then 47 for a table of `long` entries that is shorter than n or
-- should hold a late frame
unfoldable pub fill_refusal : State → (log : List ℕ) (long : ℕ) → ℕ
fill_refusal s log long =
    cond (eqb s.refusal 0) (cond (ltb long s.pages) 47 (cond (late s.size log s.frames s.pages) 47 0)) s.refusal

abbrev pub filled_is : (refusal pages size : ℕ) → Filled
filled_is refusal pages size = record { refusal = refusal; pages = pages; size = size }

-- the answer: n and the page size in force, both 0 on refusal
unfoldable pub fill_of : (log image : List ℕ) (long : ℕ) → Filled
fill_of log image long =
    let s = pair_state log image in
    cond (eqb (fill_refusal s log long) 0) (filled_is 0 s.pages s.size) (filled_is (fill_refusal s log long) 0 0)

-- the entries of the pages 1 to n, the first m frames in force
unfoldable pub last_frames : (size : ℕ) (log : List ℕ) (m n : ℕ) → List ℕ
last_frames size log m zero = []
last_frames size log m (suc k) = last_frames size log m k ++ (last_frame size log (suc k) m ∷ [])

-- what the table holds at the end: on success those entries and, past n, what it held; else what it held
unfoldable pub table_of : (log image table : List ℕ) → List ℕ
table_of log image table =
    let s = pair_state log image in
    cond (eqb (fill_refusal s log (length table)) 0) (last_frames s.size log s.frames s.pages ++ drop s.pages table) table

-- ---- a page by a table, whatever table, n and page size are given
-- the whole frames of a log at that page size, counted by its length alone; none under 32 bytes
abbrev pub whole_frames : (size : ℕ) (log : List ℕ) → ℕ
whole_frames size log = (length log - 32) / (24 + size)

-- page p by its entry e: 43 for an entry past the whole frames; else that frame, or for 0 the image's page or 43
unfoldable pub entry_part : (size : ℕ) (log image : List ℕ) (e p : ℕ) → Part
entry_part size log image e p =
    cond (ltb (whole_frames size log) e) (no_part 43)
    (cond (eqb e 0) (image_part 43 size image p) (part_is 0 true (frame_at size (e - 1) + 24) size))

-- 41 on the page size; 47 for a table shorter than n; 46 outside 1 to n; the lock-byte page as the scan shows it, whatever its entry; then by the entry
unfoldable pub part_by : (log image table : List ℕ) (n size p : ℕ) → Part
part_by log image table n size p =
    cond (size_fits size)
    (cond (ltb (length table) n) (no_part 47)
    (cond (eqb p 0) (no_part 46)
    (cond (ltb n p) (no_part 46)
    (cond (eqb p (lock_page size)) (image_part 46 size image p) (entry_part size log image (get_or table (p - 1) 0) p)))))
    (no_part 41)

-- ---- the promises
-- by this table, n and page size every page is shown as by the scan, each refusal included
pub record Serves (log image table : List ℕ) (n size : ℕ) : Type 0 where
  pub page : (p : ℕ) → part_by log image table n size p ≡ page_of log image p

-- the part lies within the log, or within the image
pub record Within (log image : List ℕ) (r : Part) : Type 0 where
  pub inside : r.start + r.length ≤ cond r.logged (length log) (length image)
