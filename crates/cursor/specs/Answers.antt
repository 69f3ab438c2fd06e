-- The cursor's answers, for every image and every question.
use Rattle.std.specs.Prelude.{ℕ, zero, suc, ◌+◌, ◌-◌, ◌^◌, ◌≤◌, ◌<◌, cond, List, [], ◌∷◌, eqb, ℤ, length, get_or, set, replicate}
use Rattle.number.specs.Bytes.{bias_of, biased, signed_of}
use Rattle.header.specs.Header.{header_refusal}
use Rattle.dealing.specs.File.{File}
use Rattle.dealing.specs.Cursor as L
use Rattle.image.specs.Image.{file_of}
use Rattle.cursor.specs.Shown as Sh
use Rattle.cursor.specs.declared.Cursor as Cu
use Rattle.cursor.specs.Stepped as St

-- ---- a path as a cursor has it
abbrev pub zeros : List ℕ
zeros = replicate 20 0

-- a cursor with page and index set at level k
abbrev pub put_at : Cu.Cursor → (k page index : ℕ) → Cu.Cursor
put_at c k p i = record { levels = c.levels; pages = set c.pages k p; cells = set c.cells k i }

-- the end has no path
abbrev pub blank : Cu.Cursor
blank = record { levels = 0; pages = zeros; cells = zeros }

-- a path's pages, one a level from level k on, zeros before and after; and its indices
unfoldable pub pages_from : (k : ℕ) → (above : List (ℕ × ℕ)) (page : ℕ) → List ℕ
pages_from k [] q = set zeros k q
pages_from k ((p, i) ∷ up) q = set (pages_from (suc k) up q) k p

unfoldable pub indices_from : (k : ℕ) → (above : List (ℕ × ℕ)) (index : ℕ) → List ℕ
indices_from k [] j = set zeros k j
indices_from k ((p, i) ∷ up) j = set (indices_from (suc k) up j) k i

abbrev pub cursor_from : (k : ℕ) → L.Path → Cu.Cursor
cursor_from k y = record { levels = suc (k + length y.above); pages = pages_from k y.above y.page; cells = indices_from k y.above y.index }

-- and back: n levels from level k on
unfoldable pub above_from : Cu.Cursor → (k n : ℕ) → List (ℕ × ℕ)
above_from c k zero = []
above_from c k (suc n) = (get_or c.pages k 0, get_or c.cells k 0) ∷ above_from c (suc k) n

abbrev pub last_page : Cu.Cursor → ℕ
last_page c = get_or c.pages (c.levels - 1) 0

abbrev pub last_index : Cu.Cursor → ℕ
last_index c = get_or c.cells (c.levels - 1) 0

abbrev pub path_of : Cu.Cursor → L.Path
path_of c = record { above = above_from c 0 (c.levels - 1); page = last_page c; index = last_index c }

-- ---- the answers
-- the signed number that is u when it is moved up by 2^63
abbrev pub row_of : ℕ → ℤ
row_of u = signed_of (2 ^ 63) (biased u)

-- a cell with its index from 0, length P and row number; the refusal's number and the page that it reports
abbrev pub shown_of : File → L.Shown → Sh.Shown
shown_of f L.end = Sh.End
shown_of f (L.at y) = Sh.Row y.page y.index (f.cell y.page y.index).length (row_of (L.row_at f y))
shown_of f (L.refuses number page) = Sh.Refused number page

-- the cursor that is handed back, for a path from level k on: a refusal keeps the one that there was
abbrev pub stands_at : (kept : Cu.Cursor) (k : ℕ) → L.Shown → Cu.Cursor
stands_at kept k L.end = blank
stands_at kept k (L.at y) = cursor_from k y
stands_at kept k (L.refuses number page) = kept

abbrev pub stepped : Sh.Shown → Cu.Cursor → St.Stepped
stepped s c = record { shown = s; cursor = c }

abbrev pub answer_of : File → (kept : Cu.Cursor) (k : ℕ) → L.Shown → St.Stepped
answer_of f kept k s = stepped (shown_of f s) (stands_at kept k s)

-- 1 to 11 come first and report page 0
abbrev pub opened : List ℕ → L.Shown → L.Shown
opened b s = cond (eqb (header_refusal b) 0) s (L.refuses (header_refusal b) 0)

unfoldable pub first_of : List ℕ → (root : ℕ) → St.Stepped
first_of b root = answer_of (file_of b) blank 0 (opened b (L.first (file_of b) root))

unfoldable pub seek_of : List ℕ → (root : ℕ) (row : ℤ) → St.Stepped
seek_of b root row = answer_of (file_of b) blank 0 (opened b (L.seek (file_of b) root (bias_of row)))

-- the end stays the end
unfoldable pub step_of : List ℕ → Cu.Cursor → St.Stepped
step_of b c = answer_of (file_of b) c 0 (opened b (cond (eqb c.levels 0) L.end (L.step (file_of b) (path_of c))))

-- ---- for the parts of the code
-- a step from the part of a stored path that has so many levels left
unfoldable pub next_in : File → Cu.Cursor → (levels : ℕ) → L.Shown
next_in f c l = L.step_in f l (above_from c (20 - l) (c.levels - 1 - (20 - l))) (last_page c) (last_index c)

-- there is such a part
abbrev pub Stored : Cu.Cursor → (levels : ℕ) → Type 0
Stored c l = (c.levels ≤ 20) × (l ≤ 20) × (20 - l < c.levels)
