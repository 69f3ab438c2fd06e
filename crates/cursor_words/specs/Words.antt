-- A cursor as 41 words: word 0 is the number of levels (0: the end); for level k from 1 to 20 word 2k-1 is its page and word 2k its index. Levels count from 0 below.
use Rattle.std.specs.Prelude.{ℕ, zero, suc, ◌+◌, ◌*◌, cond, List, eqb, leb, length, get_or, set}
use Rattle.header.specs.Header.{header_refusal}
use Rattle.cursor.specs.Answers.{zeros}
use Rattle.cursor.specs.Shown as Sh
use Rattle.cursor.specs.declared.Cursor as Cu
use Rattle.cursor.specs.Stepped as St

-- the pages of the first n levels, and the indices; zeros past them
unfoldable pub pages_in : List ℕ → (n : ℕ) → List ℕ
pages_in w zero = zeros
pages_in w (suc k) = set (pages_in w k) k (get_or w (2 * k + 1) 0)

unfoldable pub cells_in : List ℕ → (n : ℕ) → List ℕ
cells_in w zero = zeros
cells_in w (suc k) = set (cells_in w k) k (get_or w (2 * k + 2) 0)

-- the cursor that words hold
abbrev pub cursor_in : List ℕ → Cu.Cursor
cursor_in w = record { levels = get_or w 0 0; pages = pages_in w 20; cells = cells_in w 20 }

-- the words with the first n levels of pages and indices laid into them; the others are as they were
unfoldable pub laid_levels : (pages cells : List ℕ) (n : ℕ) → List ℕ → List ℕ
laid_levels ps is zero w = w
laid_levels ps is (suc k) w = set (set (laid_levels ps is k w) (2 * k + 1) (get_or ps k 0)) (2 * k + 2) (get_or is k 0)

-- the words with a cursor laid into them; those past 41 are as they were
abbrev pub laid_in : Cu.Cursor → List ℕ → List ℕ
laid_in c w = laid_levels c.pages c.cells 20 (set w 0 c.levels)

-- the words after an answer: they hold its cursor; a refusal leaves them as they were
abbrev pub kept_by : Sh.Shown → Cu.Cursor → List ℕ → List ℕ
kept_by Sh.End c w = laid_in c w
kept_by (Sh.Row page cell length row) c w = laid_in c w
kept_by (Sh.Refused number page) c w = w

abbrev pub kept_in : St.Stepped → List ℕ → List ℕ
kept_in s w = kept_by s.shown s.cursor w

-- under 41 words: 44 after 1 to 11, and the words are as they were
unfoldable pub no_room : List ℕ → Sh.Shown
no_room b = Sh.Refused (cond (eqb (header_refusal b) 0) 44 (header_refusal b)) 0

-- what is shown, and what is left in the words
unfoldable pub shown_or : (b w : List ℕ) → St.Stepped → Sh.Shown
shown_or b w s = cond (leb 41 (length w)) s.shown (no_room b)

unfoldable pub words_or : (w : List ℕ) → St.Stepped → List ℕ
words_or w s = cond (leb 41 (length w)) (kept_in s w) w
