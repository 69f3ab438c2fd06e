-- What the parts of the pass over a leaf find: m is the table of marks before, m' after.
use Rattle.std.specs.Prelude.{ℕ, ◌+◌, ◌-◌, ◌*◌, ◌≤◌, ◌<◌, ◌≡◌, Bool, true, false, cond, List, ◌⊎◌, eqb, set}
use Rattle.number.specs.Bytes.{be}
use Rattle.cell.specs.Split.{table_leaf}
use Rattle.leaf.specs.Whole.{Whole}
use Rattle.leaf_pass.specs.declared.Leaf.{Leaf}
use Rattle.leaf_pass.specs.declared.Scan.{Scan}
use Rattle.leaf_pass.specs.Ends.{Marks}
use Rattle.page.specs.Header.{page_type, cell_count, content_start, cell_of}
use Rattle.page.specs.Sound.{cell_spans}
use Rattle.page.specs.Fault.{cells_fault, sound_fault}
use Rattle.page.specs.Steps.{AllLie, Falls, Extends, total}

-- the ith cell has no refusal and no number spelled long, takes `size` bytes at `at`, and has this row number
pub record CellTaken (p : List ℕ) (u head i at size row : ℕ) : Type 0 where
  pub extends : Extends p u head i 0 at (at + size)
  pub short : (cell_of p u head i).long ≡ 0
  pub number : (cell_of p u head i).row ≡ row

-- on a table leaf, a row number of at least `least`, and the one that follows it
pub record Comes (type least row next : ℕ) : Type 0 where
  pub past : type ≡ table_leaf → (least ≤ row) × (next ≡ row + 1)

-- the first cell whose payload is left to follow, once the ith is one
abbrev pub first_left : (i from to : ℕ) → ℕ
first_left i from to = cond (eqb to 0) i from

-- where the cell before the ith begins; before the first, u
abbrev pub begin_before : List ℕ → (u first i : ℕ) → ℕ
begin_before p u first i = cond (eqb i 0) u (be 2 p (first + 2 * (i - 1)))

-- the ith cell, of `size` bytes at `at`, and the cells before it, of `taken` bytes in all, fill at..u; or, with gaps, it ends at or before where the one
-- before it begins
pub record Fallen (p : List ℕ) (u first i at size taken : ℕ) (gaps : Bool) : Type 0 where
  pub fills : gaps ≡ false → at + taken ≡ u
  pub ends : gaps ≡ true → at + size ≤ begin_before p u first i

-- a cell of `size` bytes at `at`: its last byte is marked where cells are, else whether it has fallen
pub record Entered (m m' : List ℕ) (at size : ℕ) (marking : Bool) (fallen : Type 0) (r : Bool) : Type 0 where
  pub marked : marking ≡ true → m' ≡ set m (at + size - 1) 1
  pub kept : marking ≡ false → m' ≡ m
  pub falls : marking ≡ false → r ≡ true → fallen

-- the first i cells have no number spelled long and are whole outside of from..to; on a table leaf their row numbers rise from `least` on, and `next` is the
-- least that may follow
pub record Rows (p : List ℕ) (u head i least next from to : ℕ) : Type 0 where
  pub within : (from ≤ i) × (to ≤ i)
  pub short : (j : ℕ) → j < i → (cell_of p u head j).long ≡ 0
  pub whole : (j : ℕ) → j < i → (j < from) ⊎ (to ≤ j) → Whole p (cell_of p u head j)
  pub rises : page_type p head ≡ table_leaf → (j : ℕ) → j + 1 < i → (cell_of p u head j).row < (cell_of p u head (j + 1)).row
  pub begins : page_type p head ≡ table_leaf → 0 < i → least ≤ (cell_of p u head 0).row
  pub ends : page_type p head ≡ table_leaf → 0 < i → next ≡ (cell_of p u head (i - 1)).row + 1
  pub none : i ≡ 0 → next ≡ least

-- no cell has a refusal, and how many bytes they take
pub record AllTaken (p : List ℕ) (u head taken : ℕ) : Type 0 where
  pub fault : 0 ≡ cells_fault p u head 0 (cell_count p head)
  pub lie : AllLie (content_start p head) u (cell_spans p u head 0 (cell_count p head))
  pub bytes : taken ≡ total (cell_spans p u head 0 (cell_count p head))
  pub small : taken ≤ 4294967296

-- all cells: none has a refusal, and their last bytes are marked or they fall
pub record Scanned (p : List ℕ) (u head : ℕ) (m m' : List ℕ) (least : ℕ) (marking : Bool) (r : Scan) : Type 0 where
  pub taken : AllTaken p u head r.bytes
  pub marks : marking ≡ true → Marks (content_start p head) u m m' (cell_spans p u head 0 (cell_count p head))
  pub falls : marking ≡ false → Falls u (cell_spans p u head 0 (cell_count p head))
  pub rows : Rows p u head (cell_count p head) least r.next r.from r.to

-- the page has no refusal, and r tells its type, the number of its cells, and their rows
pub record Passed (p : List ℕ) (u head least : ℕ) (r : Leaf) : Type 0 where
  pub sound : 0 ≡ sound_fault p u head
  pub type : r.kind ≡ page_type p head
  pub count : r.cells ≡ cell_count p head
  pub rows : Rows p u head r.cells least r.next r.from r.to
