-- Lookup, from a root down one path; and the chain of a cell's payload. A file has row numbers
-- and keys moved up by 2^63, and so has a row number here. Definitions only.
use Rattle.std.specs.Prelude.{cond, List, [], ◌∷◌, ℕ, zero, suc, eqb, leb}
use Rattle.dealing.specs.File.{table_page, Cell, File, is_leaf, cells_of, level_limit}
use Rattle.dealing.specs.Walk.{fault_in, in_range, not0}

pub data Answer : Type 0 where
  nowhere : Answer  -- no such row
  shows : (page index length : ℕ) → Answer  -- the cell, its index from 0, its payload's length P
  refuses : (number page : ℕ) → Answer

-- on an interior page: the child of the first cell whose key is at least the row number, else the right child
unfoldable pub child_for : (row right : ℕ) → List Cell → ℕ
child_for x r [] = r
child_for x r (c ∷ cs) = cond (leb x c.row) c.child (child_for x r cs)

-- on a leaf: the first cell with that row number, from index i on
unfoldable pub cell_for : (row page i : ℕ) → List Cell → Answer
cell_for x p i [] = nowhere
cell_for x p i (c ∷ cs) = cond (eqb c.row x) (shows p i c.length) (cell_for x p (suc i) cs)

-- 0 where the page is fit, else the refusal
abbrev pub unless : (fault page : ℕ) → Answer → Answer
unless zero p a = a
unless (suc n) p a = refuses (suc n) p

-- a page with so many levels left: 24, then 22, 23, 26 as a table page, then on an interior page the child's range (20)
unfoldable pub lookup_page : File → (levels page row : ℕ) → Answer
lookup_page f zero p x = refuses 24 p
lookup_page f (suc l) p x =
    unless (fault_in f table_page p) p
    (cond (is_leaf f p) (cell_for x p 0 (cells_of f p))
    (cond (in_range f.N (child_for x (f.right p) (cells_of f p))) (lookup_page f l (child_for x (f.right p) (cells_of f p)) x) (refuses 20 p)))

-- a root outside 1 to N is 20 with page 0
unfoldable pub lookup : File → (root row : ℕ) → Answer
lookup f r x = cond (in_range f.N r) (lookup_page f level_limit r x) (refuses 20 0)

-- A payload's chain followed to its end, with n pages still to come; the number t of the next
-- one was read on the page `holder`. Zero is 27, then 20; at the end 27.
pub data Followed : Type 0 where
  whole : Followed
  stops : (number page : ℕ) → Followed

unfoldable pub follow : File → (holder n t : ℕ) → Followed
follow f h zero t = cond (eqb t 0) whole (stops 27 h)
follow f h (suc n) t = cond (not0 t) (cond (in_range f.N t) (follow f t n (f.next t)) (stops 20 h)) (stops 27 h)

-- a cell's chain, if it has one
unfoldable pub follow_cell : File → (page links first : ℕ) → Followed
follow_cell f p zero t = whole
follow_cell f p (suc n) t = follow f p (suc n) t
