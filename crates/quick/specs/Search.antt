-- The search for a row number on one page p of u usable bytes, by halving. Of the cells that it looks at only the row numbers are read, and then one cell, where it ends.
-- x is a row number moved up by 2^63. Definitions only.
use Rattle.std.specs.Prelude.{ℕ, zero, suc, ◌+◌, ◌-◌, ◌/◌, cond, List, eqb, leb, ltb}
use Rattle.number.specs.Bytes.{biased}
use Rattle.number.specs.Varint.{varint_at, varint_length}
use Rattle.number.specs.declared.Word.{Word}
use Rattle.cell.specs.Split.{table_leaf}
use Rattle.page.specs.Header.{page_type, cell_count, content_start, right_pointer, pointer_place, pointer, cell_of, is_table}
use Rattle.page.specs.Fault.{cell_fault}
use Rattle.quick.specs.Step as St

-- the varint with the row number of the cell at `at`: on a leaf it follows the payload's length, on an interior page the child; of length 0 where one of these runs past u
unfoldable pub row_word : List ℕ → (u type at : ℕ) → Word
row_word p u type at =
    cond (eqb type table_leaf) (cond (eqb (varint_length p at u) 0) (varint_at p at u) (varint_at p (at + varint_length p at u) u)) (varint_at p (at + 4) u)

abbrev pub no_word : Word
no_word = record { length = 0; bits = 0 }

-- that of the ith cell; none where its pointer runs past u, or does not lie from the content start to below u
unfoldable pub row_seen : List ℕ → (u head i : ℕ) → Word
row_seen p u head i =
    cond (ltb u (pointer_place p head i + 2)) no_word
    (cond (ltb (pointer p head i) (content_start p head)) no_word
    (cond (leb u (pointer p head i)) no_word (row_word p u (page_type p head) (pointer p head i))))

-- where halving ends: at an index, or at a row number that cannot be read (23)
pub data Sought : Type 0 where
  ends : (index : ℕ) → Sought
  stops : (number : ℕ) → Sought

abbrev pub middle : (a z : ℕ) → ℕ
middle a z = a + (z - a) / 2

-- Before a the rows looked at are below x, from z on they are not; of the cells between, the one in the middle says which half is left. Each time fewer are, so that
-- as many turns as there are cells are enough.
unfoldable pub halve : List ℕ → (u head x : ℕ) → (turns a z : ℕ) → Sought
halve p u head x zero a z = ends z
halve p u head x (suc n) a z =
    cond (ltb a z)
    (cond (eqb (row_seen p u head (middle a z)).length 0) (stops 23)
    (cond (ltb (biased (row_seen p u head (middle a z)).bits) x) (halve p u head x n (suc (middle a z)) z) (halve p u head x n a (middle a z))))
    (ends z)

abbrev pub sought_in : List ℕ → (u head x : ℕ) → Sought
sought_in p u head x = halve p u head x (cell_count p head) 0 (cell_count p head)

-- 0 where the cell can be read, else its refusal
abbrev pub or_refused : (fault : ℕ) → St.Step → St.Step
or_refused zero s = s
or_refused (suc n) s = St.Refused (suc n)

-- the cell with that index, read as the page's check would read it (23, 26): on a leaf that cell, if it carries the row number; on an interior page its child
unfoldable pub cell_step : List ℕ → (u head x i : ℕ) → St.Step
cell_step p u head x i =
    or_refused (cell_fault p u head i)
    (cond (eqb (page_type p head) table_leaf)
    (cond (eqb (cell_of p u head i).row x) (St.Cell i (cell_of p u head i).payload) St.Nothing)
    (St.Child (cell_of p u head i).child))

-- past the last: on a leaf nothing, on an interior page the right child
unfoldable pub end_step : List ℕ → (head : ℕ) → St.Step
end_step p head = cond (eqb (page_type p head) table_leaf) St.Nothing (St.Child (right_pointer p head))

unfoldable pub step_at : List ℕ → (u head x : ℕ) → Sought → St.Step
step_at p u head x (ends i) = cond (ltb i (cell_count p head)) (cell_step p u head x i) (end_step p head)
step_at p u head x (stops number) = St.Refused number

-- what a page says to the search: first its type (22)
unfoldable pub page_step : List ℕ → (u head x : ℕ) → St.Step
page_step p u head x = cond (is_table (page_type p head)) (step_at p u head x (sought_in p u head x)) (St.Refused 22)
