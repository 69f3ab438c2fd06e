-- The fields of a tree page's header, and its cells (01, "One page"). The header begins at `head`, 100 on page 1, else 0; cell pointers count
-- from the page's start. The page has u usable bytes.
use Rattle.std.specs.Prelude.{ℕ, ◌+◌, ◌*◌, Bool, cond, ◌||◌, List, eqb}
use Rattle.number.specs.Bytes.{byte_at, be}
use Rattle.cell.specs.declared.Cell.{Cell}
use Rattle.cell.specs.Split.{index_interior, table_interior, index_leaf, table_leaf}
use Rattle.cell.specs.Cell.{child_width, cell_at}

abbrev pub page_type : List ℕ → (head : ℕ) → ℕ
page_type p head = byte_at p head

abbrev pub first_freeblock : List ℕ → (head : ℕ) → ℕ
first_freeblock p head = be 2 p (head + 1)

abbrev pub cell_count : List ℕ → (head : ℕ) → ℕ
cell_count p head = be 2 p (head + 3)

-- 0 means 65536
abbrev pub start_of : (field : ℕ) → ℕ
start_of field = cond (eqb field 0) 65536 field

abbrev pub content_start : List ℕ → (head : ℕ) → ℕ
content_start p head = start_of (be 2 p (head + 5))

abbrev pub fragment_bytes : List ℕ → (head : ℕ) → ℕ
fragment_bytes p head = byte_at p (head + 7)

-- the right pointer of an interior page; 0 on leaves
abbrev pub right_pointer : List ℕ → (head : ℕ) → ℕ
right_pointer p head = cond (eqb (child_width (page_type p head)) 0) 0 (be 4 p (head + 8))

-- the families of types
abbrev pub is_table : (type : ℕ) → Bool
is_table type = eqb type table_interior || eqb type table_leaf

abbrev pub is_index : (type : ℕ) → Bool
is_index type = eqb type index_interior || eqb type index_leaf

-- the 2-byte cell pointers: where the ith stands, and where their array ends
abbrev pub pointer_place : List ℕ → (head i : ℕ) → ℕ
pointer_place p head i = head + 8 + child_width (page_type p head) + 2 * i

abbrev pub array_end : List ℕ → (head : ℕ) → ℕ
array_end p head = pointer_place p head (cell_count p head)

-- the ith cell pointer, i from 0
abbrev pub pointer : List ℕ → (head i : ℕ) → ℕ
pointer p head i = be 2 p (pointer_place p head i)

-- the ith cell
abbrev pub cell_of : List ℕ → (u head i : ℕ) → Cell
cell_of p u head i = cell_at p u (page_type p head) (pointer p head i)
