-- Pages of an image b that passes refusals 1 to 11, and the cells of those that are read as tree pages.
use Rattle.std.specs.Prelude.{ℕ, ◌+◌, ◌-◌, ◌*◌, ◌/◌, cond, List, eqb}
use Rattle.number.specs.Bytes.{be}
use Rattle.header.specs.Header.{size_of, usable_of, page_of}
use Rattle.cell.specs.declared.Cell.{Cell}
use Rattle.page.specs.Header.{right_pointer, cell_of}

-- the bytes of page p, p from 1
abbrev pub page_in : List ℕ → (p : ℕ) → List ℕ
page_in b p = page_of b (size_of b) p

-- where a tree page's header begins: on page 1 after the image's own header
abbrev pub head_of : (p : ℕ) → ℕ
head_of p = cond (eqb p 1) 100 0

-- cell i of page p, i from 0, in pointer order
unfoldable pub cell_in : List ℕ → (p i : ℕ) → Cell
cell_in b p i = cell_of (page_in b p) (usable_of b) (head_of p) i

-- the right pointer of an interior page p
abbrev pub right_in : List ℕ → (p : ℕ) → ℕ
right_in b p = right_pointer (page_in b p) (head_of p)

-- the freelist: in the image's header the number of its first trunk, then how many pages it has
abbrev pub free_head_in : List ℕ → ℕ
free_head_in b = be 4 b 32

abbrev pub free_total_in : List ℕ → ℕ
free_total_in b = be 4 b 36

-- a trunk: the number of the next trunk, how many leaf pages it names, then their numbers, j from 0
abbrev pub trunk_next_in : List ℕ → (p : ℕ) → ℕ
trunk_next_in b p = be 4 (page_in b p) 0

abbrev pub trunk_count_in : List ℕ → (p : ℕ) → ℕ
trunk_count_in b p = be 4 (page_in b p) 4

abbrev pub trunk_leaf_in : List ℕ → (p j : ℕ) → ℕ
trunk_leaf_in b p j = be 4 (page_in b p) (8 + 4 * j)

-- how many leaf pages a trunk may name
abbrev pub trunk_room_in : List ℕ → ℕ
trunk_room_in b = usable_of b / 4 - 2
