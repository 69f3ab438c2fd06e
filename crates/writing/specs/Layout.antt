-- The whole file: which pages it has, in the order of their numbers. Page 1 holds the schema row; then the tree, level by level from its root, page 2, down; then
-- the overflow pages of the rows in their order, each chain side by side. Pages have 1024 bytes, all of them used.
use Rattle.std.specs.Prelude.{ℕ, ◌+◌, cond, List, [], ◌∷◌, ◌++◌, map, ltb, ℤ, pos, length, replicate}
use Rattle.header.specs.Header.{magic}
use Rattle.writing.specs.Cells.{be_bytes}
use Rattle.writing.specs.Pages.{joined}
use Rattle.writing.specs.Rows.{Row, Child, leaf_page, inner_page, rest_of, links_of, chain_of}
use Rattle.writing.specs.Groups.{flat, front, group_leaves, group_children}

abbrev pub size : ℕ
size = 1024

-- the rows, each with the first page of its chain, the chains standing side by side from page t on; a row without a chain has the number of the next
unfoldable pub with_firsts : (t : ℕ) → List Row → List Row
with_firsts t [] = []
with_firsts t (r ∷ rs) =
    record { number = r.number; payload = r.payload; first = t } ∷ with_firsts (t + links_of size r.payload) rs

-- all overflow pages
unfoldable pub chains_of : List Row → List (List ℕ)
chains_of [] = []
chains_of (r ∷ rs) = chain_of size (links_of size r.payload) r.first (rest_of size r.payload) ++ chains_of rs

-- how many they are
unfoldable pub links_all : List Row → ℕ
links_all [] = 0
links_all (r ∷ rs) = links_of size r.payload + links_all rs

-- the largest row number on a leaf, and under an interior page: the last
unfoldable pub last_number : List Row → ℤ
last_number [] = pos 0
last_number (r ∷ []) = r.number
last_number (r ∷ s ∷ rs) = last_number (s ∷ rs)

unfoldable pub last_child : List Child → Child
last_child [] = record { page = 0; key = pos 0 }
last_child (c ∷ []) = c
last_child (c ∷ d ∷ cs) = last_child (d ∷ cs)

-- leaves, or interior pages, side by side from page t on: as children
unfoldable pub leaf_children : (t : ℕ) → List (List Row) → List Child
leaf_children t [] = []
leaf_children t (g ∷ gs) = record { page = t; key = last_number g } ∷ leaf_children (t + 1) gs

unfoldable pub inner_children : (t : ℕ) → List (List Child) → List Child
inner_children t [] = []
inner_children t (g ∷ gs) = record { page = t; key = (last_child g).key } ∷ inner_children (t + 1) gs

-- interior pages just above the leaves, if these stand from page t on
abbrev pub above_leaves : (t : ℕ) → List (List Row) → List (List Child)
above_leaves t leaves = group_children size (leaf_children t leaves)

-- the levels of interior pages, from the root down: an only leaf is the root; else one page above the leaves is; else the root stands above those
unfoldable pub levels_of : List (List Row) → List (List (List Child))
levels_of leaves =
    cond (ltb (length leaves) 2) []
    (cond (ltb (length (above_leaves 0 leaves)) 2) (above_leaves 3 leaves ∷ [])
    (group_children size (inner_children 3 (above_leaves (3 + length (above_leaves 0 leaves)) leaves)) ∷ above_leaves (3 + length (above_leaves 0 leaves)) leaves ∷ []))

-- how many pages the tree has
abbrev pub tree_size : List (List Row) → ℕ
tree_size leaves = length (flat (levels_of leaves)) + length leaves

-- the leaves: rows are grouped first, which does not look at the chains; these begin behind the tree
unfoldable pub leaves_of : List Row → List (List Row)
leaves_of rows = group_leaves size (with_firsts (2 + tree_size (group_leaves size rows)) rows)

-- an interior page: its last child is the right one
abbrev pub child_page : List Child → List ℕ
child_page g = inner_page size (front g) (last_child g).page

-- the file's own header, for n pages
unfoldable pub file_header : (n : ℕ) → List ℕ
file_header n =
    magic ++ (be_bytes 2 size ++ ((1 ∷ 1 ∷ 0 ∷ 64 ∷ 32 ∷ 32 ∷ []) ++ (be_bytes 4 1 ++ (be_bytes 4 n ++ (be_bytes 4 0 ++ (be_bytes 4 0 ++ (be_bytes 4 1
    ++ (be_bytes 4 4 ++ (be_bytes 4 0 ++ (be_bytes 4 0 ++ (be_bytes 4 1 ++ (replicate 32 0 ++ (be_bytes 4 1 ++ be_bytes 4 0)))))))))))))

abbrev pub schema_row : (schema : List ℕ) → Row
schema_row schema = record { number = pos 1; payload = schema; first = 0 }

abbrev pub first_page : (n : ℕ) (schema : List ℕ) → List ℕ
first_page n schema = leaf_page size (file_header n) (schema_row schema ∷ [])

-- the tree's pages, then the chains
abbrev pub tree_pages : List (List Row) → List (List ℕ)
tree_pages leaves = map child_page (flat (levels_of leaves)) ++ map (leaf_page size []) leaves

unfoldable pub later_pages : List Row → List (List ℕ)
later_pages rows = tree_pages (leaves_of rows) ++ chains_of (flat (leaves_of rows))

unfoldable pub image_pages : (schema : List ℕ) → List Row → List (List ℕ)
image_pages schema rows = first_page (1 + length (later_pages rows)) schema ∷ later_pages rows

unfoldable pub image_of : (schema : List ℕ) → List Row → List ℕ
image_of schema rows = joined (image_pages schema rows)
