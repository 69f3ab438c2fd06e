-- Worked examples, computed: a good file and one that breaks each rule; then lookup and the cursor.
use mathlib.Core.Path.{◌≡◌, refl}
use mathlib.Core.Bool.{true, false, cond}
use mathlib.Core.List.{List, [], ◌∷◌}
use Prim.Native.Nat.{ℕ, zero, suc, ◌-◌}
use native.Mathlib.Omega.{arith}
use lib.Dec.{eqb}
use lib.IntN.{pos, negsuc}
use lib.ListN.{length, get_or}
use Rattle.order.specs.Order.{Value, number, text, of_lists}
use Rattle.dealing.specs.File.{Cell, Column4, unfit, null, integer, File, is_leaf, is_table, cells_from, cells_of, suits}
use Rattle.dealing.specs.Good.{GoodFileFor}
use Rattle.dealing.specs.Walk.{final, settle, payload_events, agrees, entry_checks, largest_root, kinds_to, verdict_for, verdict_of, is_named}
use Rattle.dealing.specs.Walk.{is_index_root, name_checks, accepted, refusal, finish, run, step, and_then, events, free_events, free_count}
use Rattle.dealing.specs.Walk.{trunk_events, trunk_leaves, root_events, schema_roots, over_children, leaf_roots, page_events, inner_events, inner_cell}
use Rattle.dealing.specs.Walk.{leaf_events, leaf_cell, chain_of, chain_events, first_zero, fault_in}
use Rattle.dealing.specs.Spelling.{long_cells, long_on, long_to, long_by}
use Rattle.dealing.specs.Lookup.{nowhere, shows, refuses, lookup, lookup_page, cell_for, child_for, whole, stops, follow, follow_cell}
use Rattle.dealing.specs.Cursor.{Path, leaf_met, under, child_at, child_met, inner_met, listing, index_for, listing_from, stands_in, after_in, shown_from, step_in}
use Rattle.dealing.specs.Cursor as C
use Rattle.dealing.proofs.Theorems.{accepts}

-- who unfolds this unfolds all that a verdict is computed by
verdict-steps : ℕ
unfolding kinds_to verdict_for is_named name_checks finish final settle run step and_then events free_events free_count trunk_events trunk_leaves
    root_events schema_roots over_children leaf_roots page_events inner_events inner_cell leaf_events leaf_cell payload_events chain_of chain_events
    first_zero is_leaf is_table cells_from cells_of suits fault_in
verdict-steps = 0

-- a page: what it is read as
pub data Sheet : Type 0 where
  tree : (type : ℕ) (cells : List Cell) (right : ℕ) → Sheet
  link : (next : ℕ) → Sheet  -- an overflow page
  trunk : (next : ℕ) (leaves : List ℕ) → Sheet
  broken : (number : ℕ) → Sheet  -- a table leaf that breaks 23 or 26

abbrev type_of : Sheet → ℕ
type_of (tree t cs r) = t
type_of (link n) = 0
type_of (trunk n ls) = 0
type_of (broken n) = 13

abbrev broken_of : Sheet → ℕ
broken_of (tree t cs r) = 0
broken_of (link n) = 0
broken_of (trunk n ls) = 0
broken_of (broken n) = n

abbrev cells_in : Sheet → List Cell
cells_in (tree t cs r) = cs
cells_in (link n) = []
cells_in (trunk n ls) = []
cells_in (broken n) = []

abbrev right_in : Sheet → ℕ
right_in (tree t cs r) = r
right_in (link n) = 0
right_in (trunk n ls) = 0
right_in (broken n) = 0

abbrev next_in : Sheet → ℕ
next_in (tree t cs r) = 0
next_in (link n) = n
next_in (trunk n ls) = n
next_in (broken n) = 0

abbrev leaves_in : Sheet → List ℕ
leaves_in (tree t cs r) = []
leaves_in (link n) = []
leaves_in (trunk n ls) = ls
leaves_in (broken n) = []

-- cells: of a table leaf, all local; with a chain of so many pages; of a table interior page; of an index leaf; of an index interior page with a chain
abbrev plain : (row : ℕ) → Cell
plain r = record { child = 0; row = r; length = 10; links = 0; first = 0; long = 0; reads = true; key = [] }

abbrev long : (row links first : ℕ) → Cell
long r n p = record { child = 0; row = r; length = 900; links = n; first = p; long = 0; reads = true; key = [] }

abbrev inner : (key child : ℕ) → Cell
inner k c = record { child = c; row = k; length = 0; links = 0; first = 0; long = 0; reads = false; key = [] }

abbrev entry : Cell
entry = record { child = 0; row = 0; length = 10; links = 0; first = 0; long = 0; reads = true; key = [] }

abbrev inner_entry : (child first : ℕ) → Cell
inner_entry c p = record { child = c; row = 0; length = 900; links = 1; first = p; long = 0; reads = true; key = [] }

-- the cell, but with a payload that does not read as a record (that of a table interior page has none, and is not read)
abbrev unread : Cell → Cell
unread c = record { child = c.child; row = c.row; length = c.length; links = c.links; first = c.first; long = c.long; reads = false; key = c.key }

-- a file of these pages, with the numbers at 32 and 36 and these column fours on every page
abbrev made : List Sheet → (head total : ℕ) → List Column4 → File
made l head total cols =
    record {
      N = length l;
      free_head = head;
      free_total = total;
      type = λ p. type_of (get_or l (p - 1) (link 0));
      broken = λ p. broken_of (get_or l (p - 1) (link 0));
      count = λ p. length (cells_in (get_or l (p - 1) (link 0)));
      cell = λ p i. get_or (cells_in (get_or l (p - 1) (link 0))) i (plain 0);
      column4 = λ p i. get_or cols i unfit;
      right = λ p. right_in (get_or l (p - 1) (link 0));
      next = λ p. next_in (get_or l (p - 1) (link 0));
      trunk_next = λ p. next_in (get_or l (p - 1) (link 0));
      trunk_count = λ p. length (leaves_in (get_or l (p - 1) (link 0)));
      trunk_leaf = λ p j. get_or (leaves_in (get_or l (p - 1) (link 0))) j 0;
      trunk_room = 3;
      fixed = λ p. 0;
      vacuum = 0;
      entry_type = λ p. 0;
      entry_number = λ p. 0;
    }

abbrev root_at2 : List Column4
root_at2 = integer (pos 2) ∷ []

-- page 1: one schema row, with a chain over page 3, that names root 2. Page 2: a tree of the leaves 6, 7 and 8. Pages 4 and 5: the freelist
abbrev sample : (first next3 : ℕ) (rows : List Cell) (leaf4 head total : ℕ) → File
sample first next3 rows leaf4 head total =
    made
    (tree 13 (long 1 1 first ∷ []) 0
    ∷ tree 5 (inner 10 6 ∷ inner 20 7 ∷ []) 8
    ∷ link next3
    ∷ trunk 0 (leaf4 ∷ [])
    ∷ link 0
    ∷ tree 13 (plain 3 ∷ plain 10 ∷ []) 0
    ∷ tree 13 rows 0
    ∷ tree 13 (plain 21 ∷ []) 0
    ∷ [])
    head total root_at2

-- page 1 with one row, whose column four this is, and page 2
abbrev small : Column4 → Sheet → File
small column page2 = made (tree 13 (plain 1 ∷ []) 0 ∷ page2 ∷ []) 0 0 (column ∷ [])

-- a tree at root 2 with so many levels: 2, 3, 4 ..
unfoldable deep_pages : (levels page : ℕ) → List Sheet
deep_pages zero p = []
deep_pages (suc zero) p = tree 13 [] 0 ∷ []
deep_pages (suc (suc n)) p = tree 5 [] (suc p) ∷ deep_pages (suc n) (suc p)

abbrev deep : (levels : ℕ) → File
deep n = made (tree 13 (plain 1 ∷ []) 0 ∷ deep_pages n 2) 0 0 root_at2

abbrev good : File
good = sample 3 0 (plain 12 ∷ plain 20 ∷ []) 5 4 2

-- every kind of page, a row number equal to the key after it
accepted-one : verdict_of good ≡ accepted (1 ∷ 1 ∷ 4 ∷ 2 ∷ 3 ∷ 6 ∷ 6 ∷ 6 ∷ []) (0 ∷ 1 ∷ 1 ∷ 1 ∷ 4 ∷ 2 ∷ 2 ∷ 2 ∷ [])
unfolding verdict-steps
accepted-one = refl

-- so it has a good dealing, and `Good` can be had
good-one : GoodFileFor [] good
good-one = (accepts [] good (omega arith)).0 (1 ∷ 1 ∷ 4 ∷ 2 ∷ 3 ∷ 6 ∷ 6 ∷ 6 ∷ [], 0 ∷ 1 ∷ 1 ∷ 1 ∷ 4 ∷ 2 ∷ 2 ∷ 2 ∷ [], accepted-one)

-- numbers spelled long: on page 1, on an interior page and on a leaf below it, where a cell has two; not on a page of another kind
abbrev spelled : (row child long : ℕ) → Cell
spelled r c n = record { child = c; row = r; length = 10; links = 0; first = 0; long = n; reads = true; key = [] }

longs : long_by (made (tree 13 (spelled 1 0 1 ∷ plain 2 ∷ []) 0 ∷ tree 5 (spelled 10 3 1 ∷ []) 4 ∷ tree 13 (plain 3 ∷ spelled 10 0 2 ∷ []) 0
    ∷ tree 13 (spelled 11 0 2 ∷ []) 0 ∷ []) 0 0 root_at2)
    (1 ∷ 1 ∷ 6 ∷ 3 ∷ []) ≡ 4
unfolding long_to long_on long_cells
longs = refl

-- null and 0 name no root; an index tree with a chain of two pages from an interior cell, and no order; a tree of 20 levels
accepted-more : (verdict_of (made (tree 13 (plain 1 ∷ plain 2 ∷ []) 0 ∷ []) 0 0 (null ∷ integer (pos 0) ∷ [])) ≡ accepted (1 ∷ []) (0 ∷ []))
    × (verdict_of (made (tree 13 (plain 1 ∷ []) 0 ∷ tree 2 (inner_entry 3 4 ∷ []) 5 ∷ tree 10 (entry ∷ []) 0 ∷ link 0
    ∷ tree 10 (entry ∷ long 0 2 6 ∷ []) 0 ∷ link 7 ∷ link 0 ∷ []) 0 0 root_at2)
    ≡ accepted (1 ∷ 1 ∷ 6 ∷ 4 ∷ 6 ∷ 4 ∷ 5 ∷ []) (0 ∷ 1 ∷ 2 ∷ 2 ∷ 2 ∷ 5 ∷ 6 ∷ []))
    × (verdict_of (deep 20) ≡ accepted (1 ∷ 1 ∷ 6 ∷ 6 ∷ 6 ∷ 6 ∷ 6 ∷ 6 ∷ 6 ∷ 6 ∷ 6 ∷ 6 ∷ 6 ∷ 6 ∷ 6 ∷ 6 ∷ 6 ∷ 6 ∷ 6 ∷ 6 ∷ 6 ∷ [])
    (0 ∷ 1 ∷ 2 ∷ 3 ∷ 4 ∷ 5 ∷ 6 ∷ 7 ∷ 8 ∷ 9 ∷ 10 ∷ 11 ∷ 12 ∷ 13 ∷ 14 ∷ 15 ∷ 16 ∷ 17 ∷ 18 ∷ 19 ∷ 20 ∷ []))
unfolding verdict-steps deep_pages
accepted-more = (refl, refl, refl)

-- 20: the number at 32 is no page, with page 1 as the holder; a trunk's leaf number is 0. 21: the trunk names page 3, which is in a chain; page 1; itself
refused-20-21 : (verdict_of (sample 3 0 (plain 12 ∷ []) 5 9 2) ≡ refusal 20 1)
    × (verdict_of (sample 3 0 (plain 12 ∷ []) 0 4 2) ≡ refusal 20 4)
    × (verdict_of (sample 3 0 (plain 12 ∷ []) 3 4 2) ≡ refusal 21 3)
    × (verdict_of (sample 3 0 (plain 12 ∷ []) 1 4 2) ≡ refusal 21 1)
    × (verdict_of (made (tree 13 [] 0 ∷ trunk 2 [] ∷ []) 2 1 []) ≡ refusal 21 2)
unfolding verdict-steps
refused-20-21 = (refl, refl, refl, refl, refl)

-- so the first of these has no good dealing
not_good : GoodFileFor [] (sample 3 0 (plain 12 ∷ []) 5 9 2) → ⊥
not_good g =
    let a = (accepts [] (sample 3 0 (plain 12 ∷ []) 5 9 2) (omega arith)).1 g in
    let e = a.2 in
    let r = refused-20-21.0 in
    let z : ◌≡◌ {A = ℕ} 0 1 = cc in omega arith

-- 22: page 1 is an index leaf; a root is no tree page; a table's child is an index leaf. 23 and 26: a page by itself
refused-22-23-26 : (verdict_of (made (tree 10 [] 0 ∷ []) 0 0 []) ≡ refusal 22 1)
    × (verdict_of (small (integer (pos 2)) (link 0)) ≡ refusal 22 2)
    × (verdict_of (made (tree 13 (plain 1 ∷ []) 0 ∷ tree 5 [] 3 ∷ tree 10 [] 0 ∷ []) 0 0 root_at2) ≡ refusal 22 3)
    × (verdict_of (small (integer (pos 2)) (broken 23)) ≡ refusal 23 2)
    × (verdict_of (small (integer (pos 2)) (broken 26)) ≡ refusal 26 2)
unfolding verdict-steps
refused-22-23-26 = (refl, refl, refl, refl, refl)

-- 24: page 22 lies at level 21; page 5 lies one level below the leaf 3
refused-24 : (verdict_of (deep 21) ≡ refusal 24 22)
    × (verdict_of (made (tree 13 (plain 1 ∷ []) 0 ∷ tree 5 (inner 10 3 ∷ []) 4 ∷ tree 13 [] 0 ∷ tree 5 [] 5 ∷ tree 13 [] 0 ∷ []) 0 0 root_at2) ≡ refusal 24 5)
unfolding verdict-steps deep_pages
refused-24 = (refl, refl)

-- 25: a row number that is no more than the key before it, or than the row number before it; a key less than a row number before it; two equal keys
refused-25 : (verdict_of (sample 3 0 (plain 10 ∷ []) 5 4 2) ≡ refusal 25 7)
    × (verdict_of (sample 3 0 (plain 12 ∷ plain 12 ∷ []) 5 4 2) ≡ refusal 25 7)
    × (verdict_of (sample 3 0 (plain 12 ∷ plain 21 ∷ []) 5 4 2) ≡ refusal 25 2)
    × (verdict_of
    (made (tree 13 (plain 1 ∷ []) 0 ∷ tree 5 (inner 9 3 ∷ inner 9 4 ∷ []) 5 ∷ tree 13 [] 0 ∷ tree 13 [] 0 ∷ tree 13 [] 0 ∷ []) 0 0 root_at2)
    ≡ refusal 25 2)
unfolding verdict-steps
refused-25 = (refl, refl, refl, refl)

-- 27: no first page; a last page whose next is not zero. 28: unfit; 1; above N; negative
refused-27-28 : (verdict_of (sample 0 0 (plain 12 ∷ []) 5 4 2) ≡ refusal 27 1)
    × (verdict_of (sample 3 5 (plain 12 ∷ []) 5 4 2) ≡ refusal 27 3)
    × (verdict_of (small unfit (link 0)) ≡ refusal 28 1)
    × (verdict_of (small (integer (pos 1)) (link 0)) ≡ refusal 28 1)
    × (verdict_of (small (integer (pos 3)) (link 0)) ≡ refusal 28 1)
    × (verdict_of (small (integer (negsuc 1)) (link 0)) ≡ refusal 28 1)
unfolding verdict-steps
refused-27-28 = (refl, refl, refl, refl, refl, refl)

-- an index at root 2: an entry with a chain over the leaves 3 and 5
abbrev indexed : (over below : Cell) → File
indexed e l = made (tree 13 (plain 1 ∷ []) 0 ∷ tree 2 (e ∷ []) 5 ∷ tree 10 (l ∷ []) 0 ∷ link 0 ∷ tree 10 (entry ∷ []) 0 ∷ []) 0 0 root_at2

-- 28, a record that does not read: on a table leaf, an index leaf, an index interior page; after the row number (25), the child, and the chain (27, 20, 21)
refused-28 : (verdict_of (sample 3 0 (plain 12 ∷ unread (plain 20) ∷ []) 5 4 2) ≡ refusal 28 7)
    × (verdict_of (indexed (inner_entry 3 4) entry) ≡ accepted (1 ∷ 1 ∷ 6 ∷ 4 ∷ 6 ∷ []) (0 ∷ 1 ∷ 2 ∷ 2 ∷ 2 ∷ []))
    × (verdict_of (indexed (inner_entry 3 4) (unread entry)) ≡ refusal 28 3)
    × (verdict_of (indexed (unread (inner_entry 3 4)) entry) ≡ refusal 28 2)
    × (verdict_of (indexed (unread (inner_entry 3 4)) (unread entry)) ≡ refusal 28 3)
    × (verdict_of (sample 3 0 (plain 12 ∷ unread (plain 12) ∷ []) 5 4 2) ≡ refusal 25 7)
    × (verdict_of (indexed (unread (inner_entry 3 0)) entry) ≡ refusal 27 2)
    × (verdict_of (indexed (unread (inner_entry 3 6)) entry) ≡ refusal 20 2)
    × (verdict_of (indexed (unread (inner_entry 3 3)) entry) ≡ refusal 21 3)
unfolding verdict-steps
refused-28 = (refl, refl, refl, refl, refl, refl, refl, refl, refl)

-- 29: the total; a trunk with more leaves than room. 30: the lowest page that is never named
refused-29-30 : (verdict_of (sample 3 0 (plain 12 ∷ []) 5 4 3) ≡ refusal 29 1)
    × (verdict_of (made (tree 13 [] 0 ∷ trunk 0 (3 ∷ 3 ∷ 3 ∷ 3 ∷ []) ∷ link 0 ∷ []) 2 5 []) ≡ refusal 29 2)
    × (verdict_of (made (tree 13 [] 0 ∷ link 0 ∷ trunk 0 [] ∷ link 0 ∷ []) 3 1 []) ≡ refusal 30 2)
unfolding verdict-steps
refused-29-30 = (refl, refl, refl)

-- lookup: a row, no row, a root outside 1 to N, an index page; a chain followed
looked-up : (lookup good 2 20 ≡ shows 7 1 10)
    × (lookup good 2 11 ≡ nowhere)
    × (lookup good 9 11 ≡ refuses 20 0)
    × (lookup (made (tree 13 [] 0 ∷ tree 10 [] 0 ∷ []) 0 0 []) 2 11 ≡ refuses 22 2)
    × (lookup (deep 21) 2 11 ≡ refuses 24 22)
    × (follow_cell good 1 1 3 ≡ whole)
    × (follow_cell good 1 2 3 ≡ stops 27 3)
unfolding lookup lookup_page cell_for child_for follow follow_cell is_leaf is_table cells_from cells_of suits fault_in deep_pages
looked-up = (refl, refl, refl, refl, refl, refl, refl)

-- The cursor. Page 2 over the leaves 3 and 4, with a key of 10; a path from it.
abbrev over : (first second : Sheet) → File
over a b = made (tree 13 (plain 1 ∷ []) 0 ∷ tree 5 (inner 10 3 ∷ []) 4 ∷ a ∷ b ∷ []) 0 0 root_at2

abbrev by2 : (child page index : ℕ) → Path
by2 i q j = record { above = (2, i) ∷ []; page = q; index = j }

-- from the first row to the end; an empty leaf is passed over; a table without rows; a root outside 1 to N, an index page
listed : (C.first good 2 ≡ C.at (by2 0 6 0))
    × (C.step good (by2 0 6 0) ≡ C.at (by2 0 6 1))
    × (C.step good (by2 0 6 1) ≡ C.at (by2 1 7 0))
    × (C.step good (by2 2 8 0) ≡ C.end)
    × (C.first (over (tree 13 [] 0) (tree 13 (plain 12 ∷ []) 0)) 2 ≡ C.at (by2 1 4 0))
    × (C.first (over (tree 13 [] 0) (tree 13 [] 0)) 2 ≡ C.end)
    × (C.first good 9 ≡ C.refuses 20 0)
    × (C.first (made (tree 13 [] 0 ∷ tree 10 [] 0 ∷ []) 0 0 []) 2 ≡ C.refuses 22 2)
unfolding C.first step_in shown_from listing leaf_met inner_met child_met under child_at stands_in after_in is_leaf is_table suits fault_in
listed = (refl, refl, refl, refl, refl, refl, refl, refl)

-- seek: the number itself, the next one, past the last; a key that is large enough over a
-- child whose rows are not; smaller rows on a later leaf are passed over
sought : (C.seek good 2 10 ≡ C.at (by2 0 6 1))
    × (C.seek good 2 11 ≡ C.at (by2 1 7 0))
    × (C.seek good 2 22 ≡ C.end)
    × (C.seek (over (tree 13 (plain 5 ∷ []) 0) (tree 13 (plain 11 ∷ []) 0)) 2 8 ≡ C.at (by2 1 4 0))
    × (C.seek (over (tree 13 (plain 5 ∷ []) 0) (tree 13 (plain 2 ∷ plain 11 ∷ []) 0)) 2 8 ≡ C.at (by2 1 4 1))
unfolding C.seek shown_from listing listing_from index_for leaf_met inner_met child_met under child_at is_leaf is_table suits fault_in
sought = (refl, refl, refl, refl, refl)

-- a page newly entered keeps its refusal: a broken leaf, a child out of range, level 21. 49: an index past the last, a
-- child that is not the next page, an interior page at the end, a page on the path that is broken
met : (C.step (over (tree 13 (plain 5 ∷ []) 0) (broken 23)) (by2 0 3 0) ≡ C.refuses 23 4)
    × (C.step (made (tree 13 (plain 1 ∷ []) 0 ∷ tree 5 (inner 10 3 ∷ []) 9 ∷ tree 13 (plain 5 ∷ []) 0 ∷ []) 0 0 root_at2) (by2 0 3 0) ≡ C.refuses 20 2)
    × (C.first (deep 21) 2 ≡ C.refuses 24 22)
    × (C.step good (by2 0 6 2) ≡ C.refuses 49 0)
    × (C.step good (by2 0 7 0) ≡ C.refuses 49 0)
    × (C.step good (record { above = []; page = 2; index = 0 }) ≡ C.refuses 49 0)
    × (C.step (over (tree 13 (plain 5 ∷ []) 0) (broken 23)) (by2 1 4 0) ≡ C.refuses 49 0)
unfolding C.first step_in shown_from listing leaf_met inner_met child_met under child_at stands_in after_in is_leaf is_table suits fault_in deep_pages
met = (refl, refl, refl, refl, refl, refl, refl)

-- Several faults at once: the answer is the one that the order of the rules gives.
order-tree : (verdict_of (made (tree 5 [] 1 ∷ []) 0 0 []) ≡ refusal 21 1)
    × (verdict_of (made (tree 5 [] 0 ∷ []) 0 0 []) ≡ refusal 20 1)
    × (verdict_of (made (tree 5 (inner 10 2 ∷ []) 2 ∷ tree 13 [] 0 ∷ []) 0 0 []) ≡ refusal 21 2)
    × (verdict_of (made (tree 13 (plain 1 ∷ []) 0 ∷ tree 2 [] 3 ∷ broken 23 ∷ []) 0 0 root_at2) ≡ refusal 22 3)
    × (verdict_of (made (tree 13 (plain 1 ∷ []) 0 ∷ tree 5 (inner 10 3 ∷ []) 4 ∷ tree 13 [] 0 ∷ tree 5 [] 5 ∷ broken 23 ∷ []) 0 0 root_at2) ≡ refusal 23 5)
    × (verdict_of
    (made (tree 13 (plain 1 ∷ []) 0 ∷ tree 5 (inner 10 3 ∷ []) 4 ∷ tree 13 [] 0 ∷ tree 5 [] 5 ∷ tree 13 (plain 3 ∷ []) 0 ∷ []) 0 0 root_at2)
    ≡ refusal 24 5)
    × (verdict_of (made (tree 13 (plain 1 ∷ []) 0 ∷ tree 13 (plain 5 ∷ long 5 1 0 ∷ []) 0 ∷ []) 0 0 root_at2) ≡ refusal 25 2)
    × (verdict_of (made (tree 13 (long 1 1 0 ∷ []) 0 ∷ []) 0 0 (unfit ∷ [])) ≡ refusal 27 1)
    × (verdict_of (made (tree 13 (plain 2 ∷ plain 1 ∷ []) 0 ∷ []) 0 0 (unfit ∷ null ∷ [])) ≡ refusal 28 1)
    × (verdict_of (made (tree 13 (long 1 2 2 ∷ []) 0 ∷ link 9 ∷ []) 0 0 (null ∷ [])) ≡ refusal 20 2)
    × (verdict_of (made (tree 13 (long 1 2 2 ∷ []) 0 ∷ link 2 ∷ []) 0 0 (null ∷ [])) ≡ refusal 21 2)
    × (verdict_of (made (tree 13 (long 1 2 2 ∷ []) 0 ∷ link 3 ∷ link 9 ∷ []) 0 0 (null ∷ [])) ≡ refusal 27 3)
    × (verdict_of (made (tree 13 (plain 1 ∷ []) 0 ∷ tree 5 (inner 10 3 ∷ inner 5 4 ∷ []) 5 ∷ tree 13 [] 0 ∷ broken 23 ∷ broken 26 ∷ []) 0 0 root_at2)
    ≡ refusal 23 4)
    × (verdict_of (made (tree 13 (plain 1 ∷ []) 0 ∷ tree 5 (inner 10 3 ∷ inner 5 4 ∷ []) 5 ∷ tree 13 [] 0 ∷ tree 13 [] 0 ∷ broken 26 ∷ []) 0 0 root_at2)
    ≡ refusal 25 2)
    × (verdict_of (made (tree 13 (plain 1 ∷ []) 0 ∷ tree 5 (inner 10 3 ∷ inner 11 4 ∷ []) 0 ∷ tree 13 [] 0 ∷ tree 13 [] 0 ∷ []) 0 0 root_at2) ≡ refusal 20 2)
    × (verdict_of (made (tree 13 (plain 1 ∷ []) 0 ∷ tree 2 (inner_entry 3 0 ∷ []) 4 ∷ tree 10 [] 0 ∷ broken 23 ∷ []) 0 0 root_at2) ≡ refusal 27 2)
    × (verdict_of (made (tree 13 (plain 1 ∷ []) 0 ∷ tree 2 (inner_entry 3 0 ∷ []) 4 ∷ tree 5 [] 0 ∷ broken 23 ∷ []) 0 0 root_at2) ≡ refusal 22 3)
unfolding verdict-steps
order-tree = (refl, refl, refl, refl, refl, refl, refl, refl, refl, refl, refl, refl, refl, refl, refl, refl, refl)

-- level before type: 20 levels of interior pages, then an index leaf
unfoldable deep_odd : (levels page : ℕ) → List Sheet
deep_odd zero p = tree 10 [] 0 ∷ []
deep_odd (suc n) p = tree 5 [] (suc p) ∷ deep_odd n (suc p)

order-level : (verdict_of (made (tree 13 (plain 1 ∷ []) 0 ∷ deep_odd 20 2) 0 0 root_at2) ≡ refusal 24 22)
    × (verdict_of (made (tree 13 (plain 1 ∷ []) 0 ∷ deep_odd 19 2) 0 0 root_at2) ≡ refusal 22 21)
unfolding verdict-steps deep_odd
order-level = (refl, refl)

-- schema tree, freelist, roots in schema row order; the lowest page that is never named
order-parts : (verdict_of (made (tree 13 (plain 1 ∷ []) 0 ∷ broken 23 ∷ []) 9 0 root_at2) ≡ refusal 20 1)
    × (verdict_of (made (tree 13 (plain 1 ∷ []) 0 ∷ trunk 0 [] ∷ []) 2 1 root_at2) ≡ refusal 21 2)
    × (verdict_of (made (tree 13 (plain 1 ∷ []) 0 ∷ trunk 0 [] ∷ []) 9 1 (unfit ∷ [])) ≡ refusal 28 1)
    × (verdict_of (made (tree 13 [] 0 ∷ trunk 2 (3 ∷ []) ∷ trunk 0 (1 ∷ 1 ∷ 1 ∷ 1 ∷ []) ∷ []) 2 1 []) ≡ refusal 21 2)
    × (verdict_of (made (tree 13 [] 0 ∷ trunk 0 (9 ∷ 9 ∷ 9 ∷ 9 ∷ []) ∷ []) 2 1 []) ≡ refusal 29 2)
    × (verdict_of (made (tree 13 [] 0 ∷ trunk 9 (2 ∷ []) ∷ []) 2 1 []) ≡ refusal 21 2)
    × (verdict_of (made (tree 13 [] 0 ∷ trunk 9 [] ∷ []) 2 7 []) ≡ refusal 20 2)
    × (verdict_of (made (tree 13 (plain 1 ∷ []) 0 ∷ broken 23 ∷ []) 0 1 root_at2) ≡ refusal 29 1)
    × (verdict_of (made (tree 13 (plain 1 ∷ []) 0 ∷ link 0 ∷ broken 23 ∷ []) 0 0 (integer (pos 3) ∷ [])) ≡ refusal 23 3)
    × (verdict_of (made (tree 13 (plain 1 ∷ plain 2 ∷ []) 0 ∷ broken 23 ∷ broken 26 ∷ []) 0 0 (integer (pos 3) ∷ integer (pos 2) ∷ [])) ≡ refusal 26 3)
    × (verdict_of (made (tree 13 (plain 1 ∷ plain 2 ∷ []) 0 ∷ broken 23 ∷ []) 0 0 (integer (pos 2) ∷ integer (pos 2) ∷ [])) ≡ refusal 23 2)
    × (verdict_of (made (tree 13 (plain 1 ∷ plain 2 ∷ []) 0 ∷ tree 13 [] 0 ∷ []) 0 0 (integer (pos 2) ∷ integer (pos 2) ∷ [])) ≡ refusal 21 2)
    × (verdict_of (made (tree 13 (plain 1 ∷ long 2 1 2 ∷ []) 0 ∷ link 0 ∷ []) 0 0 (integer (pos 2) ∷ null ∷ [])) ≡ refusal 21 2)
    × (verdict_of (made (tree 13 (plain 1 ∷ []) 0 ∷ tree 13 [] 0 ∷ link 0 ∷ link 0 ∷ []) 0 0 root_at2) ≡ refusal 30 3)
    × (verdict_of (made (tree 13 [] 0 ∷ trunk 0 [] ∷ []) 0 0 []) ≡ refusal 30 2)
unfolding verdict-steps
order-parts = (refl, refl, refl, refl, refl, refl, refl, refl, refl, refl, refl, refl, refl, refl, refl)

-- a file with that number at 52, these kinds by place, and these entries about the pages from 3 on
abbrev placed : (fixed : ℕ → ℕ) → File → (vacuum : ℕ) → List (ℕ × ℕ) → File
placed fixed f v es =
    record {
      N = f.N;
      free_head = f.free_head;
      free_total = f.free_total;
      type = f.type;
      broken = f.broken;
      count = f.count;
      cell = f.cell;
      column4 = f.column4;
      right = f.right;
      next = f.next;
      trunk_next = f.trunk_next;
      trunk_count = f.trunk_count;
      trunk_leaf = f.trunk_leaf;
      trunk_room = f.trunk_room;
      fixed = fixed;
      vacuum = v;
      entry_type = λ p. (get_or es (p - 3) (0, 0)).0;
      entry_number = λ p. (get_or es (p - 3) (0, 0)).1;
    }

-- page 2 is a pointer map
abbrev mapped : File → (vacuum : ℕ) → List (ℕ × ℕ) → File
mapped = placed (λ p. cond (eqb p 2) 1 0)

-- page 3 is the lock-byte page, and there are no maps; page 2 is a map too
abbrev locked : File → File
locked f = placed (λ p. cond (eqb p 3) 2 0) f 0 []

abbrev locked_mapped : File → (vacuum : ℕ) → List (ℕ × ℕ) → File
locked_mapped = placed (λ p. cond (eqb p 2) 1 (cond (eqb p 3) 2 0))

-- page 1: one schema row, with a chain over pages 4 and 9, that names root 3. Page 3: a tree of the leaves 7 and 8. Pages 5 and 6: the freelist
abbrev mapped_sheets : (child3 leaf5 : ℕ) → List Sheet
mapped_sheets child3 leaf5 =
    tree 13 (long 1 2 4 ∷ []) 0
    ∷ link 0
    ∷ tree 5 (inner 10 child3 ∷ []) 8
    ∷ link 9
    ∷ trunk 0 (leaf5 ∷ [])
    ∷ link 0
    ∷ tree 13 (plain 3 ∷ []) 0
    ∷ tree 13 (plain 12 ∷ []) 0
    ∷ link 0
    ∷ []

abbrev with_map : (vacuum : ℕ) → List (ℕ × ℕ) → File
with_map v es = mapped (made (mapped_sheets 7 6) 5 2 (integer (pos 3) ∷ [])) v es

abbrev entries_of : (six nine : ℕ × ℕ) → List (ℕ × ℕ)
entries_of six nine = (1, 0) ∷ (3, 1) ∷ (2, 0) ∷ six ∷ (5, 3) ∷ (5, 3) ∷ nine ∷ []

abbrev map_entries : List (ℕ × ℕ)
map_entries = entries_of (2, 0) (4, 4)

-- every kind of page; a map that is page N; one page alone, with no map
accepted-maps : (verdict_of (with_map 3 map_entries) ≡ accepted (1 ∷ 7 ∷ 1 ∷ 4 ∷ 2 ∷ 3 ∷ 6 ∷ 6 ∷ 5 ∷ []) (0 ∷ 0 ∷ 1 ∷ 1 ∷ 1 ∷ 5 ∷ 3 ∷ 3 ∷ 4 ∷ []))
    × (verdict_of (mapped (made (tree 13 [] 0 ∷ link 0 ∷ []) 0 0 []) 1 []) ≡ accepted (1 ∷ 7 ∷ []) (0 ∷ 0 ∷ []))
    × (verdict_of (mapped (made (tree 13 [] 0 ∷ []) 0 0 []) 1 []) ≡ accepted (1 ∷ []) (0 ∷ []))
unfolding verdict-steps agrees entry_checks largest_root
accepted-maps = (refl, refl, refl)

-- so it has a good dealing, and `Good` can be had with maps
good-maps : GoodFileFor [] (with_map 3 map_entries)
good-maps =
    (accepts [] (with_map 3 map_entries) (omega arith)).0
    (1 ∷ 7 ∷ 1 ∷ 4 ∷ 2 ∷ 3 ∷ 6 ∷ 6 ∷ 5 ∷ [], 0 ∷ 0 ∷ 1 ∷ 1 ∷ 1 ∷ 5 ∷ 3 ∷ 3 ∷ 4 ∷ [], accepted-maps.0)

-- 31: the type; the number, the trunk's on its free leaf; both; the lowest of two, and before 32. 32: below the largest root, above it, above N
refused-31-32 : (verdict_of (with_map 3 (entries_of (1, 0) (4, 4))) ≡ refusal 31 6)
    × (verdict_of (with_map 3 (entries_of (2, 5) (4, 4))) ≡ refusal 31 6)
    × (verdict_of (with_map 3 (entries_of (2, 0) (3, 1))) ≡ refusal 31 9)
    × (verdict_of (with_map 4 (entries_of (5, 5) (4, 1))) ≡ refusal 31 6)
    × (verdict_of (with_map 1 map_entries) ≡ refusal 32 1)
    × (verdict_of (with_map 4 map_entries) ≡ refusal 32 1)
    × (verdict_of (with_map 10 map_entries) ≡ refusal 32 1)
    × (verdict_of (mapped (made (tree 13 [] 0 ∷ []) 0 0 []) 2 []) ≡ refusal 32 1)
unfolding verdict-steps agrees entry_checks largest_root
refused-31-32 = (refl, refl, refl, refl, refl, refl, refl, refl)

-- a child, a free leaf, a trunk and a root that name a map are 21; a page that is never named is 30, before 31
refused-maps : (verdict_of (mapped (made (mapped_sheets 2 6) 5 2 (integer (pos 3) ∷ [])) 3 map_entries) ≡ refusal 21 2)
    × (verdict_of (mapped (made (mapped_sheets 7 2) 5 2 (integer (pos 3) ∷ [])) 3 map_entries) ≡ refusal 21 2)
    × (verdict_of (mapped (made (mapped_sheets 7 6) 2 2 (integer (pos 3) ∷ [])) 3 map_entries) ≡ refusal 21 2)
    × (verdict_of (mapped (made (mapped_sheets 7 6) 5 2 (integer (pos 2) ∷ [])) 3 map_entries) ≡ refusal 21 2)
    × (verdict_of (mapped (made (tree 13 [] 0 ∷ link 0 ∷ link 0 ∷ []) 0 0 []) 9 []) ≡ refusal 30 3)
unfolding verdict-steps agrees entry_checks largest_root
refused-maps = (refl, refl, refl, refl, refl)

-- the lock-byte page has kind 8 and no namer, with maps and without; no entry about it is read,
-- and 30 passes over it. A free leaf, a root and a child that name it are 21
locks : (verdict_of (locked (made (tree 13 [] 0 ∷ trunk 0 (4 ∷ []) ∷ broken 23 ∷ link 0 ∷ []) 2 2 [])) ≡ accepted (1 ∷ 2 ∷ 8 ∷ 3 ∷ []) (0 ∷ 1 ∷ 0 ∷ 2 ∷ []))
    × (verdict_of (locked_mapped (made (tree 13 [] 0 ∷ link 0 ∷ broken 23 ∷ trunk 0 [] ∷ []) 4 1 []) 1 ((9, 9) ∷ (2, 0) ∷ []))
    ≡ accepted (1 ∷ 7 ∷ 8 ∷ 2 ∷ []) (0 ∷ 0 ∷ 0 ∷ 1 ∷ []))
    × (verdict_of (locked_mapped (made (tree 13 [] 0 ∷ link 0 ∷ broken 23 ∷ trunk 0 [] ∷ []) 4 1 []) 1 ((9, 9) ∷ (5, 0) ∷ [])) ≡ refusal 31 4)
    × (verdict_of (locked (made (tree 13 [] 0 ∷ trunk 0 [] ∷ broken 23 ∷ link 0 ∷ []) 2 1 [])) ≡ refusal 30 4)
    × (verdict_of (locked (made (tree 13 [] 0 ∷ trunk 0 (3 ∷ []) ∷ link 0 ∷ []) 2 2 [])) ≡ refusal 21 3)
    × (verdict_of (locked (made (tree 13 (plain 1 ∷ []) 0 ∷ trunk 0 [] ∷ tree 13 [] 0 ∷ []) 2 1 (integer (pos 3) ∷ []))) ≡ refusal 21 3)
    × (verdict_of (locked (made (tree 5 [] 3 ∷ trunk 0 [] ∷ tree 13 [] 0 ∷ []) 2 1 [])) ≡ refusal 21 3)
unfolding verdict-steps agrees entry_checks largest_root
locks = (refl, refl, refl, refl, refl, refl, refl)

-- order, where the caller names root 2: an index tree with a record on its interior page, and the records on its leaves
abbrev keyed : (child : ℕ) → List Value → Cell
keyed c v = record { child = c; row = 0; length = 10; links = 0; first = 0; long = 0; reads = true; key = v }

abbrev numbered : ℕ → List Value
numbered n = number (pos n) ∷ []

abbrev index : (left middle right : List Value) → File
index a b c =
    made (tree 13 (plain 1 ∷ []) 0 ∷ tree 2 (keyed 3 b ∷ []) 4 ∷ tree 10 (keyed 0 (numbered 1) ∷ keyed 0 a ∷ []) 0 ∷ tree 10 (keyed 0 c ∷ []) 0 ∷ [])
    0 0 root_at2

-- rising, the root named once and twice; a record that ends first is the lesser; not rising, and no root named
in_order : (verdict_for (2 ∷ []) (index (numbered 2) (numbered 3) (numbered 4)) ≡ accepted (1 ∷ 1 ∷ 6 ∷ 6 ∷ []) (0 ∷ 1 ∷ 2 ∷ 2 ∷ []))
    × (verdict_for (2 ∷ 2 ∷ []) (index (numbered 2) (numbered 3) (numbered 4)) ≡ accepted (1 ∷ 1 ∷ 6 ∷ 6 ∷ []) (0 ∷ 1 ∷ 2 ∷ 2 ∷ []))
    × (verdict_for (2 ∷ []) (index (numbered 2) (number (pos 2) ∷ text [] ∷ []) (text [] ∷ [])) ≡ accepted (1 ∷ 1 ∷ 6 ∷ 6 ∷ []) (0 ∷ 1 ∷ 2 ∷ 2 ∷ []))
    × (verdict_of (index (numbered 1) (numbered 1) (numbered 1)) ≡ accepted (1 ∷ 1 ∷ 6 ∷ 6 ∷ []) (0 ∷ 1 ∷ 2 ∷ 2 ∷ []))
unfolding verdict-steps is_index_root of_lists
in_order = (refl, refl, refl, refl)

-- so `GoodFor` can be had for a name
good-named : GoodFileFor (2 ∷ []) (index (numbered 2) (numbered 3) (numbered 4))
good-named = (accepts (2 ∷ []) (index (numbered 2) (numbered 3) (numbered 4)) (omega arith)).0 (1 ∷ 1 ∷ 6 ∷ 6 ∷ [], 0 ∷ 1 ∷ 2 ∷ 2 ∷ [], in_order.0)

-- 33: equal records on a leaf; the interior record not above what is left of it; what is right of it not above
-- it. 35: 0, page 1, a page that is no root, one past N; the first of two, after the good name
refused-33-35 : (verdict_for (2 ∷ []) (index (numbered 1) (numbered 3) (numbered 4)) ≡ refusal 33 3)
    × (verdict_for (2 ∷ []) (index (numbered 3) (numbered 3) (numbered 4)) ≡ refusal 33 2)
    × (verdict_for (2 ∷ []) (index (numbered 2) (numbered 5) (numbered 4)) ≡ refusal 33 4)
    × (verdict_for (0 ∷ []) (index (numbered 2) (numbered 3) (numbered 4)) ≡ refusal 35 0)
    × (verdict_for (1 ∷ []) (index (numbered 2) (numbered 3) (numbered 4)) ≡ refusal 35 1)
    × (verdict_for (3 ∷ []) (index (numbered 2) (numbered 3) (numbered 4)) ≡ refusal 35 3)
    × (verdict_for (2 ∷ 9 ∷ 0 ∷ []) (index (numbered 2) (numbered 3) (numbered 4)) ≡ refusal 35 9)
    × (verdict_for (2 ∷ []) (small (integer (pos 2)) (tree 13 (plain 1 ∷ []) 0)) ≡ refusal 35 2)
unfolding verdict-steps is_index_root of_lists
refused-33-35 = (refl, refl, refl, refl, refl, refl, refl, refl)
