-- Good files: dealings, and what makes one good. Nothing of the walk is in it. Definitions only; the numbers are those of the refusals.
-- File says how to read it.
use Rattle.std.specs.Prelude.{◌≡◌, Bool, true, false, cond, ◌≢◌, ◌⊎◌, ℕ, zero, suc, ◌+◌, ◌≤◌, ◌<◌, eqb, pos, negsuc}
use mathlib.Core.List.{List, [], ◌∷◌, ◌++◌, Memᴰ as Mem}
use Rattle.order.specs.Order.{Value, less, of_records}
use Rattle.dealing.specs.File.{Cell, Column4, unfit, null, integer, File, Page, Nameable, Fixed, is_leaf, is_table, index_type, Leaf, Interior}
use Rattle.dealing.specs.File.{HasPayload, cells_of, Place, schema_root, any_root, child_place, suits}
use Rattle.dealing.specs.File.{root_kind, trunk_kind, free_kind, first_kind, later_kind, tree_kind, level_limit}

-- A dealing gives each page of 1 to N a kind, a namer and a step number.
pub record Dealing : Type 0 where
  pub kind : ℕ → ℕ  -- 1 root, 2 trunk, 3 free leaf, 4 first overflow, 5 later overflow, 6 other tree page; 7 pointer map, 8 lock-byte page
  pub namer : ℕ → ℕ
  pub step : ℕ → ℕ

-- a tree page is a root or another tree page
abbrev pub TreePage : Dealing → ℕ → Type 0
TreePage d q = (d.kind q ≡ root_kind) ⊎ (d.kind q ≡ tree_kind)

-- A root's tree is the root and each page of kind 6 whose namer is in it, one level past that namer: page q is in r's tree, at that level.
abbrev pub InTree : File → Dealing → (r level q : ℕ) → Type 0
InTree f d r zero q = ⊥  -- there is no level 0
InTree f d r (suc zero) q = q ≡ r  -- level 1 is the root alone
InTree f d r (suc (suc n)) q = Nameable f q × (d.kind q ≡ tree_kind) × InTree f d r (suc n) (d.namer q)

-- the cell with index j of page q is a leaf cell of r's tree
abbrev pub LeafCell : File → Dealing → (r q j : ℕ) → Type 0
LeafCell f d r q j = ((level : ℕ) × InTree f d r level q) × Leaf f q × (j < f.count q)

-- the places of a page where a pointer can stand
pub data Slot : Type 0 where
  child_slot : (cell : ℕ) → Slot  -- an interior cell's child
  right_slot : Slot  -- an interior page's right pointer
  chain_slot : (cell : ℕ) → Slot  -- a cell's first overflow page
  root_slot : (cell : ℕ) → Slot  -- column four of a schema row
  head_slot : Slot  -- the number at 32
  leaf_slot : (index : ℕ) → Slot  -- a leaf page number of a trunk
  next_slot : Slot  -- the next of a trunk or of an overflow page

-- Page q, by its kind, has a pointer in that slot: it names page t, and the kind that it gives is k.
-- Null in column four is no pointer, nor is 0 there, at 32 or in a next.
abbrev pub PointsTo : File → Dealing → (q : ℕ) → Slot → (t k : ℕ) → Type 0
PointsTo f d q (child_slot j) t k = TreePage d q × Interior f q × (j < f.count q) × (t ≡ (f.cell q j).child) × (k ≡ tree_kind)
PointsTo f d q right_slot t k = TreePage d q × Interior f q × (t ≡ f.right q) × (k ≡ tree_kind)
PointsTo f d q (chain_slot j) t k =
    TreePage d q × HasPayload f q × (j < f.count q) × (1 ≤ (f.cell q j).links) × (t ≡ (f.cell q j).first) × (k ≡ first_kind)
PointsTo f d q (root_slot j) t k =
    LeafCell f d 1 q j × (f.column4 q j ≡ integer (pos t)) × (t ≢ 0) × (k ≡ root_kind)
PointsTo f d q head_slot t k = (q ≡ 1) × (f.free_head ≢ 0) × (t ≡ f.free_head) × (k ≡ trunk_kind)
PointsTo f d q (leaf_slot j) t k = (d.kind q ≡ trunk_kind) × (j < f.trunk_count q) × (t ≡ f.trunk_leaf q j) × (k ≡ free_kind)
PointsTo f d q next_slot t k =
    ((d.kind q ≡ trunk_kind) × (f.trunk_next q ≢ 0) × (t ≡ f.trunk_next q) × (k ≡ trunk_kind))
    ⊎ (((d.kind q ≡ first_kind) ⊎ (d.kind q ≡ later_kind)) × (f.next q ≢ 0) × (t ≡ f.next q) × (k ≡ later_kind))

-- page q has a pointer in that slot, and it names page t
abbrev pub Names : File → Dealing → (q : ℕ) → Slot → (t : ℕ) → Type 0
Names f d q s t = Page f q × ((k : ℕ) × PointsTo f d q s t k)

-- 22: where a tree page stands: page 1 is the schema's root; another page of kind 1 is any root; a child belongs to the family of its namer
abbrev pub place_of : File → Dealing → ℕ → Place
place_of f d q = cond (eqb (d.kind q) root_kind) (cond (eqb q 1) schema_root any_root) (child_place (is_table f (d.namer q)))

-- 25, 33: what is in order in a tree, read from left to right: the numbers of table pages; and, where the tree's order is asked for, the records of index pages
pub data Mark : Type 0 where
  a_row : ℕ → Mark  -- a leaf's row number
  a_key : ℕ → Mark  -- an interior page's key
  a_record : List Value → Mark  -- the record of a cell on an index page

-- a cell's record, where order is asked for
abbrev pub record_of : (asked : Bool) → Cell → List Mark
record_of true c = a_record c.key ∷ []
record_of false c = []

-- a leaf's cell: its row number, or on an index page its record
abbrev pub row_or_record : (asked is_table : Bool) → Cell → List Mark
row_or_record asked true c = a_row c.row ∷ []
row_or_record asked false c = record_of asked c

unfoldable pub rows_of : (asked is_table : Bool) → List Cell → List Mark
rows_of asked table [] = []
rows_of asked table (c ∷ cs) = row_or_record asked table c ++ rows_of asked table cs

-- an interior page's cell: its key, or on an index page its record
unfoldable pub key_of : (asked is_table : Bool) → Cell → List Mark
key_of asked true c = a_key c.row ∷ []
key_of asked false c = record_of asked c

-- an interior page: what `below` reads under each cell's child, then the cell's key or record; last what it reads under the right child
unfoldable pub inner_of : (below : ℕ → List Mark) (asked is_table : Bool) (right : ℕ) → List Cell → List Mark
inner_of below asked table r [] = below r
inner_of below asked table r (c ∷ cs) = below c.child ++ (key_of asked table c ++ inner_of below asked table r cs)

-- from a page down, through so many levels
unfoldable pub reading : File → (asked : Bool) (levels page : ℕ) → List Mark
reading f asked zero p = []
reading f asked (suc l) p =
    cond (is_leaf f p) (rows_of asked (is_table f p) (cells_of f p)) (inner_of (reading f asked l) asked (is_table f p) (f.right p) (cells_of f p))

-- of two, the first read before the second: a row number exceeds every number before it, a key is no less than each row number and more
-- than each key before it; a record is more than every record before it. Numbers and records never stand in one tree (22).
abbrev pub Fits : Mark → Mark → Type 0
Fits (a_row x) (a_row r) = x < r
Fits (a_key x) (a_row r) = x < r
Fits (a_row x) (a_key k) = x ≤ k
Fits (a_key x) (a_key k) = x < k
Fits (a_record v) (a_record w) = of_records v w ≡ less
Fits (a_row x) (a_record w) = ⊥
Fits (a_key x) (a_record w) = ⊥
Fits (a_record v) (a_row r) = ⊥
Fits (a_record v) (a_key k) = ⊥

abbrev pub Ordered : List Mark → Type 0
Ordered [] = Unit {0}
Ordered (x ∷ l) = ((y : Mark) → Mem y l → Fits x y) × Ordered l

-- 27: a chain of just n pages from page t on: no number is zero before the end, and the one at the end is
abbrev pub Chain : File → (n t : ℕ) → Type 0
Chain f zero t = t ≡ 0
Chain f (suc n) t = (t ≢ 0) × Chain f n (f.next t)

-- 28: column four is null, 0 or an integer from 2 to N
abbrev pub RootNumber : File → Column4 → Type 0
RootNumber f unfit = ⊥
RootNumber f null = Unit {0}
RootNumber f (integer (pos n)) = (n ≡ 0) ⊎ ((2 ≤ n) × (n ≤ f.N))
RootNumber f (integer (negsuc n)) = ⊥

-- 29: how many of the pages 1 to n are trunks or free leaves
abbrev pub on_freelist : (kind : ℕ) → ℕ
on_freelist k = cond (eqb k trunk_kind) 1 (cond (eqb k free_kind) 1 0)

unfoldable pub free_pages : Dealing → ℕ → ℕ
free_pages d zero = 0
free_pages d (suc n) = on_freelist (d.kind (suc n)) + free_pages d n

-- 31: what a map's entry about a page of that kind and namer says: 1 root and 2 free page (trunk or free leaf), both
-- with number 0; 3 first overflow, 4 later overflow and 5 other tree page, each with the namer
abbrev pub type_for : (kind : ℕ) → ℕ
type_for k = cond (eqb k root_kind) 1 (cond (eqb k first_kind) 3 (cond (eqb k later_kind) 4 (cond (eqb k tree_kind) 5 2)))

abbrev pub number_for : (kind namer : ℕ) → ℕ
number_for k h = cond (eqb k root_kind) 0 (cond (eqb k trunk_kind) 0 (cond (eqb k free_kind) 0 h))

-- what a finished dealing is asked besides, where the number at 52 is not zero
pub record After (f : File) (d : Dealing) : Type 0 where
  -- 31: the entry about each page that a pointer names agrees with the dealing
  pub rule_31 : f.vacuum ≢ 0 → (p : ℕ) → Nameable f p → (f.entry_type p ≡ type_for (d.kind p)) × (f.entry_number p ≡ number_for (d.kind p) (d.namer p))
  -- 32: the number at 52 is the largest root, page 1 included
  pub rule_32_root : f.vacuum ≢ 0 → Page f f.vacuum × (d.kind f.vacuum ≡ root_kind)
  pub rule_32_most : f.vacuum ≢ 0 → (r : ℕ) → Page f r → d.kind r ≡ root_kind → r ≤ f.vacuum

pub record Good (f : File) (d : Dealing) : Type 0 where
  -- page 1 has 1, 0 and 0; the step of a page that a pointer names is one more than its namer's
  pub kind_1 : d.kind 1 ≡ root_kind
  pub namer_1 : d.namer 1 ≡ 0
  pub step_1 : d.step 1 ≡ 0
  pub steps : (p : ℕ) → Nameable f p → d.step p ≡ suc (d.step (d.namer p))
  -- a page that has its kind by its place has namer 0 and step 0
  pub placed : (p : ℕ) → Fixed f p → (d.kind p ≡ 6 + f.fixed p) × (d.namer p ≡ 0) × (d.step p ≡ 0)
  -- every pointer names a page of 2 to N that has no kind by its place, and whose kind and namer are as that pointer gives (20, 21)
  pub pointers : (q : ℕ) (s : Slot) (t k : ℕ) → Page f q → PointsTo f d q s t k → Nameable f t × (d.kind t ≡ k) × (d.namer t ≡ q)
  -- each of these pages is named (30) ..
  pub named : (p : ℕ) → Nameable f p → (q : ℕ) × (s : Slot) × Names f d q s p
  -- .. by one pointer only (21)
  pub once : (q q' : ℕ) (s s' : Slot) (t : ℕ) → Names f d q s t → Names f d q' s' t → (q ≡ q') × (s ≡ s')
  -- 22: a tree page's type suits its place
  pub rule_22 : (q : ℕ) → Page f q → TreePage d q → suits (place_of f d q) (f.type q) ≡ true
  -- 23, 26: a tree page is sound, and no payload on it is over the limit (of bytes: image/proofs/Faults.antt, `broken-none`)
  pub rule_23_26 : (q : ℕ) → Page f q → TreePage d q → f.broken q ≡ 0
  -- 24: no tree needs level 21, and the leaves of a tree lie at one level
  pub rule_24_depth : (r level q : ℕ) → Page f r → d.kind r ≡ root_kind → InTree f d r level q → level ≤ level_limit
  pub rule_24_even : (r level q level' q' : ℕ) → Page f r → d.kind r ≡ root_kind
      → InTree f d r level q → Leaf f q → InTree f d r level' q' → Leaf f q' → level ≡ level'
  -- 25: the numbers of each root's tree are in order: by 24 so many levels are all of it
  pub rule_25 : (r : ℕ) → Page f r → d.kind r ≡ root_kind → Ordered (reading f false level_limit r)
  -- 27: a payload that is not all local has a chain of just as many pages as its rest takes
  pub rule_27 : (q j : ℕ) → Page f q → TreePage d q → HasPayload f q → j < f.count q
      → 1 ≤ (f.cell q j).links → Chain f (f.cell q j).links (f.cell q j).first
  -- 28: each schema row is a record of five columns whose column four is null, 0 or an integer from 2 to N
  pub rule_28 : (q j : ℕ) → LeafCell f d 1 q j → RootNumber f (f.column4 q j)
  -- 28: the payload of every cell reads as a record
  pub rule_28_reads : (q j : ℕ) → Page f q → TreePage d q → HasPayload f q → j < f.count q → (f.cell q j).reads ≡ true
  -- 29: a trunk's count is at most U/4-2; trunks and free leaves are as many as the number at 36 says
  pub rule_29_room : (q : ℕ) → Page f q → d.kind q ≡ trunk_kind → f.trunk_count q ≤ f.trunk_room
  pub rule_29_total : free_pages d f.N ≡ f.free_total
  -- 31, 32
  pub after : After f d

-- the file is good: it has a good dealing
abbrev pub GoodFile : File → Type 0
GoodFile f = (d : Dealing) × Good f d

-- Good for a caller who names roots as plain ascending: good, and besides ..
pub record GoodFor (ordered : List ℕ) (f : File) (d : Dealing) : Type 0 where
  pub good : Good f d
  -- 33: the records of a named root's tree rise strictly, those of interior pages included
  pub rule_33 : (r : ℕ) → Mem r ordered → Ordered (reading f true level_limit r)
  -- 35: each name is an index root
  pub rule_35 : (r : ℕ) → Mem r ordered → Page f r × (d.kind r ≡ root_kind) × (index_type (f.type r) ≡ true)

abbrev pub GoodFileFor : (ordered : List ℕ) → File → Type 0
GoodFileFor ordered f = (d : Dealing) × GoodFor ordered f d

-- What follows is no part of `Good`: it is for what is said of payloads in good files.

-- the pages of a chain with n pages, from page t on
unfoldable pub chain_pages : File → (n t : ℕ) → List ℕ
chain_pages f zero t = []
chain_pages f (suc n) t = t ∷ chain_pages f n (f.next t)

-- pages of an overflow chain in order, from the page h that names the first of them: that one
-- has kind k, the others are later overflow pages, and each names the next
abbrev pub Linked : File → Dealing → (h k : ℕ) → List ℕ → Type 0
Linked f d h k [] = Unit {0}
Linked f d h k (t ∷ ts) = Nameable f t × (d.kind t ≡ k) × (d.namer t ≡ h) × Linked f d t later_kind ts
