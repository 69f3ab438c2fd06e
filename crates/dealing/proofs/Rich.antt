-- The names of the walk with all that a page is told by its namer: the slot, the step, and a role.
use mathlib.Core.Path.{◌≡◌}
use mathlib.Core.Bool.{Bool, true, false, cond}
use mathlib.Core.Logic.{◌≢◌}
use mathlib.Core.List.{List, [], ◌∷◌, ◌++◌}
use Prim.Native.Nat.{ℕ, zero, suc, ◌≤◌}
use Rattle.dealing.specs.File.{Place, schema_root, any_root, table_page, index_page, Cell, Column4, File, child_place, is_leaf, is_table, cells_of}
use Rattle.dealing.specs.Good.{Slot, child_slot, right_slot, chain_slot, root_slot, head_slot, leaf_slot, next_slot}
use Rattle.dealing.specs.Walk.{fit, Named, nothing, root, named_by, fault_in}

pub data Role : Type 0 where
  tree : (schema : Bool) (top : ℕ) (place : Place) (left : ℕ) → Role  -- a page of top's tree, with so many levels left, itself included
  over : (first : Bool) (left : ℕ) → Role  -- an overflow page with so many after it
  trunk : (left : ℕ) → Role  -- a trunk with so much fuel left
  spare : Role

pub record Visit : Type 0 where
  pub holder : ℕ
  pub page : ℕ
  pub step : ℕ
  pub slot : Slot
  pub role : Role

abbrev pub place_kind : Place → ℕ
place_kind schema_root = 1
place_kind any_root = 1
place_kind table_page = 6
place_kind index_page = 6

abbrev pub first_kind : Bool → ℕ
first_kind true = 4
first_kind false = 5

abbrev pub kind_of : Role → ℕ
kind_of (tree s r p l) = place_kind p
kind_of (over b l) = first_kind b
kind_of (trunk l) = 2
kind_of spare = 3

-- the visit that a page (its number, its step) makes: slot, target, role
abbrev pub to : (holder step : ℕ) → Slot → ℕ → Role → Visit
to h s x t r = record { holder = h; page = t; step = suc s; slot = x; role = r }

-- a chain's next page
abbrev pub chain_next : (h s : ℕ) → Slot → Bool → (n t : ℕ) → List Visit
chain_next h s x b zero t = []
chain_next h s x b (suc n) t = to h s x t (over b n) ∷ []

unfoldable pub leaf_chains : (h s i : ℕ) → List Cell → List Visit
leaf_chains h s i [] = []
leaf_chains h s i (c ∷ cs) = chain_next h s (chain_slot i) true c.links c.first ++ leaf_chains h s (suc i) cs

abbrev pub index_chain : (is_table : Bool) (h s i : ℕ) → Cell → List Visit
index_chain true h s i c = []
index_chain false h s i c = chain_next h s (chain_slot i) true c.links c.first

unfoldable pub inner_slots : (is_table : Bool) (r : ℕ) → Role → (h s i : ℕ) → List Cell → List Visit
inner_slots t r o h s i [] = to h s right_slot r o ∷ []
inner_slots t r o h s i (c ∷ cs) = (to h s (child_slot i) c.child o ∷ []) ++ (index_chain t h s i c ++ inner_slots t r o h s (suc i) cs)

unfoldable pub leaf_slots : File → (h s k j : ℕ) → List Visit
leaf_slots f h s zero j = []
leaf_slots f h s (suc k) j = to h s (leaf_slot j) (f.trunk_leaf h j) spare ∷ leaf_slots f h s k (suc j)

abbrev pub trunk_to : (h s : ℕ) → Slot → (n t : ℕ) → List Visit
trunk_to h s x zero t = []
trunk_to h s x (suc n) zero = []
trunk_to h s x (suc n) (suc t) = to h s x (suc t) (trunk n) ∷ []

-- the root that the i-th row of a schema leaf names
abbrev pub root_in : File → (page i : ℕ) → Named
root_in f p i = named_by (f.column4 p i)

abbrev pub root_to : (h s i : ℕ) → Named → List Visit
root_to h s i nothing = []
root_to h s i (root r) = to h s (root_slot i) r (tree false r any_root 20) ∷ []

unfoldable pub root_slots : File → (h s i : ℕ) → List Cell → List Visit
root_slots f h s i [] = []
root_slots f h s i (c ∷ cs) = root_to h s i (root_in f h i) ++ root_slots f h s (suc i) cs

-- what a visit names while it lasts
unfoldable pub inner : File → (h s : ℕ) → Role → List Visit
inner f h s (tree b r p zero) = []
inner f h s (tree b r p (suc l)) =
    cond (is_leaf f h) (leaf_chains h s 0 (cells_of f h)) (inner_slots (is_table f h) (f.right h) (tree b r (child_place (is_table f h)) l) h s 0 (cells_of f h))
inner f h s (over b n) = chain_next h s next_slot false n (f.next h)
inner f h s (trunk n) = leaf_slots f h s (f.trunk_count h) 0 ++ trunk_to h s next_slot n (f.trunk_next h)
inner f h s spare = []

-- and what is named for it later: roots, and on page 1 the freelist
unfoldable pub roots_for : File → (h s : ℕ) → Role → List Visit
roots_for f h s (tree true r p zero) = []
roots_for f h s (tree true r p (suc l)) = cond (is_leaf f h) (root_slots f h s 0 (cells_of f h)) []
roots_for f h s (tree false r p l) = []
roots_for f h s (over b n) = []
roots_for f h s (trunk n) = []
roots_for f h s spare = []

abbrev pub head_for : File → (h s : ℕ) → Place → List Visit
head_for f h s schema_root = trunk_to h s head_slot (suc f.N) f.free_head
head_for f h s any_root = []
head_for f h s table_page = []
head_for f h s index_page = []

unfoldable pub free_for : File → (h s : ℕ) → Role → List Visit
free_for f h s (tree b r p l) = head_for f h s p
free_for f h s (over b n) = []
free_for f h s (trunk n) = []
free_for f h s spare = []

abbrev pub within : File → Visit → List Visit
within f v = inner f v.page v.step v.role

abbrev pub roots_of : File → Visit → List Visit
roots_of f v = roots_for f v.page v.step v.role

abbrev pub free_of : File → Visit → List Visit
free_of f v = free_for f v.page v.step v.role

abbrev pub slots : File → Visit → List Visit
slots f v = within f v ++ (free_of f v ++ roots_of f v)

-- page 1
abbrev pub first : Visit
first = record { holder = 0; page = 1; step = 0; slot = right_slot; role = tree true 1 schema_root 20 }

-- what a visit's own checks ask
abbrev pub ChainAsks : (n t : ℕ) → Type 0
ChainAsks zero t = t ≡ 0
ChainAsks (suc n) t = t ≢ 0

abbrev pub CellAsks : (links first : ℕ) → Type 0
CellAsks zero t = Unit {0}
CellAsks (suc n) t = t ≢ 0

abbrev pub PayloadAsks : Cell → Type 0
PayloadAsks c = CellAsks c.links c.first × (c.reads ≡ true)

abbrev pub RowAsks : (N : ℕ) → Bool → Column4 → Type 0
RowAsks N true v = fit N v ≡ true
RowAsks N false v = Unit {0}

abbrev pub LeafAsks : File → Bool → (h i : ℕ) → List Cell → Type 0
LeafAsks f b h i [] = Unit {0}
LeafAsks f b h i (c ∷ cs) = PayloadAsks c × RowAsks f.N b (f.column4 h i) × LeafAsks f b h (suc i) cs

abbrev pub IndexAsks : Bool → Cell → Type 0
IndexAsks true c = Unit {0}
IndexAsks false c = PayloadAsks c

abbrev pub InnerAsks : Bool → List Cell → Type 0
InnerAsks t [] = Unit {0}
InnerAsks t (c ∷ cs) = IndexAsks t c × InnerAsks t cs

abbrev pub Asks : File → (h : ℕ) → Role → Type 0
Asks f h (tree b r p zero) = ⊥
Asks f h (tree b r p (suc l)) = (fault_in f p h ≡ 0) × cond (is_leaf f h) (LeafAsks f b h 0 (cells_of f h)) (InnerAsks (is_table f h) (cells_of f h))
Asks f h (over b n) = ChainAsks n (f.next h)
Asks f h (trunk n) = f.trunk_count h ≤ f.trunk_room
Asks f h spare = Unit {0}
