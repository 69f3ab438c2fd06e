-- The walk, in two steps: the file read as events in the walk's order, then the run of the events over the ledgers. Definitions only.
use Rattle.std.specs.Prelude.{◌≡◌, Bool, true, false, cond, List, [], ◌∷◌, ◌++◌, ℕ, zero, suc, ◌+◌, ◌-◌, eqb, leb, ltb, pos, negsuc, get_or, set, replicate}
use Rattle.std.proofs.Math.Option.{Option, none, some}
use Rattle.order.specs.Order.{Value, is_less, of_records}
use Rattle.dealing.specs.File.{Cell, Column4, unfit, null, integer, File, Page, index_type, is_leaf, is_table, cells_of, Place, schema_root, any_root}
use Rattle.dealing.specs.File.{child_place, suits}
use Rattle.dealing.specs.File.{root_kind, trunk_kind, free_kind, first_kind, later_kind, tree_kind, level_limit}
use Rattle.dealing.specs.Good.{Mark, a_row, a_key, a_record, Dealing, type_for, number_for}

-- What follows a `fail` does not matter: the run ends there.
pub data Event : Type 0 where
  start : Event  -- a tree begins
  name : (holder target kind : ℕ) → Event  -- a pointer is followed: 20, 21
  fail : (number page : ℕ) → Event  -- a check fails
  row : (page number : ℕ) → Event  -- a leaf's row number: 25
  key : (page number : ℕ) → Event  -- an interior page's key: 25
  leaf : (page left : ℕ) → Event  -- a leaf with so many levels left, itself included: 24
  entry : (page : ℕ) (values : List Value) → Event  -- the record of an index cell, where order is asked for: 33

-- how a tree is walked: as the schema's, as another one, as one whose root the caller names as plain ascending
pub data Mode : Type 0 where
  schema_tree plain_tree ordered_tree : Mode

abbrev pub is_schema : Mode → Bool
is_schema schema_tree = true
is_schema plain_tree = false
is_schema ordered_tree = false

abbrev pub is_ordered : Mode → Bool
is_ordered schema_tree = false
is_ordered plain_tree = false
is_ordered ordered_tree = true

-- a check: nothing where it passes, else the refusal
abbrev pub check : Bool → (number page : ℕ) → List Event
check true number page = []
check false number page = fail number page ∷ []

-- nothing for 0, else the refusal with that number
abbrev pub faults : (fault page : ℕ) → List Event
faults zero p = []
faults (suc n) p = fail (suc n) p ∷ []

abbrev pub not0 : ℕ → Bool
not0 zero = false
not0 (suc n) = true

-- an overflow chain with n pages still to come; the number t of the next one was read on the page `holder`
unfoldable pub chain_events : File → (holder kind n t : ℕ) → List Event
chain_events f holder kind zero t = check (eqb t 0) 27 holder
chain_events f holder kind (suc n) t = check (not0 t) 27 holder ++ name holder t kind ∷ chain_events f t later_kind n (f.next t)

-- the chain of a cell, if it has one
unfoldable pub chain_of : File → (page links first : ℕ) → List Event
chain_of f p zero first = []
chain_of f p (suc n) first = chain_events f p first_kind (suc n) first

-- a cell's payload: its chain, then its record (28)
unfoldable pub payload_events : File → (page : ℕ) → Cell → List Event
payload_events f p c = chain_of f p c.links c.first ++ check c.reads 28 p

-- the row number of a table leaf's cell
abbrev pub row_of : (is_table : Bool) (page row : ℕ) → List Event
row_of true p r = row p r ∷ []
row_of false p r = []

-- a schema row: column four is null, 0 or an integer from 2 to N
abbrev pub fit : (N : ℕ) → Column4 → Bool
fit N unfit = false
fit N null = true
fit N (integer (pos zero)) = true
fit N (integer (pos (suc zero))) = false
fit N (integer (pos (suc (suc n)))) = leb (suc (suc n)) N
fit N (integer (negsuc n)) = false

abbrev pub schema_row : (N : ℕ) (schema : Bool) → Column4 → (page : ℕ) → List Event
schema_row N true v p = check (fit N v) 28 p
schema_row N false v p = []

-- the record of an index cell, where order is asked for
abbrev pub entry_of : (asked is_table : Bool) (page : ℕ) → Cell → List Event
entry_of asked true p c = []
entry_of true false p c = entry p c.key ∷ []
entry_of false false p c = []

-- a leaf's cell with index i: row number, payload, order, schema row
unfoldable pub leaf_cell : File → Mode → (page i : ℕ) → Cell → List Event
leaf_cell f mode p i c =
    row_of (is_table f p) p c.row
    ++ (payload_events f p c ++ (entry_of (is_ordered mode) (is_table f p) p c ++ schema_row f.N (is_schema mode) (f.column4 p i) p))

-- a leaf's cells from index i on
unfoldable pub leaf_events : File → Mode → (page i : ℕ) → List Cell → List Event
leaf_events f mode p i [] = []
leaf_events f mode p i (c ∷ cs) = leaf_cell f mode p i c ++ leaf_events f mode p (suc i) cs

-- a child is named, and then walked; `below` gives a page's events
abbrev pub child_events : (below : ℕ → List Event) (holder child : ℕ) → List Event
child_events below p t = name p t tree_kind ∷ below t

-- after the child: a table's row key, or an index's payload and order
abbrev pub key_or_chain : File → Mode → (is_table : Bool) (page : ℕ) → Cell → List Event
key_or_chain f mode true p c = key p c.row ∷ []
key_or_chain f mode false p c = payload_events f p c ++ entry_of (is_ordered mode) false p c

-- an interior page's cell: child, then row key or payload
unfoldable pub inner_cell : File → Mode → (below : ℕ → List Event) (page : ℕ) → Cell → List Event
inner_cell f mode below p c = child_events below p c.child ++ key_or_chain f mode (is_table f p) p c

-- an interior page's cells; last the right child
unfoldable pub inner_events : File → Mode → (below : ℕ → List Event) (page : ℕ) → List Cell → List Event
inner_events f mode below p [] = child_events below p (f.right p)
inner_events f mode below p (c ∷ cs) = inner_cell f mode below p c ++ inner_events f mode below p cs

-- 0, or the first of 22, 23 and 26 that a tree page in that place breaks: the type comes first
unfoldable pub fault_in : File → Place → (page : ℕ) → ℕ
fault_in f place p = cond (suits place (f.type p)) (f.broken p) 22

-- a tree page, with so many levels left: level, type and soundness, evenness on a leaf, then its cells
unfoldable pub page_events : File → Mode → (levels : ℕ) → Place → (page : ℕ) → List Event
page_events f mode zero place p = fail 24 p ∷ []
page_events f mode (suc l) place p =
    faults (fault_in f place p) p
    ++ cond (is_leaf f p)
    (leaf p (suc l) ∷ leaf_events f mode p 0 (cells_of f p))
    (inner_events f mode (page_events f mode l (child_place (is_table f p))) p (cells_of f p))

-- the root that a schema row names, if any
pub data Named : Type 0 where
  nothing : Named
  root : (page : ℕ) → Named

abbrev pub named_by : Column4 → Named
named_by unfit = nothing
named_by null = nothing
named_by (integer (pos zero)) = nothing
named_by (integer (pos (suc n))) = root (suc n)
named_by (integer (negsuc n)) = nothing

-- the roots in schema row order, each with the leaf that holds its row
abbrev pub root_at : (page : ℕ) → Named → List (ℕ × ℕ)
root_at p nothing = []
root_at p (root r) = (p, r) ∷ []

unfoldable pub leaf_roots : File → (page i : ℕ) → List Cell → List (ℕ × ℕ)
leaf_roots f p i [] = []
leaf_roots f p i (c ∷ cs) = root_at p (named_by (f.column4 p i)) ++ leaf_roots f p (suc i) cs

-- what `below` gives of each child of an interior page, from left to right
unfoldable pub over_children : {A : Type 0} (below : ℕ → List A) (right : ℕ) → List Cell → List A
over_children below r [] = below r
over_children below r (c ∷ cs) = below c.child ++ over_children below r cs

unfoldable pub schema_roots : File → (levels page : ℕ) → List (ℕ × ℕ)
schema_roots f zero p = []
schema_roots f (suc l) p = cond (is_leaf f p) (leaf_roots f p 0 (cells_of f p)) (over_children (schema_roots f l) (f.right p) (cells_of f p))

-- the caller names the root
unfoldable pub is_named : (ordered : List ℕ) (root : ℕ) → Bool
is_named [] r = false
is_named (x ∷ xs) r = cond (eqb x r) true (is_named xs r)

abbrev pub mode_for : (ordered : List ℕ) (root : ℕ) → Mode
mode_for ordered r = cond (is_named ordered r) ordered_tree plain_tree

-- a root is named by the leaf with its schema row, and its tree is walked
abbrev pub tree_events : (ordered : List ℕ) → File → (holder root : ℕ) → List Event
tree_events ordered f h r = name h r root_kind ∷ start ∷ page_events f (mode_for ordered r) level_limit any_root r

unfoldable pub root_events : (ordered : List ℕ) → File → List (ℕ × ℕ) → List Event
root_events ordered f [] = []
root_events ordered f (x ∷ xs) = tree_events ordered f x.0 x.1 ++ root_events ordered f xs

-- a trunk's k leaves from index j on
unfoldable pub trunk_leaves : File → (trunk k j : ℕ) → List Event
trunk_leaves f p zero j = []
trunk_leaves f p (suc k) j = name p (f.trunk_leaf p j) free_kind ∷ trunk_leaves f p k (suc j)

-- the trunks from number t on, which was read on the page `holder`: count, leaves, next. Of more than N trunks one is named twice, so N + 1 are enough
unfoldable pub trunk_events : File → (fuel holder t : ℕ) → List Event
trunk_events f zero holder t = []
trunk_events f (suc n) holder zero = []
trunk_events f (suc n) holder (suc t) =
    name holder (suc t) trunk_kind
    ∷ (check (leb (f.trunk_count (suc t)) f.trunk_room) 29 (suc t)
    ++ (trunk_leaves f (suc t) (f.trunk_count (suc t)) 0 ++ trunk_events f n (suc t) (f.trunk_next (suc t))))

-- how many trunks and leaves these are
unfoldable pub free_count : File → (fuel t : ℕ) → ℕ
free_count f zero t = 0
free_count f (suc n) zero = 0
free_count f (suc n) (suc t) = suc (f.trunk_count (suc t) + free_count f n (f.trunk_next (suc t)))

-- the freelist, then its total
unfoldable pub free_events : File → List Event
free_events f = trunk_events f (suc f.N) 1 f.free_head ++ check (eqb (free_count f (suc f.N) f.free_head) f.free_total) 29 1

-- the schema tree, the freelist, each root in schema row order; the caller names the roots in `ordered` as plain ascending
unfoldable pub events : (ordered : List ℕ) → File → List Event
events ordered f = (start ∷ page_events f schema_tree level_limit schema_root 1) ++ (free_events f ++ root_events ordered f (schema_roots f level_limit 1))

-- the ledgers, one entry a page; the last number or record read in this tree; the levels left at this tree's first leaf (0: none yet)
pub record State : Type 0 where
  pub kinds : List ℕ
  pub namers : List ℕ
  pub last : Option Mark
  pub leaf_at : ℕ

abbrev pub state : (kinds namers : List ℕ) → Option Mark → (leaf_at : ℕ) → State
state ks ns m l = record { kinds = ks; namers = ns; last = m; leaf_at = l }

pub data Outcome : Type 0 where
  went : State → Outcome
  refused : (number page : ℕ) → Outcome

abbrev pub in_range : (N t : ℕ) → Bool
in_range N zero = false
in_range N (suc t) = leb (suc t) N

abbrev pub enter : State → (holder target kind : ℕ) → State
enter s h t k = record { kinds = set s.kinds (t - 1) k; namers = set s.namers (t - 1) h; last = s.last; leaf_at = s.leaf_at }

abbrev pub order : State → Option Mark → State
order s m = record { kinds = s.kinds; namers = s.namers; last = m; leaf_at = s.leaf_at }

abbrev pub at_leaf : State → ℕ → State
at_leaf s l = record { kinds = s.kinds; namers = s.namers; last = s.last; leaf_at = l }

-- a number may follow the last one read: a row number is more than it, a key is more than a key and no less than a row number; a record is more than a record
abbrev pub follows : (last : Option Mark) → Mark → Bool
follows none m = true
follows (some (a_row x)) (a_row r) = ltb x r
follows (some (a_key x)) (a_row r) = ltb x r
follows (some (a_row x)) (a_key k) = leb x k
follows (some (a_key x)) (a_key k) = ltb x k
follows (some (a_record v)) (a_record w) = is_less (of_records v w)
follows (some (a_row x)) (a_record w) = false
follows (some (a_key x)) (a_record w) = false
follows (some (a_record v)) (a_row r) = false
follows (some (a_record v)) (a_key k) = false

-- a leaf's level is that of the tree's first leaf
abbrev pub even : (leaf_at left : ℕ) → Bool
even zero l = true
even (suc a) l = eqb (suc a) l

-- one event: page 1 has its kind from the beginning, and so have the pages that have theirs by their place: to name one is 21 too
unfoldable pub step : (N : ℕ) → State → Event → Outcome
step N s start = went (at_leaf (order s none) 0)
step N s (name h t k) = cond (in_range N t) (cond (eqb (get_or s.kinds (t - 1) 0) 0) (went (enter s h t k)) (refused 21 t)) (refused 20 h)
step N s (fail n p) = refused n p
step N s (row p r) = cond (follows s.last (a_row r)) (went (order s (some (a_row r)))) (refused 25 p)
step N s (key p k) = cond (follows s.last (a_key k)) (went (order s (some (a_key k)))) (refused 25 p)
step N s (leaf p l) = cond (even s.leaf_at l) (went (at_leaf s l)) (refused 24 p)
step N s (entry p v) = cond (follows s.last (a_record v)) (went (order s (some (a_record v)))) (refused 33 p)

unfoldable pub and_then : Outcome → (State → Outcome) → Outcome
and_then (went s) k = k s
and_then (refused n p) k = refused n p

unfoldable pub run : (N : ℕ) → State → List Event → Outcome
run N s [] = went s
run N s (e ∷ es) = and_then (step N s e) (λ s'. run N s' es)

pub data Verdict : Type 0 where
  accepted : (kinds namers : List ℕ) → Verdict
  refusal : (number page : ℕ) → Verdict

-- the index of the first 0, or the length
unfoldable pub first_zero : List ℕ → ℕ
first_zero [] = 0
first_zero (zero ∷ l) = 0
first_zero (suc x ∷ l) = suc (first_zero l)

-- 31: the map's entry about page p, of that kind and namer, agrees with them; there is none
-- about page 1, and none is read about a page that has its kind by its place
unfoldable pub agrees : File → (p kind namer : ℕ) → Bool
agrees f p k h =
    cond (eqb p 1) true
    (cond (eqb (f.fixed p) 0) (cond (eqb (f.entry_type p) (type_for k)) (eqb (f.entry_number p) (number_for k h)) false) true)

abbrev pub entry_check : File → (kinds namers : List ℕ) → (p : ℕ) → List Event
entry_check f ks ns p = check (agrees f p (get_or ks (p - 1) 0) (get_or ns (p - 1) 0)) 31 p

-- of the pages 1 to n, lowest first
unfoldable pub entry_checks : File → (kinds namers : List ℕ) → (n : ℕ) → List Event
entry_checks f ks ns zero = []
entry_checks f ks ns (suc n) = entry_checks f ks ns n ++ entry_check f ks ns (suc n)

-- the largest of the pages 1 to n that is a root, or 0
unfoldable pub largest_root : (kinds : List ℕ) (n : ℕ) → ℕ
largest_root ks zero = 0
largest_root ks (suc n) = cond (eqb (get_or ks n 0) root_kind) (suc n) (largest_root ks n)

-- 35: page r is an index root
unfoldable pub is_index_root : File → (kinds : List ℕ) (r : ℕ) → Bool
is_index_root f ks r = cond (in_range f.N r) (cond (eqb (get_or ks (r - 1) 0) root_kind) (index_type (f.type r)) false) false

-- of each name, in the caller's order
unfoldable pub name_checks : File → (kinds ordered : List ℕ) → List Event
name_checks f ks [] = []
name_checks f ks (r ∷ rs) = check (is_index_root f ks r) 35 r ++ name_checks f ks rs

-- what is checked of the finished ledgers, after 30: 31, then 32 (and then the names)
unfoldable pub final : File → (kinds namers : List ℕ) → List Event
final f ks ns = cond (eqb f.vacuum 0) [] (entry_checks f ks ns f.N ++ check (eqb f.vacuum (largest_root ks f.N)) 32 1)

-- the first of these checks that fails, or acceptance
unfoldable pub settle : List Event → (kinds namers : List ℕ) → Verdict
settle [] ks ns = accepted ks ns
settle (start ∷ es) ks ns = settle es ks ns
settle (name h t k ∷ es) ks ns = settle es ks ns
settle (fail n p ∷ es) ks ns = refusal n p
settle (row p r ∷ es) ks ns = settle es ks ns
settle (key p k ∷ es) ks ns = settle es ks ns
settle (leaf p l ∷ es) ks ns = settle es ks ns
settle (entry p v ∷ es) ks ns = settle es ks ns

-- at the end the lowest page that was never named, if any, is refused with 30; then come the last checks
unfoldable pub finish : (ordered : List ℕ) → File → Outcome → Verdict
finish ordered f (refused n p) = refusal n p
finish ordered f (went s) =
    cond (ltb (first_zero s.kinds) f.N) (refusal 30 (suc (first_zero s.kinds)))
    (settle (final f s.kinds s.namers ++ name_checks f s.kinds ordered) s.kinds s.namers)

-- the kinds before any pointer is followed: page 1 is a root, some pages have theirs by their place, the others have none yet
abbrev pub kind_at : File → (p : ℕ) → ℕ
kind_at f p = cond (eqb p 1) root_kind (cond (eqb (f.fixed p) 0) 0 (6 + f.fixed p))

unfoldable pub kinds_to : File → (n : ℕ) → List ℕ
kinds_to f zero = []
kinds_to f (suc n) = kinds_to f n ++ (kind_at f (suc n) ∷ [])

-- before the walk: no page has a namer
abbrev pub blank : File → State
blank f = record { kinds = kinds_to f f.N; namers = replicate f.N 0; last = none; leaf_at = 0 }

unfoldable pub verdict_for : (ordered : List ℕ) → File → Verdict
verdict_for ordered f = finish ordered f (run f.N (blank f) (events ordered f))

-- where no root is named
abbrev pub verdict_of : File → Verdict
verdict_of f = verdict_for [] f

-- the verdict accepts
abbrev pub Accepts : (ordered : List ℕ) → File → Type 0
Accepts ordered f = (kinds : List ℕ) × (namers : List ℕ) × (verdict_for ordered f ≡ accepted kinds namers)

-- the first N entries of two ledgers are a dealing's kinds and namers
pub record LedgerOf (f : File) (d : Dealing) (kinds namers : List ℕ) : Type 0 where
  pub kinds_are : (p : ℕ) → Page f p → get_or kinds (p - 1) 0 ≡ d.kind p
  pub namers_are : (p : ℕ) → Page f p → get_or namers (p - 1) 0 ≡ d.namer p
