-- Laws of the events, for the proofs of code that walks: each list of events taken apart as the code goes, by index, with how a run of it goes on or stops.
use mathlib.Core.Path.{◌≡◌, refl, sym, ◌∙◌, ap}
use mathlib.Core.Bool.{Bool, true, false}
use mathlib.Core.Logic.{◌≢◌}
use mathlib.Core.Option.{none, some}
use mathlib.Core.List.{List, [], ◌∷◌, ◌++◌, append_assoc, append-nil}
use Prim.Native.Nat.{ℕ, zero, suc, ◌+◌, ◌-◌, ◌≤◌, ◌<◌}
use native.Mathlib.Nat.{sub-zero}
use native.Mathlib.Numerals.{add-one}
use native.Mathlib.Omega.{arith}
use lib.Dec.{eqb, leb}
use lib.ListN.{length, get_or}
use borrow.Author.Tests.{eq-eqb, ne_eqb, le-leb, lt-leb, lt-ltb, le-ltb}
use Rattle.dealing.specs.File.{Cell, File, is_leaf, is_table, cells_from, cells_of, Place, schema_root, any_root, child_place, root_kind}
use Rattle.dealing.specs.File.{trunk_kind, free_kind, first_kind, later_kind, tree_kind, level_limit}
use Rattle.dealing.specs.Good.{a_row, a_key, a_record}
use Rattle.dealing.specs.Walk.{Mode, schema_tree, is_schema, is_ordered, mode_for, entry_of, payload_events, Event, start, name, leaf, entry}
use Rattle.dealing.specs.Walk.{follows, order, check, chain_events, chain_of, row_of, fit, schema_row, leaf_cell, leaf_events, child_events}
use Rattle.dealing.specs.Walk.{key_or_chain, inner_cell, inner_events, page_events, fault_in}
use Rattle.dealing.specs.Walk.{final, name_checks, settle, nothing, root, named_by, root_at, leaf_roots, over_children, schema_roots}
use Rattle.dealing.specs.Walk.{tree_events, root_events, trunk_leaves, trunk_events, free_count, free_events, State, state, went, refused}
use Rattle.dealing.specs.Walk.{run, events, blank, first_zero, finish, refusal, verdict_for}
use Rattle.dealing.proofs.RunLaws.{then-went, then-refused, run_none, run-fail, run-start, run_row, run-row-bad, run-key, run-key-bad}
use Rattle.dealing.proofs.RunLaws.{run-entry, run-entry-bad, run-check-passed, run-check-failed, run-fit, run-fault}

-- the cells of a page from index i on
abbrev pub rest_of : File → (page i : ℕ) → List Cell
rest_of f p i = cells_from f p i (f.count p - i)

module _ (f : File) (p : ℕ) where
  pub rest_all : cells_of f p ≡ rest_of f p 0
  unfolding cells_of
  rest_all = ap (cells_from f p 0) (sym (sub-zero (f.count p)))

  pub rest_more : (i : ℕ) → i < f.count p → rest_of f p i ≡ f.cell p i ∷ rest_of f p (i + 1)
  unfolding cells_from
  rest_more i h = let e : f.count p - i ≡ suc (f.count p - (i + 1)) = omega arith in rw (e, add-one i)

  pub rest_end : (i : ℕ) → f.count p ≤ i → rest_of f p i ≡ []
  unfolding cells_from
  rest_end i h = let e : f.count p - i ≡ 0 = omega arith in rw e

-- a tree page
module _ (f : File) (mode : Mode) (levels : ℕ) (place : Place) (p : ℕ) (s : State) where
  pub page-deep : levels ≡ 0 → run f.N s (page_events f mode levels place p) ≡ refused 24 p
  unfolding page_events
  page-deep z = rw z (run-fail f.N s [] 24 p)

  module _ (some : levels ≢ 0) where
    opened : page_events f mode levels place p ≡ page_events f mode (suc (levels - 1)) place p
    opened = let e : levels ≡ suc (levels - 1) = omega arith in ap (λ l. page_events f mode l place p) e

    pub page-fault : fault_in f place p ≢ 0 → run f.N s (page_events f mode levels place p) ≡ refused (fault_in f place p) p
    unfolding page_events
    page-fault h = ap (run f.N s) opened ∙ run-fault f.N s _ (fault_in f place p) p h

    pub page-leaf : fault_in f place p ≡ 0 → is_leaf f p ≡ true
        → run f.N s (page_events f mode levels place p) ≡ run f.N s (leaf p levels ∷ leaf_events f mode p 0 (rest_of f p 0))
    unfolding page_events
    page-leaf h l =
        let e : suc (levels - 1) ≡ levels = omega arith in
        ap (run f.N s) opened
        ∙ run-fit f.N s _ (fault_in f place p) p h
        ∙ rw (l, e, rest_all f p)

    pub page-inner : fault_in f place p ≡ 0 → is_leaf f p ≡ false
        → run f.N s (page_events f mode levels place p)
        ≡ run f.N s (inner_events f mode (page_events f mode (levels - 1) (child_place (is_table f p))) p (rest_of f p 0))
    unfolding page_events
    page-inner h l = ap (run f.N s) opened ∙ run-fit f.N s _ (fault_in f place p) p h ∙ rw (l, rest_all f p)

-- a leaf's cells
module _ (f : File) (mode : Mode) (p i : ℕ) (s : State) where
  pub leaf-end : f.count p ≤ i → run f.N s (leaf_events f mode p i (rest_of f p i)) ≡ went s
  unfolding leaf_events
  leaf-end h = rw (rest_end f p i h) (run_none f.N s)

  module _ (h : i < f.count p) where
    leaf-next : leaf_events f mode p i (rest_of f p i) ≡ leaf_cell f mode p i (f.cell p i) ++ leaf_events f mode p (i + 1) (rest_of f p (i + 1))
    unfolding leaf_events
    leaf-next = let e : suc i ≡ i + 1 = omega arith in rw (rest_more f p i h, e)

    pub leaf-goes : (s' : State) → run f.N s (leaf_cell f mode p i (f.cell p i)) ≡ went s'
        → run f.N s (leaf_events f mode p i (rest_of f p i)) ≡ run f.N s' (leaf_events f mode p (i + 1) (rest_of f p (i + 1)))
    leaf-goes s' e = ap (run f.N s) leaf-next ∙ then-went f.N s s' (leaf_cell f mode p i (f.cell p i)) _ e

    pub leaf-stops : (x q : ℕ) → run f.N s (leaf_cell f mode p i (f.cell p i)) ≡ refused x q
        → run f.N s (leaf_events f mode p i (rest_of f p i)) ≡ refused x q
    leaf-stops x q e = ap (run f.N s) leaf-next ∙ then-refused f.N s x q (leaf_cell f mode p i (f.cell p i)) _ e

-- the row number of a cell: none on an index page
module _ (f : File) (p r : ℕ) (s : State) where
  pub row-none : is_table f p ≡ false → run f.N s (row_of (is_table f p) p r) ≡ went s
  row-none t = rw t (run_none f.N s)

  pub row_goes : is_table f p ≡ true → follows s.last (a_row r) ≡ true → run f.N s (row_of (is_table f p) p r) ≡ went (order s (some (a_row r)))
  row_goes t h = ap (λ b. run f.N s (row_of b p r)) t ∙ run_row f.N s [] p r h ∙ run_none f.N (order s (some (a_row r)))

  pub row-stops : is_table f p ≡ true → follows s.last (a_row r) ≡ false → run f.N s (row_of (is_table f p) p r) ≡ refused 25 p
  row-stops t h = ap (λ b. run f.N s (row_of b p r)) t ∙ run-row-bad f.N s [] p r h

-- a cell's payload: its chain, then its record
module _ (f : File) (p : ℕ) (c : Cell) (s : State) where
  pub payload-chain-stops : (x q : ℕ) → run f.N s (chain_of f p c.links c.first) ≡ refused x q → run f.N s (payload_events f p c) ≡ refused x q
  unfolding payload_events
  payload-chain-stops x q e = then-refused f.N s x q (chain_of f p c.links c.first) _ e

  module _ (s₁ : State) (e₁ : run f.N s (chain_of f p c.links c.first) ≡ went s₁) where
    pub payload-reads : c.reads ≡ true → run f.N s (payload_events f p c) ≡ went s₁
    unfolding payload_events
    payload-reads h = then-went f.N s s₁ (chain_of f p c.links c.first) _ e₁ ∙ rw h (run_none f.N s₁)

    pub payload-unread : c.reads ≡ false → run f.N s (payload_events f p c) ≡ refused 28 p
    unfolding payload_events
    payload-unread h = then-went f.N s s₁ (chain_of f p c.links c.first) _ e₁ ∙ rw h (run-fail f.N s₁ [] 28 p)

-- the record of an index cell, where order is asked for; none on a table page
module _ (f : File) (asked table : Bool) (p : ℕ) (c : Cell) (s : State) where
  pub entry-table : table ≡ true → run f.N s (entry_of asked table p c) ≡ went s
  entry-table t = ap (λ b. run f.N s (entry_of asked b p c)) t ∙ run_none f.N s

  pub entry-unasked : asked ≡ false → run f.N s (entry_of asked table p c) ≡ went s
  entry-unasked o = ap (λ b. run f.N s (entry_of b table p c)) o ∙ go table
    where
      go : (t : Bool) → run f.N s (entry_of false t p c) ≡ went s
      go true = run_none f.N s
      go false = run_none f.N s

  module _ (o : asked ≡ true) (t : table ≡ false) where
    entry-is : entry_of asked table p c ≡ entry p c.key ∷ []
    entry-is = ap (λ b. entry_of b table p c) o ∙ ap (λ b. entry_of true b p c) t

    pub entry-goes : follows s.last (a_record c.key) ≡ true → run f.N s (entry_of asked table p c) ≡ went (order s (some (a_record c.key)))
    entry-goes h = ap (run f.N s) entry-is ∙ run-entry f.N s [] p c.key h ∙ run_none f.N (order s (some (a_record c.key)))

    pub entry-stops : follows s.last (a_record c.key) ≡ false → run f.N s (entry_of asked table p c) ≡ refused 33 p
    entry-stops h = ap (run f.N s) entry-is ∙ run-entry-bad f.N s [] p c.key h

-- one of them: row number, payload, order, schema row
module _ (f : File) (mode : Mode) (p i : ℕ) (c : Cell) (s : State) where
  abbrev order_of : List Event
  order_of = entry_of (is_ordered mode) (is_table f p) p c

  abbrev row_in : List Event
  row_in = schema_row f.N (is_schema mode) (f.column4 p i) p

  pub leaf-row-stops : (x q : ℕ) → run f.N s (row_of (is_table f p) p c.row) ≡ refused x q → run f.N s (leaf_cell f mode p i c) ≡ refused x q
  unfolding leaf_cell
  leaf-row-stops x q e = then-refused f.N s x q (row_of (is_table f p) p c.row) _ e

  module _ (s₁ : State) (e₁ : run f.N s (row_of (is_table f p) p c.row) ≡ went s₁) where
    rowed : run f.N s (leaf_cell f mode p i c) ≡ run f.N s₁ (payload_events f p c ++ (order_of ++ row_in))
    unfolding leaf_cell
    rowed = then-went f.N s s₁ (row_of (is_table f p) p c.row) _ e₁

    pub leaf-chain-stops : (x q : ℕ) → run f.N s₁ (payload_events f p c) ≡ refused x q → run f.N s (leaf_cell f mode p i c) ≡ refused x q
    leaf-chain-stops x q e = rowed ∙ then-refused f.N s₁ x q (payload_events f p c) _ e

    module _ (s₂ : State) (e₂ : run f.N s₁ (payload_events f p c) ≡ went s₂) where
      chained : run f.N s (leaf_cell f mode p i c) ≡ run f.N s₂ (order_of ++ row_in)
      chained = rowed ∙ then-went f.N s₁ s₂ (payload_events f p c) _ e₂

      pub leaf-order-stops : (x q : ℕ) → run f.N s₂ order_of ≡ refused x q → run f.N s (leaf_cell f mode p i c) ≡ refused x q
      leaf-order-stops x q e = chained ∙ then-refused f.N s₂ x q order_of _ e

      module _ (s₃ : State) (e₃ : run f.N s₂ order_of ≡ went s₃) where
        in_order : run f.N s (leaf_cell f mode p i c) ≡ run f.N s₃ row_in
        in_order = chained ∙ then-went f.N s₂ s₃ order_of _ e₃

        -- in another tree than the schema
        pub leaf-plain : is_schema mode ≡ false → run f.N s (leaf_cell f mode p i c) ≡ went s₃
        leaf-plain h = in_order ∙ rw h (run_none f.N s₃)

        -- in the schema
        pub leaf-unfit : is_schema mode ≡ true → fit f.N (f.column4 p i) ≡ false → run f.N s (leaf_cell f mode p i c) ≡ refused 28 p
        leaf-unfit h k = in_order ∙ rw (h, k) (run-fail f.N s₃ [] 28 p)

        pub leaf-fit : is_schema mode ≡ true → fit f.N (f.column4 p i) ≡ true → run f.N s (leaf_cell f mode p i c) ≡ went s₃
        leaf-fit h k = in_order ∙ rw (h, k) (run_none f.N s₃)

-- an interior page's cells
module _ (f : File) (mode : Mode) (below : ℕ → List Event) (p i : ℕ) (s : State) where
  pub inner-end : f.count p ≤ i → run f.N s (inner_events f mode below p (rest_of f p i)) ≡ run f.N s (child_events below p (f.right p))
  unfolding inner_events
  inner-end h = rw (rest_end f p i h)

  module _ (h : i < f.count p) where
    inner-next : inner_events f mode below p (rest_of f p i) ≡ inner_cell f mode below p (f.cell p i) ++ inner_events f mode below p (rest_of f p (i + 1))
    unfolding inner_events
    inner-next = rw (rest_more f p i h)

    pub inner-goes : (s' : State) → run f.N s (inner_cell f mode below p (f.cell p i)) ≡ went s'
        → run f.N s (inner_events f mode below p (rest_of f p i)) ≡ run f.N s' (inner_events f mode below p (rest_of f p (i + 1)))
    inner-goes s' e = ap (run f.N s) inner-next ∙ then-went f.N s s' (inner_cell f mode below p (f.cell p i)) _ e

    pub inner-stops : (x q : ℕ) → run f.N s (inner_cell f mode below p (f.cell p i)) ≡ refused x q
        → run f.N s (inner_events f mode below p (rest_of f p i)) ≡ refused x q
    inner-stops x q e = ap (run f.N s) inner-next ∙ then-refused f.N s x q (inner_cell f mode below p (f.cell p i)) _ e

-- a child: named, then walked
module _ (N : ℕ) (below : ℕ → List Event) (p t : ℕ) (s : State) where
  pub child-stops : (x q : ℕ) → run N s (name p t tree_kind ∷ []) ≡ refused x q → run N s (child_events below p t) ≡ refused x q
  child-stops x q e = then-refused N s x q (name p t tree_kind ∷ []) (below t) e

  pub child-goes : (s₁ : State) → run N s (name p t tree_kind ∷ []) ≡ went s₁ → run N s (child_events below p t) ≡ run N s₁ (below t)
  child-goes s₁ e = then-went N s s₁ (name p t tree_kind ∷ []) (below t) e

-- an interior page's cell: child, then row key or chain
module _ (f : File) (mode : Mode) (below : ℕ → List Event) (p : ℕ) (c : Cell) (s : State) where
  pub inner-child-stops : (x q : ℕ) → run f.N s (child_events below p c.child) ≡ refused x q → run f.N s (inner_cell f mode below p c) ≡ refused x q
  unfolding inner_cell
  inner-child-stops x q e = then-refused f.N s x q (child_events below p c.child) _ e

  pub inner-child-goes : (s₁ : State) → run f.N s (child_events below p c.child) ≡ went s₁
      → run f.N s (inner_cell f mode below p c) ≡ run f.N s₁ (key_or_chain f mode (is_table f p) p c)
  unfolding inner_cell
  inner-child-goes s₁ e = then-went f.N s s₁ (child_events below p c.child) _ e

-- the row key of a cell on a table page, or the chain of one on an index page
module _ (f : File) (mode : Mode) (p : ℕ) (c : Cell) (s : State) where
  pub key-goes : is_table f p ≡ true → follows s.last (a_key c.row) ≡ true
      → run f.N s (key_or_chain f mode (is_table f p) p c) ≡ went (order s (some (a_key c.row)))
  key-goes t h = ap (λ b. run f.N s (key_or_chain f mode b p c)) t ∙ run-key f.N s [] p c.row h ∙ run_none f.N (order s (some (a_key c.row)))

  pub key-stops : is_table f p ≡ true → follows s.last (a_key c.row) ≡ false → run f.N s (key_or_chain f mode (is_table f p) p c) ≡ refused 25 p
  key-stops t h = ap (λ b. run f.N s (key_or_chain f mode b p c)) t ∙ run-key-bad f.N s [] p c.row h

  module _ (t : is_table f p ≡ false) where
    key-payload : run f.N s (key_or_chain f mode (is_table f p) p c) ≡ run f.N s (payload_events f p c ++ entry_of (is_ordered mode) false p c)
    key-payload = ap (λ b. run f.N s (key_or_chain f mode b p c)) t

    pub key-chain-stops : (x q : ℕ) → run f.N s (payload_events f p c) ≡ refused x q → run f.N s (key_or_chain f mode (is_table f p) p c) ≡ refused x q
    key-chain-stops x q e = key-payload ∙ then-refused f.N s x q (payload_events f p c) _ e

    pub key-chain-goes : (s₁ : State) → run f.N s (payload_events f p c) ≡ went s₁
        → run f.N s (key_or_chain f mode (is_table f p) p c) ≡ run f.N s₁ (entry_of (is_ordered mode) false p c)
    key-chain-goes s₁ e = key-payload ∙ then-went f.N s s₁ (payload_events f p c) _ e

-- a cell's chain
module _ (f : File) (p links t : ℕ) where
  pub no-chain : links ≡ 0 → chain_of f p links t ≡ []
  unfolding chain_of
  no-chain z = rw z

  pub some_chain : links ≢ 0 → chain_of f p links t ≡ chain_events f p first_kind links t
  unfolding chain_of
  some_chain n = let e : links ≡ suc (links - 1) = omega arith in rw e

module _ (f : File) (h k n t : ℕ) (s : State) where
  -- no page is to come
  pub chain-end : n ≡ 0 → t ≡ 0 → run f.N s (chain_events f h k n t) ≡ went s
  unfolding chain_events
  chain-end z e = rw (z, eq-eqb t 0 e) (run_none f.N s)

  pub chain-over : n ≡ 0 → t ≢ 0 → run f.N s (chain_events f h k n t) ≡ refused 27 h
  unfolding chain_events
  chain-over z e = rw (z, ne_eqb t 0 e) (run-fail f.N s [] 27 h)

  module _ (some : n ≢ 0) where
    chain-opened : chain_events f h k n t ≡ chain_events f h k (suc (n - 1)) t
    chain-opened = let e : n ≡ suc (n - 1) = omega arith in ap (λ n. chain_events f h k n t) e

    pub chain-short : t ≡ 0 → run f.N s (chain_events f h k n t) ≡ refused 27 h
    unfolding chain_events
    chain-short e = ap (run f.N s) chain-opened ∙ rw e (run-fail f.N s _ 27 h)

    chain_more : t ≢ 0 → chain_events f h k n t ≡ (name h t k ∷ []) ++ chain_events f t later_kind (n - 1) (f.next t)
    unfolding chain_events
    chain_more e = let z : t ≡ suc (t - 1) = omega arith in chain-opened ∙ go t (t - 1) z
      where
        go : (t u : ℕ) → t ≡ suc u → chain_events f h k (suc (n - 1)) t ≡ (name h t k ∷ []) ++ chain_events f t later_kind (n - 1) (f.next t)
        go t u z = rw z

    pub chain-stops : t ≢ 0 → (x q : ℕ) → run f.N s (name h t k ∷ []) ≡ refused x q → run f.N s (chain_events f h k n t) ≡ refused x q
    chain-stops z x q e = ap (run f.N s) (chain_more z) ∙ then-refused f.N s x q (name h t k ∷ []) _ e

    pub chain-goes : t ≢ 0 → (s' : State) → run f.N s (name h t k ∷ []) ≡ went s'
        → run f.N s (chain_events f h k n t) ≡ run f.N s' (chain_events f t later_kind (n - 1) (f.next t))
    chain-goes z s' e = ap (run f.N s) (chain_more z) ∙ then-went f.N s s' (name h t k ∷ []) _ e

-- a trunk's leaves, with j of them named
module _ (f : File) (p j : ℕ) (s : State) where
  pub leaves-end : f.trunk_count p ≤ j → run f.N s (trunk_leaves f p (f.trunk_count p - j) j) ≡ went s
  unfolding trunk_leaves
  leaves-end h = let e : f.trunk_count p - j ≡ 0 = omega arith in rw e (run_none f.N s)

  module _ (h : j < f.trunk_count p) where
    leaves-next : trunk_leaves f p (f.trunk_count p - j) j ≡ (name p (f.trunk_leaf p j) free_kind ∷ []) ++ trunk_leaves f p (f.trunk_count p - (j + 1)) (j + 1)
    unfolding trunk_leaves
    leaves-next = let e : f.trunk_count p - j ≡ suc (f.trunk_count p - (j + 1)) = omega arith in rw (e, add-one j)

    pub leaves-stop : (x q : ℕ) → run f.N s (name p (f.trunk_leaf p j) free_kind ∷ []) ≡ refused x q
        → run f.N s (trunk_leaves f p (f.trunk_count p - j) j) ≡ refused x q
    leaves-stop x q e = ap (run f.N s) leaves-next ∙ then-refused f.N s x q (name p (f.trunk_leaf p j) free_kind ∷ []) _ e

    pub leaves-go : (s' : State) → run f.N s (name p (f.trunk_leaf p j) free_kind ∷ []) ≡ went s'
        → run f.N s (trunk_leaves f p (f.trunk_count p - j) j) ≡ run f.N s' (trunk_leaves f p (f.trunk_count p - (j + 1)) (j + 1))
    leaves-go s' e = ap (run f.N s) leaves-next ∙ then-went f.N s s' (name p (f.trunk_leaf p j) free_kind ∷ []) _ e

-- the trunks
module _ (f : File) (n h t : ℕ) (s : State) where
  pub trunk-none : n ≡ 0 → (trunk_events f n h t ≡ []) × (free_count f n t ≡ 0)
  unfolding trunk_events free_count
  trunk-none z = (rw z, rw z)

  pub trunk-end : t ≡ 0 → (trunk_events f n h t ≡ []) × (free_count f n t ≡ 0)
  unfolding trunk_events free_count
  trunk-end z = (rw z (events-0 n), rw z (count-0 n))
    where
      events-0 : (n : ℕ) → trunk_events f n h 0 ≡ []
      events-0 zero = refl
      events-0 (suc n) = refl

      count-0 : (n : ℕ) → free_count f n 0 ≡ 0
      count-0 zero = refl
      count-0 (suc n) = refl

  module _ (fuel : n ≢ 0) (some : t ≢ 0) where
    pub count-more : free_count f n t ≡ suc (f.trunk_count t + free_count f (n - 1) (f.trunk_next t))
    unfolding free_count
    count-more = go n (n - 1) t (t - 1) (omega arith) (omega arith)
      where
        go : (n m t u : ℕ) → n ≡ suc m → t ≡ suc u → free_count f n t ≡ suc (f.trunk_count t + free_count f m (f.trunk_next t))
        go n m t u e z = rw (e, z)

    trunk-more : trunk_events f n h t
        ≡ (name h t trunk_kind ∷ [])
        ++ (check (leb (f.trunk_count t) f.trunk_room) 29 t ++ (trunk_leaves f t (f.trunk_count t) 0 ++ trunk_events f (n - 1) t (f.trunk_next t)))
    unfolding trunk_events
    trunk-more = go n (n - 1) t (t - 1) (omega arith) (omega arith)
      where
        go : (n m t u : ℕ) → n ≡ suc m → t ≡ suc u
            → trunk_events f n h t
            ≡ (name h t trunk_kind ∷ [])
            ++ (check (leb (f.trunk_count t) f.trunk_room) 29 t ++ (trunk_leaves f t (f.trunk_count t) 0 ++ trunk_events f m t (f.trunk_next t)))
        go n m t u e z = rw (e, z)

    pub trunk-name-stops : (x q : ℕ) → run f.N s (name h t trunk_kind ∷ []) ≡ refused x q → run f.N s (trunk_events f n h t) ≡ refused x q
    trunk-name-stops x q e = ap (run f.N s) trunk-more ∙ then-refused f.N s x q (name h t trunk_kind ∷ []) _ e

    module _ (s₁ : State) (e₁ : run f.N s (name h t trunk_kind ∷ []) ≡ went s₁) where
      trunk-named : run f.N s (trunk_events f n h t)
          ≡ run f.N s₁
          (check (leb (f.trunk_count t) f.trunk_room) 29 t ++ (trunk_leaves f t (f.trunk_count t) 0 ++ trunk_events f (n - 1) t (f.trunk_next t)))
      trunk-named = ap (run f.N s) trunk-more ∙ then-went f.N s s₁ (name h t trunk_kind ∷ []) _ e₁

      pub trunk-full : f.trunk_room < f.trunk_count t → run f.N s (trunk_events f n h t) ≡ refused 29 t
      trunk-full r = trunk-named ∙ run-check-failed f.N s₁ _ (leb (f.trunk_count t) f.trunk_room) 29 t (lt-leb (f.trunk_count t) f.trunk_room r)

      module _ (room : f.trunk_count t ≤ f.trunk_room) where
        trunk-fit : run f.N s (trunk_events f n h t) ≡ run f.N s₁ (trunk_leaves f t (f.trunk_count t - 0) 0 ++ trunk_events f (n - 1) t (f.trunk_next t))
        trunk-fit =
            trunk-named
            ∙ run-check-passed f.N s₁ _ (leb (f.trunk_count t) f.trunk_room) 29 t (le-leb (f.trunk_count t) f.trunk_room room)
            ∙ rw (sub-zero (f.trunk_count t))

        pub trunk-leaves-stop : (x q : ℕ) → run f.N s₁ (trunk_leaves f t (f.trunk_count t - 0) 0) ≡ refused x q
            → run f.N s (trunk_events f n h t) ≡ refused x q
        trunk-leaves-stop x q e = trunk-fit ∙ then-refused f.N s₁ x q (trunk_leaves f t (f.trunk_count t - 0) 0) _ e

        pub trunk-goes : (s₂ : State) → run f.N s₁ (trunk_leaves f t (f.trunk_count t - 0) 0) ≡ went s₂
            → run f.N s (trunk_events f n h t) ≡ run f.N s₂ (trunk_events f (n - 1) t (f.trunk_next t))
        trunk-goes s₂ e = trunk-fit ∙ then-went f.N s₁ s₂ (trunk_leaves f t (f.trunk_count t - 0) 0) _ e

-- the freelist's total
module _ (f : File) (s : State) where
  pub free-stops : (x q : ℕ) → run f.N s (trunk_events f (suc f.N) 1 f.free_head) ≡ refused x q → run f.N s (free_events f) ≡ refused x q
  unfolding free_events
  free-stops x q e = then-refused f.N s x q (trunk_events f (suc f.N) 1 f.free_head) _ e

  module _ (s₁ : State) (e₁ : run f.N s (trunk_events f (suc f.N) 1 f.free_head) ≡ went s₁) where
    free-told : run f.N s (free_events f) ≡ run f.N s₁ (check (eqb (free_count f (suc f.N) f.free_head) f.free_total) 29 1)
    unfolding free_events
    free-told = then-went f.N s s₁ (trunk_events f (suc f.N) 1 f.free_head) _ e₁

    pub free-total-bad : free_count f (suc f.N) f.free_head ≢ f.free_total → run f.N s (free_events f) ≡ refused 29 1
    free-total-bad n = free-told ∙ rw (ne_eqb (free_count f (suc f.N) f.free_head) f.free_total n) (run-fail f.N s₁ [] 29 1)

    pub free-total-good : free_count f (suc f.N) f.free_head ≡ f.free_total → run f.N s (free_events f) ≡ went s₁
    free-total-good e = free-told ∙ rw (eq-eqb (free_count f (suc f.N) f.free_head) f.free_total e) (run_none f.N s₁)

-- the roots, page by page of the schema tree
pub roots-append : (ordered : List ℕ) (f : File) (a b : List (ℕ × ℕ)) → root_events ordered f (a ++ b) ≡ root_events ordered f a ++ root_events ordered f b
unfolding root_events
roots-append ordered f [] b = refl
roots-append ordered f (x ∷ a) b =
    ap (λ l. tree_events ordered f x.0 x.1 ++ l) (roots-append ordered f a b)
    ∙ sym (append_assoc (tree_events ordered f x.0 x.1) (root_events ordered f a) (root_events ordered f b))

one-root : (ordered : List ℕ) (f : File) (p r : ℕ) → root_events ordered f ((p, r) ∷ []) ≡ tree_events ordered f p r
unfolding root_events
one-root ordered f p r = append-nil (tree_events ordered f p r)

module _ (ordered : List ℕ) (f : File) (levels p : ℕ) (s : State) where
  pub roots-deep : levels ≡ 0 → run f.N s (root_events ordered f (schema_roots f levels p)) ≡ went s
  unfolding schema_roots root_events
  roots-deep z = rw z (run_none f.N s)

  module _ (some : levels ≢ 0) where
    roots-opened : schema_roots f levels p ≡ schema_roots f (suc (levels - 1)) p
    roots-opened = let e : levels ≡ suc (levels - 1) = omega arith in ap (λ l. schema_roots f l p) e

    pub roots-leaf : is_leaf f p ≡ true
        → run f.N s (root_events ordered f (schema_roots f levels p)) ≡ run f.N s (root_events ordered f (leaf_roots f p 0 (rest_of f p 0)))
    unfolding schema_roots
    roots-leaf l = ap (λ x. run f.N s (root_events ordered f x)) roots-opened ∙ rw (l, rest_all f p)

    pub roots-inner : is_leaf f p ≡ false
        → run f.N s (root_events ordered f (schema_roots f levels p))
        ≡ run f.N s (root_events ordered f (over_children (schema_roots f (levels - 1)) (f.right p) (rest_of f p 0)))
    unfolding schema_roots
    roots-inner l = ap (λ x. run f.N s (root_events ordered f x)) roots-opened ∙ rw (l, rest_all f p)

-- the rows of a schema leaf from index i on
module _ (ordered : List ℕ) (f : File) (p i : ℕ) (s : State) where
  pub rows_end : f.count p ≤ i → run f.N s (root_events ordered f (leaf_roots f p i (rest_of f p i))) ≡ went s
  unfolding leaf_roots root_events
  rows_end h = rw (rest_end f p i h) (run_none f.N s)

  module _ (h : i < f.count p) where
    rows_next : root_events ordered f (leaf_roots f p i (rest_of f p i))
        ≡ root_events ordered f (root_at p (named_by (f.column4 p i))) ++ root_events ordered f (leaf_roots f p (i + 1) (rest_of f p (i + 1)))
    unfolding leaf_roots
    rows_next =
        let e : suc i ≡ i + 1 = omega arith in
        rw (rest_more f p i h, e) (roots-append ordered f (root_at p (named_by (f.column4 p i))) (leaf_roots f p (i + 1) (rest_of f p (i + 1))))

    pub rows-nothing : named_by (f.column4 p i) ≡ nothing
        → run f.N s (root_events ordered f (leaf_roots f p i (rest_of f p i)))
        ≡ run f.N s (root_events ordered f (leaf_roots f p (i + 1) (rest_of f p (i + 1))))
    rows-nothing e = ap (run f.N s) rows_next ∙ (unfold root_events in rw e)

    module _ (r : ℕ) (names : named_by (f.column4 p i) ≡ root r) where
      rows-root : root_events ordered f (leaf_roots f p i (rest_of f p i))
          ≡ tree_events ordered f p r ++ root_events ordered f (leaf_roots f p (i + 1) (rest_of f p (i + 1)))
      rows-root = rows_next ∙ ap (λ v. root_events ordered f (root_at p v) ++ root_events ordered f (leaf_roots f p (i + 1) (rest_of f p (i + 1)))) names
          ∙ ap (λ l. l ++ root_events ordered f (leaf_roots f p (i + 1) (rest_of f p (i + 1)))) (one-root ordered f p r)

      pub rows-stop : (x q : ℕ) → run f.N s (tree_events ordered f p r) ≡ refused x q
          → run f.N s (root_events ordered f (leaf_roots f p i (rest_of f p i))) ≡ refused x q
      rows-stop x q e = ap (run f.N s) rows-root ∙ then-refused f.N s x q (tree_events ordered f p r) _ e

      pub rows-go : (s' : State) → run f.N s (tree_events ordered f p r) ≡ went s'
          → run f.N s (root_events ordered f (leaf_roots f p i (rest_of f p i)))
          ≡ run f.N s' (root_events ordered f (leaf_roots f p (i + 1) (rest_of f p (i + 1))))
      rows-go s' e = ap (run f.N s) rows-root ∙ then-went f.N s s' (tree_events ordered f p r) _ e

-- a root: named, then its tree begins
module _ (ordered : List ℕ) (f : File) (h r : ℕ) (s : State) where
  pub root-stops : (x q : ℕ) → run f.N s (name h r root_kind ∷ []) ≡ refused x q → run f.N s (tree_events ordered f h r) ≡ refused x q
  root-stops x q e = then-refused f.N s x q (name h r root_kind ∷ []) (start ∷ page_events f (mode_for ordered r) level_limit any_root r) e

  pub root-goes : (s₁ : State) → run f.N s (name h r root_kind ∷ []) ≡ went s₁
      → run f.N s (tree_events ordered f h r) ≡ run f.N (state s₁.kinds s₁.namers none 0) (page_events f (mode_for ordered r) level_limit any_root r)
  root-goes s₁ e =
      then-went f.N s s₁ (name h r root_kind ∷ []) (start ∷ page_events f (mode_for ordered r) level_limit any_root r) e
      ∙ run-start f.N s₁ (page_events f (mode_for ordered r) level_limit any_root r)

-- the children of a schema interior page from index i on
module _ (ordered : List ℕ) (f : File) (l p i : ℕ) (s : State) where
  pub children-end : f.count p ≤ i
      → run f.N s (root_events ordered f (over_children (schema_roots f l) (f.right p) (rest_of f p i)))
      ≡ run f.N s (root_events ordered f (schema_roots f l (f.right p)))
  unfolding over_children
  children-end h = rw (rest_end f p i h)

  module _ (h : i < f.count p) where
    children-next : root_events ordered f (over_children (schema_roots f l) (f.right p) (rest_of f p i))
        ≡ root_events ordered f (schema_roots f l (f.cell p i).child) ++ root_events ordered f (over_children (schema_roots f l) (f.right p) (rest_of f p (i + 1)))
    unfolding over_children
    children-next =
        rw (rest_more f p i h)
        (roots-append ordered f (schema_roots f l (f.cell p i).child) (over_children (schema_roots f l) (f.right p) (rest_of f p (i + 1))))

    pub children-stop : (x q : ℕ) → run f.N s (root_events ordered f (schema_roots f l (f.cell p i).child)) ≡ refused x q
        → run f.N s (root_events ordered f (over_children (schema_roots f l) (f.right p) (rest_of f p i))) ≡ refused x q
    children-stop x q e = ap (run f.N s) children-next ∙ then-refused f.N s x q (root_events ordered f (schema_roots f l (f.cell p i).child)) _ e

    pub children-go : (s' : State) → run f.N s (root_events ordered f (schema_roots f l (f.cell p i).child)) ≡ went s'
        → run f.N s (root_events ordered f (over_children (schema_roots f l) (f.right p) (rest_of f p i)))
        ≡ run f.N s' (root_events ordered f (over_children (schema_roots f l) (f.right p) (rest_of f p (i + 1))))
    children-go s' e = ap (run f.N s) children-next ∙ then-went f.N s s' (root_events ordered f (schema_roots f l (f.cell p i).child)) _ e

-- the whole walk: the schema tree, the freelist, the roots; then the verdict
module _ (ordered : List ℕ) (f : File) (s : State) where
  pub schema-stops : (x q : ℕ) → run f.N s (start ∷ page_events f schema_tree level_limit schema_root 1) ≡ refused x q
      → run f.N s (events ordered f) ≡ refused x q
  unfolding events
  schema-stops x q e = then-refused f.N s x q (start ∷ page_events f schema_tree level_limit schema_root 1) _ e

  module _ (s₁ : State) (e₁ : run f.N s (start ∷ page_events f schema_tree level_limit schema_root 1) ≡ went s₁) where
    schema-walked : run f.N s (events ordered f) ≡ run f.N s₁ (free_events f ++ root_events ordered f (schema_roots f level_limit 1))
    unfolding events
    schema-walked = then-went f.N s s₁ (start ∷ page_events f schema_tree level_limit schema_root 1) _ e₁

    pub freelist-stops : (x q : ℕ) → run f.N s₁ (free_events f) ≡ refused x q → run f.N s (events ordered f) ≡ refused x q
    freelist-stops x q e = schema-walked ∙ then-refused f.N s₁ x q (free_events f) _ e

    pub freelist-goes : (s₂ : State) → run f.N s₁ (free_events f) ≡ went s₂
        → run f.N s (events ordered f) ≡ run f.N s₂ (root_events ordered f (schema_roots f level_limit 1))
    freelist-goes s₂ e = schema-walked ∙ then-went f.N s₁ s₂ (free_events f) _ e

-- the first page that was never named: every page before it has a kind
pub first-zero : (l : List ℕ) (i : ℕ) → i < length l → ((j : ℕ) → j < i → get_or l j 0 ≢ 0) → get_or l i 0 ≡ 0 → first_zero l ≡ i
unfolding first_zero
first-zero [] i h k e = absurd (omega arith)
first-zero (zero ∷ l) zero h k e = refl
first-zero (suc x ∷ l) zero h k e = absurd (omega arith)
first-zero (zero ∷ l) (suc i) h k e = absurd (k 0 (omega arith) refl)
first-zero (suc x ∷ l) (suc i) h k e = ap suc (first-zero l i (omega arith) (λ j b. k (suc j) (omega arith)) e)

pub no_zero : (l : List ℕ) → ((j : ℕ) → j < length l → get_or l j 0 ≢ 0) → first_zero l ≡ length l
unfolding first_zero
no_zero [] k = refl
no_zero (zero ∷ l) k = absurd (k 0 (omega arith) refl)
no_zero (suc x ∷ l) k = ap suc (no_zero l (λ j b. k (suc j) (omega arith)))

module _ (ordered : List ℕ) (f : File) where
  pub verdict-refused : (x q : ℕ) → run f.N (blank f) (events ordered f) ≡ refused x q → verdict_for ordered f ≡ refusal x q
  unfolding verdict_for finish
  verdict-refused x q e = rw e

  module _ (s : State) (e : run f.N (blank f) (events ordered f) ≡ went s) where
    pub verdict-unnamed : first_zero s.kinds < f.N → verdict_for ordered f ≡ refusal 30 (suc (first_zero s.kinds))
    unfolding verdict_for finish
    verdict-unnamed h = rw (e, lt-ltb (first_zero s.kinds) f.N h)

    pub verdict-settled : f.N ≤ first_zero s.kinds
        → verdict_for ordered f ≡ settle (final f s.kinds s.namers ++ name_checks f s.kinds ordered) s.kinds s.namers
    unfolding verdict_for finish
    verdict-settled h = rw (e, le-ltb (first_zero s.kinds) f.N h) refl

-- a tree begins
pub tree-begins : (N : ℕ) (s : State) (es : List Event) → run N s (start ∷ es) ≡ run N (state s.kinds s.namers none 0) es
tree-begins N s es = run-start N s es
