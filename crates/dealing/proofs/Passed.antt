-- What is known once a walk has gone through: of a tree page, its cells, children and chains. For code that reads the schema tree again, and for payloads.
use mathlib.Core.Path.{◌≡◌, refl, sym, ◌∙◌, ap, subst}
use mathlib.Core.Bool.{Bool, true, false, cond}
use mathlib.Core.Logic.{◌≢◌}
use mathlib.Core.Option.{none}
use mathlib.Core.List.{List, [], ◌∷◌, ◌++◌}
use Prim.Native.Nat.{ℕ, zero, suc, ◌+◌, ◌-◌, ◌≤◌, ◌<◌}
use native.Mathlib.Nat.{zero-add}
use native.Mathlib.Omega.{arith}
use native.Mathlib.Decide.{ℕ_discrete}
use lib.Dec.{eqb}
use lib.ListN.{get_or}
use borrow.Author.Tests.{eq-eqb, ne_eqb, leb-true, le-leb}
use Rattle.dealing.specs.File.{Cell, File, Page, is_leaf, is_table, cells_from, Place, schema_root, child_place, level_limit, tree_kind}
use Rattle.dealing.specs.File.{first_kind, later_kind}
use Rattle.dealing.specs.Walk.{Mode, schema_tree, is_schema, is_ordered, entry_of, payload_events, Event, start, name, leaf, check, not0}
use Rattle.dealing.specs.Walk.{chain_events, chain_of, row_of, fit, schema_row, leaf_cell, leaf_events, child_events, key_or_chain, inner_cell}
use Rattle.dealing.specs.Walk.{inner_events, page_events, State, state, went, refused, in_range, enter, step, and_then, run, fault_in}
use Rattle.dealing.specs.Lookup.{whole, stops, follow, follow_cell}
use Rattle.dealing.proofs.RunLaws.{went-split, run-fail, run-start}
use Rattle.dealing.proofs.WalkLaws.{rest_of, page-deep, page-fault, page-leaf, page-inner}

never : {A : Type 0} (x q : ℕ) (s : State) → refused x q ≡ went s → A
never x q s e = absurd (let z : ◌≡◌ {A = ℕ} 0 1 = cc in omega arith)

pub in-range : (N t : ℕ) → in_range N t ≡ true → (1 ≤ t) × (t ≤ N)
in-range N zero e = absurd (let z : ◌≡◌ {A = ℕ} 0 1 = cc in omega arith)
in-range N (suc t) e = (omega arith, leb-true (suc t) N e)

pub range-in : (N t : ℕ) → 1 ≤ t → t ≤ N → in_range N t ≡ true
range-in N zero a b = absurd (omega arith)
range-in N (suc t) a b = le-leb (suc t) N b

-- a page that was named is one of 1 to N
pub named-page : (f : File) (s s' : State) (h t k : ℕ) → run f.N s (name h t k ∷ []) ≡ went s' → Page f t
unfolding run step and_then
named-page f s s' h t k e = go (in_range f.N t) refl e
  where
    go : (b : Bool) → in_range f.N t ≡ b
        → and_then (cond b (cond (eqb (get_or s.kinds (t - 1) 0) 0) (went (enter s h t k)) (refused 21 t)) (refused 20 h)) (λ s₁. run f.N s₁ [])
        ≡ went s' → Page f t
    go true r e = in-range f.N t r
    go false r e = never 20 h s' e

-- a chain that was walked is whole
pub chain-whole : (f : File) (n h k t : ℕ) (s s' : State) → run f.N s (chain_events f h k n t) ≡ went s' → follow f h n t ≡ whole
unfolding chain_events follow
chain-whole f zero h k t s s' e = go (ℕ_discrete t 0)
  where
    go : Dec (t ≡ 0) → cond (eqb t 0) whole (stops 27 h) ≡ whole
    go (yes z) = rw (eq-eqb t 0 z)
    go (no n) = never 27 h s' (sym (run-fail f.N s [] 27 h) ∙ ap (λ b. run f.N s (check b 27 h)) (sym (ne_eqb t 0 n)) ∙ e)
chain-whole f (suc n) h k zero s s' e = never 27 h s' (sym (run-fail f.N s (name h 0 k ∷ chain_events f 0 later_kind n (f.next 0)) 27 h) ∙ e)
chain-whole f (suc n) h k (suc t) s s' e =
    let w = went-split f.N s s' (name h (suc t) k ∷ []) (chain_events f (suc t) later_kind n (f.next (suc t))) e in
    let r = named-page f s w.0 h (suc t) k w.1 in
    rw (range-in f.N (suc t) r.0 r.1) (chain-whole f n (suc t) later_kind (f.next (suc t)) w.0 s' w.2)

pub cell-whole : (f : File) (p links t : ℕ) (s s' : State) → run f.N s (chain_of f p links t) ≡ went s' → follow_cell f p links t ≡ whole
unfolding chain_of follow_cell
cell-whole f p zero t s s' e = refl
cell-whole f p (suc n) t s s' e = chain-whole f (suc n) p first_kind t s s' e

pub payload-whole : (f : File) (p : ℕ) (c : Cell) (s s' : State) → run f.N s (payload_events f p c) ≡ went s' → follow_cell f p c.links c.first ≡ whole
unfolding payload_events
payload-whole f p c s s' e =
    let z = went-split f.N s s' (chain_of f p c.links c.first) (check c.reads 28 p) e in
    cell-whole f p c.links c.first s z.0 z.1

-- and its record reads
pub payload-read : (f : File) (p : ℕ) (c : Cell) (s s' : State) → run f.N s (payload_events f p c) ≡ went s' → c.reads ≡ true
unfolding payload_events
payload-read f p c s s' e =
    let z = went-split f.N s s' (chain_of f p c.links c.first) (check c.reads 28 p) e in
    go c.reads z.0 z.2
  where
    go : (b : Bool) (s : State) → run f.N s (check b 28 p) ≡ went s' → b ≡ true
    go true s e = refl
    go false s e = never 28 p s' (sym (run-fail f.N s [] 28 p) ∙ e)

-- the pages of a whole chain are pages of the file, and the last one's next is zero
pub whole-more : (f : File) (h n t : ℕ) → n ≢ 0 → follow f h n t ≡ whole → Page f t × (follow f t (n - 1) (f.next t) ≡ whole)
whole-more f h n t some e = go n (n - 1) (omega arith) e
  where
    stopped : {A : Type 0} (x q : ℕ) → stops x q ≡ whole → A
    stopped x q e = absurd (let z : ◌≡◌ {A = ℕ} 0 1 = cc in omega arith)

    ranged : (m : ℕ) (b : Bool) → in_range f.N t ≡ b → cond b (follow f t m (f.next t)) (stops 20 h) ≡ whole → Page f t × (follow f t m (f.next t) ≡ whole)
    ranged m true r e = (in-range f.N t r, e)
    ranged m false r e = stopped 20 h e

    zeroed : (m : ℕ) (b : Bool) → cond b (cond (in_range f.N t) (follow f t m (f.next t)) (stops 20 h)) (stops 27 h) ≡ whole
        → Page f t × (follow f t m (f.next t) ≡ whole)
    zeroed m true e = ranged m (in_range f.N t) refl e
    zeroed m false e = stopped 27 h e

    go : (n m : ℕ) → n ≡ suc m → follow f h n t ≡ whole → Page f t × (follow f t m (f.next t) ≡ whole)
    go n m k e = zeroed m (not0 t) (unfold follow in rw k at e)

-- a tree page that was walked through
abbrev pub Passed : File → Mode → (levels : ℕ) → Place → (page : ℕ) → Type 0
Passed f mode l place p = (s s' : State) × (run f.N s (page_events f mode l place p) ≡ went s')

-- the schema tree, where its walk went through
pub schema-passed : (f : File) (s s' : State) → run f.N s (start ∷ page_events f schema_tree level_limit schema_root 1) ≡ went s'
    → Passed f schema_tree level_limit schema_root 1
schema-passed f s s' e = (state s.kinds s.namers none 0, s', sym (run-start f.N s (page_events f schema_tree level_limit schema_root 1)) ∙ e)

module _ (f : File) (mode : Mode) where
  leaf-at : (p i k : ℕ) (s s' : State) → run f.N s (leaf_events f mode p i (cells_from f p i k)) ≡ went s' → (j : ℕ) → j < k
      → (s₁ s₂ : State) × (run f.N s₁ (leaf_cell f mode p (i + j) (f.cell p (i + j))) ≡ went s₂)
  unfolding leaf_events cells_from
  leaf-at p i zero s s' e j h = absurd (omega arith)
  leaf-at p i (suc k) s s' e zero h =
      let w = went-split f.N s s' (leaf_cell f mode p i (f.cell p i)) (leaf_events f mode p (suc i) (cells_from f p (suc i) k)) e in
      let z : i ≡ i + 0 = omega arith in
      (s, w.0, subst (λ i. run f.N s (leaf_cell f mode p i (f.cell p i)) ≡ went w.0) z w.1)
  leaf-at p i (suc k) s s' e (suc j) h =
      let w = went-split f.N s s' (leaf_cell f mode p i (f.cell p i)) (leaf_events f mode p (suc i) (cells_from f p (suc i) k)) e in
      let u = leaf-at p (suc i) k w.0 s' w.2 j (omega arith) in
      let z : suc i + j ≡ i + suc j = omega arith in
      (u.0, u.1, subst (λ i. run f.N u.0 (leaf_cell f mode p i (f.cell p i)) ≡ went u.1) z u.2)

  module _ (below : ℕ → List Event) where
    inner-at : (p i k : ℕ) (s s' : State) → run f.N s (inner_events f mode below p (cells_from f p i k)) ≡ went s' → (j : ℕ) → j < k
        → (s₁ s₂ : State) × (run f.N s₁ (inner_cell f mode below p (f.cell p (i + j))) ≡ went s₂)
    unfolding inner_events cells_from
    inner-at p i zero s s' e j h = absurd (omega arith)
    inner-at p i (suc k) s s' e zero h =
        let w = went-split f.N s s' (inner_cell f mode below p (f.cell p i)) (inner_events f mode below p (cells_from f p (suc i) k)) e in
        let z : i ≡ i + 0 = omega arith in
        (s, w.0, subst (λ i. run f.N s (inner_cell f mode below p (f.cell p i)) ≡ went w.0) z w.1)
    inner-at p i (suc k) s s' e (suc j) h =
        let w = went-split f.N s s' (inner_cell f mode below p (f.cell p i)) (inner_events f mode below p (cells_from f p (suc i) k)) e in
        let u = inner-at p (suc i) k w.0 s' w.2 j (omega arith) in
        let z : suc i + j ≡ i + suc j = omega arith in
        (u.0, u.1, subst (λ i. run f.N u.0 (inner_cell f mode below p (f.cell p i)) ≡ went u.1) z u.2)

    inner-right : (p i k : ℕ) (s s' : State) → run f.N s (inner_events f mode below p (cells_from f p i k)) ≡ went s'
        → (s₁ s₂ : State) × (run f.N s₁ (child_events below p (f.right p)) ≡ went s₂)
    unfolding inner_events cells_from
    inner-right p i zero s s' e = (s, s', e)
    inner-right p i (suc k) s s' e =
        let w = went-split f.N s s' (inner_cell f mode below p (f.cell p i)) (inner_events f mode below p (cells_from f p (suc i) k)) e in
        inner-right p (suc i) k w.0 s' w.2

    child-at : (p t : ℕ) (s s' : State) → run f.N s (child_events below p t) ≡ went s' → Page f t × ((s₁ s₂ : State) × (run f.N s₁ (below t) ≡ went s₂))
    child-at p t s s' e =
        let w = went-split f.N s s' (name p t tree_kind ∷ []) (below t) e in
        (named-page f s w.0 p t tree_kind w.1, (w.0, s', w.2))

  module _ (l : ℕ) (place : Place) (p : ℕ) (passed : Passed f mode l place p) where
    pub passed-some : l ≢ 0
    passed-some z = never 24 p passed.1 (sym (page-deep f mode l place p passed.0 z) ∙ passed.2)

    pub passed-fault : fault_in f place p ≡ 0
    passed-fault = go (ℕ_discrete (fault_in f place p) 0)
      where
        go : Dec (fault_in f place p ≡ 0) → fault_in f place p ≡ 0
        go (yes e) = e
        go (no n) = never (fault_in f place p) p passed.1 (sym (page-fault f mode l place p passed.0 passed-some n) ∙ passed.2)

    -- on a leaf: each cell
    module _ (is_is_leaf : is_leaf f p ≡ true) where
      pub passed-cell : (j : ℕ) → j < f.count p → (s₁ s₂ : State) × (run f.N s₁ (leaf_cell f mode p j (f.cell p j)) ≡ went s₂)
      passed-cell j h =
          let e = sym (page-leaf f mode l place p passed.0 passed-some passed-fault is_is_leaf) ∙ passed.2 in
          let w = went-split f.N passed.0 passed.1 (leaf p l ∷ []) (leaf_events f mode p 0 (rest_of f p 0)) e in
          let u = leaf-at p 0 (f.count p - 0) w.0 passed.1 w.2 j (omega arith) in
          (u.0, u.1, subst (λ i. run f.N u.0 (leaf_cell f mode p i (f.cell p i)) ≡ went u.1) (zero-add j) u.2)

      pub passed-chain : (j : ℕ) → j < f.count p → follow_cell f p (f.cell p j).links (f.cell p j).first ≡ whole
      unfolding leaf_cell
      passed-chain j h =
          let u = passed-cell j h in
          let c = f.cell p j in
          let w =
          went-split f.N u.0 u.1 (row_of (is_table f p) p c.row)
          (payload_events f p c ++ (entry_of (is_ordered mode) (is_table f p) p c ++ schema_row f.N (is_schema mode) (f.column4 p j) p)) u.2 in
          let v =
          went-split f.N w.0 u.1 (payload_events f p c)
          (entry_of (is_ordered mode) (is_table f p) p c ++ schema_row f.N (is_schema mode) (f.column4 p j) p) w.2 in
          payload-whole f p c w.0 v.0 v.1

      pub passed-fit : is_schema mode ≡ true → (j : ℕ) → j < f.count p → fit f.N (f.column4 p j) ≡ true
      unfolding leaf_cell
      passed-fit is-schema j h =
          let u = passed-cell j h in
          let c = f.cell p j in
          let w =
          went-split f.N u.0 u.1 (row_of (is_table f p) p c.row)
          (payload_events f p c ++ (entry_of (is_ordered mode) (is_table f p) p c ++ schema_row f.N (is_schema mode) (f.column4 p j) p)) u.2 in
          let v =
          went-split f.N w.0 u.1 (payload_events f p c)
          (entry_of (is_ordered mode) (is_table f p) p c ++ schema_row f.N (is_schema mode) (f.column4 p j) p) w.2 in
          let z = went-split f.N v.0 u.1 (entry_of (is_ordered mode) (is_table f p) p c) (schema_row f.N (is_schema mode) (f.column4 p j) p) v.2 in
          go (fit f.N (f.column4 p j)) refl z.0 u.1 z.2
        where
          go : (b : Bool) → fit f.N (f.column4 p j) ≡ b → (s s' : State)
              → run f.N s (schema_row f.N (is_schema mode) (f.column4 p j) p) ≡ went s' → b ≡ true
          go true k s s' e = refl
          go false k s s' e =
              never 28 p s' (sym (run-fail f.N s [] 28 p) ∙ ap (λ b. run f.N s (check b 28 p)) (sym k)
              ∙ ap (λ b. run f.N s (schema_row f.N b (f.column4 p j) p)) (sym is-schema) ∙ e)

    -- on an interior page: each child
    module _ (is-inner : is_leaf f p ≡ false) where
      abbrev below : ℕ → List Event
      below = page_events f mode (l - 1) (child_place (is_table f p))

      pub passed-child : (j : ℕ) → j < f.count p → Page f (f.cell p j).child × Passed f mode (l - 1) (child_place (is_table f p)) (f.cell p j).child
      unfolding inner_cell
      passed-child j h =
          let e = sym (page-inner f mode l place p passed.0 passed-some passed-fault is-inner) ∙ passed.2 in
          let u = inner-at below p 0 (f.count p - 0) passed.0 passed.1 e j (omega arith) in
          let c = f.cell p (0 + j) in
          let w = went-split f.N u.0 u.1 (child_events below p c.child) (key_or_chain f mode (is_table f p) p c) u.2 in
          subst (λ i. Page f (f.cell p i).child × Passed f mode (l - 1) (child_place (is_table f p)) (f.cell p i).child) (zero-add j)
          (child-at below p c.child u.0 w.0 w.1)

      pub passed-right : Page f (f.right p) × Passed f mode (l - 1) (child_place (is_table f p)) (f.right p)
      passed-right =
          let e = sym (page-inner f mode l place p passed.0 passed-some passed-fault is-inner) ∙ passed.2 in
          let u = inner-right below p 0 (f.count p - 0) passed.0 passed.1 e in
          child-at below p (f.right p) u.0 u.1 u.2
