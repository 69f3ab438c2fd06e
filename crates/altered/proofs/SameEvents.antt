-- Two files that agree where a good dealing of the first looks: the walk meets the same events in both, so that it answers alike whatever
-- roots are named, refusals included.
use mathlib.Core.Path.{◌≡◌, refl, sym, ◌∙◌, ap, ap₂, subst}
use mathlib.Core.Bool.{Bool, true, false, cond, true≢false}
use mathlib.Core.Logic.{◌≢◌, ◌⊎◌, inl, inr, ⊎_elim}
use mathlib.Core.List.Memᴰ.{head as here}
use mathlib.Core.List.Memᴰ.{tail as there}
use mathlib.Core.List.{List, [], ◌∷◌, ◌++◌, Memᴰ as Mem}
use Prim.Native.Nat.{ℕ, zero, suc, ◌+◌, ◌≤◌, ◌<◌}
use native.Mathlib.Omega.{arith}
use lib.Dec.{eqb, leb}
use Rattle.dealing.specs.File.{Cell, File, Page, Nameable, is_leaf, is_table, HasPayload, Interior, Column4, cells_from, cells_of, Place, child_place, any_root}
use Rattle.dealing.specs.File.{schema_root, level_limit}
use Rattle.dealing.specs.File.{root_kind, first_kind, later_kind, tree_kind, trunk_kind}
use Rattle.dealing.specs.Good.{Dealing, Slot, child_slot, right_slot, head_slot, next_slot, root_slot, TreePage, InTree, PointsTo, Linked, chain_pages, Good}
use Rattle.dealing.specs.Walk.{Event, start, name, leaf, check, faults, not0, chain_events, chain_of, payload_events, row_of, schema_row, Mode, ordered_tree, plain_tree}
use Rattle.dealing.specs.Walk.{schema_tree, is_schema, is_ordered, entry_of, leaf_cell, leaf_events, key_or_chain, inner_cell, inner_events, fault_in}
use Rattle.dealing.specs.Walk.{page_events}
use Rattle.dealing.specs.Walk.{is_named, named_by, root_at, leaf_roots, over_children, schema_roots, mode_for, root_events, trunk_leaves, trunk_events}
use Rattle.dealing.specs.Walk.{free_count, free_events, events}
use Rattle.dealing.proofs.Lists.{At}
use Rattle.dealing.proofs.Cells.{at-is}
use Rattle.dealing.proofs.Rules.{named-number}
use Rattle.dealing.proofs.Rich.{root_in}
use Rattle.dealing.proofs.Match.{tree-page}
use Rattle.dealing.proofs.Grow.{grow-tree}
use Rattle.dealing.proofs.Trees.{descend, leafy_roots, roots-collect, leaf-roots-out}
use Rattle.dealing.proofs.Theorems.{payload-linked}
use Rattle.altered.proofs.Same.{bare, bares, by_bare, Same, leaf-same, table_same, all-cells, right-tree, cell-tree, listed-tree}

leaf-bare : (f : File) (mode : Mode) (q i : ℕ) (cs : List Cell) → leaf_events f mode q i (bares (is_table f q) cs) ≡ leaf_events f mode q i cs
unfolding leaf_events leaf_cell payload_events bares
leaf-bare f mode q i [] = refl
leaf-bare f mode q i (c ∷ cs) =
    ap₂ (λ e es. (row_of (is_table f q) q c.row ++ (payload_events f q c ++ (e ++ schema_row f.N (is_schema mode) (f.column4 q i) q))) ++ es)
    (one (is_ordered mode) (is_table f q)) (leaf-bare f mode q (suc i) cs)
  where
    one : (o t : Bool) → entry_of o t q (bare t c) ≡ entry_of o t q c
    one true true = refl
    one true false = refl
    one false true = refl
    one false false = refl

inner-bare : (f : File) (mode : Mode) (r : ℕ → List Event) (q : ℕ) (cs : List Cell)
    → inner_events f mode r q (bares (is_table f q) cs) ≡ inner_events f mode r q cs
unfolding inner_events inner_cell payload_events bares
inner-bare f mode r q [] = refl
inner-bare f mode r q (c ∷ cs) =
    ap₂ (λ k es. (name q c.child tree_kind ∷ r c.child ++ k) ++ es) (one (is_ordered mode) (is_table f q)) (inner-bare f mode r q cs)
  where
    plain : (o : Bool) → entry_of o false q (bare false c) ≡ entry_of o false q c
    plain true = refl
    plain false = refl

    one : (o t : Bool) → key_or_chain f mode t q (bare t c) ≡ key_or_chain f mode t q c
    one o true = refl
    one o false = ap (λ es. payload_events f q c ++ es) (plain (is_ordered mode))

over-bare : {A : Type 0} (r : ℕ → List A) (right : ℕ) (t : Bool) (cs : List Cell) → over_children r right (bares t cs) ≡ over_children r right cs
unfolding over_children bares
over-bare r right t [] = refl
over-bare r right t (c ∷ cs) = ap (λ xs. r c.child ++ xs) (over-bare r right t cs)

roots-bare : (f : File) (q i : ℕ) (t : Bool) (cs : List Cell) → leaf_roots f q i (bares t cs) ≡ leaf_roots f q i cs
unfolding leaf_roots bares
roots-bare f q i t [] = refl
roots-bare f q i t (c ∷ cs) = ap (λ xs. root_at q (named_by (f.column4 q i)) ++ xs) (roots-bare f q (suc i) t cs)

-- column four is looked at in the schema's tree alone
schema_row_is : (n' n : ℕ) (schema : Bool) (v' v : Column4) (q : ℕ) → n' ≡ n → (schema ≡ true → v' ≡ v) → schema_row n' schema v' q ≡ schema_row n schema v q
schema_row_is n' n true v' v q e w = ap₂ (λ n v. schema_row n true v q) e (w refl)
schema_row_is n' n false v' v q e w = refl

not-schema : (b : Bool) → is_schema (cond b ordered_tree plain_tree) ≡ true → ⊥
not-schema true e = true≢false (sym e)
not-schema false e = true≢false (sym e)

module _ (f f' : File) (d : Dealing) (some : 1 ≤ f.N) (S : Same f f' d) (g : Good f d) where
  abbrev Tree : ℕ → Type 0
  Tree q = Page f q × TreePage d q

  -- ---- payloads
  chain-events : (n t holder kind k h : ℕ) → (k ≡ first_kind) ⊎ (k ≡ later_kind) → Linked f d h k (chain_pages f n t)
      → chain_events f' holder kind n t ≡ chain_events f holder kind n t
  unfolding chain_events chain_pages
  chain-events zero t holder kind k h o w = refl
  chain-events (suc n) t holder kind k h o w =
      let l : Nameable f t = w.0 in
      let p : Page f t = omega arith in
      let e = S.next t p (⊎_elim (λ z. inl (w.1 ∙ z)) (λ z. inr (w.1 ∙ z)) o) in
      ap (λ es. check (not0 t) 27 holder ++ name holder t kind ∷ es)
      (ap (chain_events f' t later_kind n) e ∙ chain-events n (f.next t) t later_kind later_kind t (inr refl) w.3)

  payload_same : (q : ℕ) → Tree q → HasPayload f q → (j : ℕ) → j < f.count q → payload_events f' q (f.cell q j) ≡ payload_events f q (f.cell q j)
  unfolding payload_events chain_of
  payload_same q t p j l = ap (λ es. es ++ check (f.cell q j).reads 28 q) (go (f.cell q j).links refl)
    where
      go : (n : ℕ) → (f.cell q j).links ≡ n → chain_of f' q n (f.cell q j).first ≡ chain_of f q n (f.cell q j).first
      go zero e = refl
      go (suc n) e =
          let w = payload-linked f d g q j t.0 t.1 p l in
          chain-events (suc n) (f.cell q j).first q first_kind first_kind q (inl refl)
          (subst (λ n. Linked f d q first_kind (chain_pages f n (f.cell q j).first)) e w)

  table_is : (q : ℕ) → Tree q → is_table f' q ≡ is_table f q
  table_is q t = table_same f f' d some S g q t.0 t.1

  leaf-is : (q : ℕ) → Tree q → is_leaf f' q ≡ is_leaf f q
  leaf-is q t = leaf-same f f' d some S g q t.0 t.1

  -- where the schema's tree is walked, the page is one of it
  abbrev Of : (schema : Bool) → ℕ → Type 0
  Of s q = s ≡ true → (n : ℕ) × InTree f d 1 n q

  of-child : (s : Bool) (q : ℕ) (x : Slot) (c : ℕ) → Page f q → PointsTo f d q x c tree_kind → Of s q → Of s c
  of-child s q x c h w o e =
      let u = g.pointers q x c tree_kind h w in
      let i = o e in
      (suc i.0, grow-tree f d i.0 1 q c i.1 u.0 u.1 u.2)

  of_right : (s : Bool) (q : ℕ) → Tree q → Interior f q → Of s q → Of s (f.right q)
  of_right s q t e o = of-child s q right_slot (f.right q) t.0 (t.1, e, refl, refl) o

  of-cell : (s : Bool) (q j : ℕ) → Tree q → Interior f q → j < f.count q → Of s q → Of s (f.cell q j).child
  of-cell s q j t e l o = of-child s q (child_slot j) (f.cell q j).child t.0 (t.1, e, l, refl, refl) o

  cells_are : (q : ℕ) → Tree q → bares (is_table f q) (cells_of f' q) ≡ bares (is_table f q) (cells_of f q)
  cells_are q t = all-cells f f' d some S g q t.0 t.1

  fault-same : (q : ℕ) → Tree q → (place : Place) → fault_in f' place q ≡ fault_in f place q
  unfolding fault_in
  fault-same q t place = rw (S.type q t.0 t.1, S.broken q t.0 t.1) refl

  -- ---- leaves
  leaf-cell : (q : ℕ) → Tree q → is_leaf f q ≡ true → (mode : Mode) → Of (is_schema mode) q → (j : ℕ) → j < f.count q
      → leaf_cell f' mode q j (f.cell q j) ≡ leaf_cell f mode q j (f.cell q j)
  unfolding leaf_cell
  leaf-cell q t e mode o j l =
      ap₂ (λ x y. row_of x q (f.cell q j).row ++ y) (table_is q t)
      (ap₂ ◌++◌ (payload_same q t (rw e refl) j l)
      (ap₂ (λ x y. entry_of (is_ordered mode) x q (f.cell q j) ++ y) (table_is q t)
      (schema_row_is f'.N f.N (is_schema mode) (f'.column4 q j) (f.column4 q j) q S.N (λ z. S.column4 q j t.0 (o z, e, l)))))

  leaf-events : (q : ℕ) → Tree q → is_leaf f q ≡ true → (mode : Mode) → Of (is_schema mode) q → (i k : ℕ) → i + k ≤ f.count q
      → leaf_events f' mode q i (cells_from f q i k) ≡ leaf_events f mode q i (cells_from f q i k)
  unfolding leaf_events cells_from
  leaf-events q t e mode o i zero h = refl
  leaf-events q t e mode o i (suc k) h = ap₂ ◌++◌ (leaf-cell q t e mode o i (omega arith)) (leaf-events q t e mode o (suc i) k (omega arith))

  -- ---- interior pages
  inner-cell : (q : ℕ) → Tree q → is_leaf f q ≡ false → (mode : Mode) (r' r : ℕ → List Event) (j : ℕ) → j < f.count q
      → r' (f.cell q j).child ≡ r (f.cell q j).child
      → inner_cell f' mode r' q (f.cell q j) ≡ inner_cell f mode r q (f.cell q j)
  unfolding inner_cell
  inner-cell q t e mode r' r j l x =
      ap₂ (λ a b. name q (f.cell q j).child tree_kind ∷ a ++ b) x
      (ap (λ b. key_or_chain f' mode b q (f.cell q j)) (table_is q t) ∙ go (is_table f q) refl)
    where
      go : (b : Bool) → is_table f q ≡ b → key_or_chain f' mode b q (f.cell q j) ≡ key_or_chain f mode b q (f.cell q j)
      go true k = refl
      go false k = ap (λ es. es ++ entry_of (is_ordered mode) false q (f.cell q j)) (payload_same q t (rw (e, k) refl) j l)

  inner-events : (q : ℕ) → Tree q → is_leaf f q ≡ false → (mode : Mode) → Of (is_schema mode) q → (r' r : ℕ → List Event)
      → ((c : ℕ) → Tree c → Of (is_schema mode) c → r' c ≡ r c) → (i k : ℕ)
      → i + k ≤ f.count q
      → inner_events f' mode r' q (cells_from f q i k) ≡ inner_events f mode r q (cells_from f q i k)
  unfolding inner_events cells_from
  inner-events q t e mode o r' r x i zero h =
      ap (λ c. name q c tree_kind ∷ r' c) (S.right q t.0 t.1)
      ∙ ap (λ es. name q (f.right q) tree_kind ∷ es) (x (f.right q) (right-tree f f' d some S g q t.0 t.1 e)
      (of_right (is_schema mode) q t e o))
  inner-events q t e mode o r' r x i (suc k) h =
      ap₂ ◌++◌ (inner-cell q t e mode r' r i (omega arith) (x (f.cell q i).child (cell-tree f f' d some S g q i t.0 t.1 e (omega arith))
      (of-cell (is_schema mode) q i t e (omega arith) o)))
      (inner-events q t e mode o r' r x (suc i) k (omega arith))

  page-events : (mode : Mode) (l : ℕ) (place : Place) (q : ℕ) → Tree q → Of (is_schema mode) q → page_events f' mode l place q ≡ page_events f mode l place q
  unfolding page_events
  page-events mode zero place q t o = refl
  page-events mode (suc l) place q t o =
      ap₂ (λ n es. faults n q ++ es) (fault-same q t place)
      (ap (λ b. cond b (leaf q (suc l) ∷ leaf_events f' mode q 0 (cells_of f' q))
      (inner_events f' mode (page_events f' mode l (child_place (is_table f' q))) q (cells_of f' q))) (leaf-is q t)
      ∙ go (λ p c w o. page-events mode l p c w o) (is_leaf f q) refl)
    where
      go : ((p : Place) (c : ℕ) → Tree c → Of (is_schema mode) c → page_events f' mode l p c ≡ page_events f mode l p c) → (b : Bool) → is_leaf f q ≡ b
          → cond b (leaf q (suc l) ∷ leaf_events f' mode q 0 (cells_of f' q))
          (inner_events f' mode (page_events f' mode l (child_place (is_table f' q))) q (cells_of f' q))
          ≡ cond b (leaf q (suc l) ∷ leaf_events f mode q 0 (cells_of f q))
          (inner_events f mode (page_events f mode l (child_place (is_table f q))) q (cells_of f q))
      go ih true e =
          ap (λ es. leaf q (suc l) ∷ es)
          (by_bare (leaf_events f' mode q 0) (is_table f q)
          (λ cs. subst (λ x. leaf_events f' mode q 0 (bares x cs) ≡ leaf_events f' mode q 0 cs) (table_is q t) (leaf-bare f' mode q 0 cs))
          (cells_of f' q) (cells_of f q) (cells_are q t)
          ∙ (unfold cells_of in leaf-events q t e mode o 0 (f.count q) (omega arith)))
      go ih false e =
          let r = page_events f' mode l (child_place (is_table f q)) in
          ap (λ b. inner_events f' mode (page_events f' mode l (child_place b)) q (cells_of f' q)) (table_is q t)
          ∙ by_bare (inner_events f' mode r q) (is_table f q)
          (λ cs. subst (λ x. inner_events f' mode r q (bares x cs) ≡ inner_events f' mode r q cs) (table_is q t) (inner-bare f' mode r q cs))
          (cells_of f' q) (cells_of f q) (cells_are q t)
          ∙ (unfold cells_of in inner-events q t e mode o (page_events f' mode l (child_place (is_table f q)))
          (page_events f mode l (child_place (is_table f q))) (ih (child_place (is_table f q))) 0 (f.count q) (omega arith))

  -- ---- the freelist: a number is 0, or a trunk's
  abbrev TrunkOr0 : ℕ → Type 0
  TrunkOr0 t = t ≢ 0 → Page f t × (d.kind t ≡ trunk_kind)

  head-trunk : TrunkOr0 f.free_head
  head-trunk n =
      let w = g.pointers 1 head_slot f.free_head trunk_kind (omega arith) (refl, n, refl, refl) in
      let l : Nameable f f.free_head = w.0 in
      (omega arith, w.1)

  next-trunk : (t : ℕ) → Page f t → d.kind t ≡ trunk_kind → TrunkOr0 (f.trunk_next t)
  next-trunk t h k n =
      let w = g.pointers t next_slot (f.trunk_next t) trunk_kind h (inl (k, n, refl, refl)) in
      let l : Nameable f (f.trunk_next t) = w.0 in
      (omega arith, w.1)

  trunk-leaves : (p : ℕ) → Page f p → d.kind p ≡ trunk_kind → (k j : ℕ) → j + k ≤ f.trunk_count p → trunk_leaves f' p k j ≡ trunk_leaves f p k j
  unfolding trunk_leaves
  trunk-leaves p h e zero j l = refl
  trunk-leaves p h e (suc k) j l = ap₂ (λ t es. name p t 3 ∷ es) (S.trunk_leaf p j h e (omega arith)) (trunk-leaves p h e k (suc j) (omega arith))

  trunk-events : (n holder t : ℕ) → TrunkOr0 t → trunk_events f' n holder t ≡ trunk_events f n holder t
  unfolding trunk_events
  trunk-events zero holder t w = refl
  trunk-events (suc n) holder zero w = refl
  trunk-events (suc n) holder (suc t) w =
      let x = w (λ z. omega arith) in
      let c = S.trunk_count (suc t) x.0 x.1 in
      ap (λ es. name holder (suc t) trunk_kind ∷ es)
      (ap₂ ◌++◌ (ap₂ (λ a b. check (leb a b) 29 (suc t)) c S.trunk_room)
      (ap₂ ◌++◌ (ap (λ k. trunk_leaves f' (suc t) k 0) c ∙ trunk-leaves (suc t) x.0 x.1 (f.trunk_count (suc t)) 0 (omega arith))
      (ap (trunk_events f' n (suc t)) (S.trunk_next (suc t) x.0 x.1)
      ∙ trunk-events n (suc t) (f.trunk_next (suc t)) (next-trunk (suc t) x.0 x.1))))

  free-count : (n t : ℕ) → TrunkOr0 t → free_count f' n t ≡ free_count f n t
  unfolding free_count
  free-count zero t w = refl
  free-count (suc n) zero w = refl
  free-count (suc n) (suc t) w =
      let x = w (λ z. omega arith) in
      ap₂ (λ a b. suc (a + b)) (S.trunk_count (suc t) x.0 x.1)
      (ap (free_count f' n) (S.trunk_next (suc t) x.0 x.1) ∙ free-count n (f.trunk_next (suc t)) (next-trunk (suc t) x.0 x.1))

  free-events : free_events f' ≡ free_events f
  unfolding free_events
  free-events =
      ap₂ ◌++◌ (ap₂ (λ n t. trunk_events f' (suc n) 1 t) S.N S.free_head ∙ trunk-events (suc f.N) 1 f.free_head head-trunk)
      (ap₂ (λ a b. check (eqb a b) 29 1)
      (ap₂ (λ n t. free_count f' (suc n) t) S.N S.free_head ∙ free-count (suc f.N) f.free_head head-trunk) S.free_total)

  -- ---- the roots
  leaf-roots : (q : ℕ) → Tree q → is_leaf f q ≡ true → Of true q → (i k : ℕ) → i + k ≤ f.count q → leaf_roots f' q i (cells_from f q i k) ≡ leaf_roots f q i (cells_from f q i k)
  unfolding leaf_roots cells_from
  leaf-roots q t e o i zero h = refl
  leaf-roots q t e o i (suc k) h =
      ap₂ (λ v xs. root_at q (named_by v) ++ xs) (S.column4 q i t.0 (o refl, e, omega arith)) (leaf-roots q t e o (suc i) k (omega arith))

  over-same : (r' r : ℕ → List (ℕ × ℕ)) (right : ℕ) (cs : List Cell) → r' right ≡ r right
      → ((j : ℕ) (c : Cell) → At cs j c → r' c.child ≡ r c.child) → over_children r' right cs ≡ over_children r right cs
  unfolding over_children
  over-same r' r right [] e k = e
  over-same r' r right (c ∷ cs) e k = ap₂ ◌++◌ (k 0 c refl) (over-same r' r right cs e (λ j x a. k (suc j) x a))

  of-listed : (q j : ℕ) (c : Cell) → Tree q → Interior f q → At (cells_of f q) j c → Of true q → Of true c.child
  of-listed q j c t e a o =
      let w = at-is f q j c a in
      subst (λ (c : Cell). Of true c.child) (sym w.1) (of-cell true q j t e w.0 o)

  schema-roots : (l q : ℕ) → Tree q → Of true q → schema_roots f' l q ≡ schema_roots f l q
  unfolding schema_roots
  schema-roots zero q t o = refl
  schema-roots (suc l) q t o =
      ap (λ b. cond b (leaf_roots f' q 0 (cells_of f' q)) (over_children (schema_roots f' l) (f'.right q) (cells_of f' q))) (leaf-is q t)
      ∙ go (λ c w o. schema-roots l c w o) (is_leaf f q) refl
    where
      go : ((c : ℕ) → Tree c → Of true c → schema_roots f' l c ≡ schema_roots f l c) → (b : Bool) → is_leaf f q ≡ b
          → cond b (leaf_roots f' q 0 (cells_of f' q)) (over_children (schema_roots f' l) (f'.right q) (cells_of f' q))
          ≡ cond b (leaf_roots f q 0 (cells_of f q)) (over_children (schema_roots f l) (f.right q) (cells_of f q))
      go ih true e =
          by_bare (leaf_roots f' q 0) (is_table f q) (roots-bare f' q 0 (is_table f q)) (cells_of f' q) (cells_of f q) (cells_are q t)
          ∙ (unfold cells_of in leaf-roots q t e o 0 (f.count q) (omega arith))
      go ih false e =
          ap (λ r. over_children (schema_roots f' l) r (cells_of f' q)) (S.right q t.0 t.1)
          ∙ by_bare (over_children (schema_roots f' l) (f.right q)) (is_table f q) (over-bare (schema_roots f' l) (f.right q) (is_table f q))
          (cells_of f' q) (cells_of f q) (cells_are q t)
          ∙ over-same (schema_roots f' l) (schema_roots f l) (f.right q) (cells_of f q)
          (ih (f.right q) (right-tree f f' d some S g q t.0 t.1 e) (of_right true q t e o))
          (λ j c a. ih c.child (listed-tree f f' d some S g q j c t.0 t.1 e a) (of-listed q j c t e a o))

  first_of : (s : Bool) → Of s 1
  first_of s e = (1, refl)

  first-tree : Tree 1
  first-tree = (omega arith, inl g.kind_1)

  root-good : (x : ℕ × ℕ) → Mem x (schema_roots f 20 1) → Tree x.1
  root-good x m =
      let l = descend f (leafy_roots f) d g 20 1 1 1 (omega arith) (inl g.kind_1) refl x (subst (Mem x) (roots-collect f 20 1) m) in
      let w = leaf-roots-out f l.page 0 (cells_of f l.page) x l.here-it in
      let u = w.1 in
      let z : u.0 ≡ 0 + u.0 = omega arith in
      let r = g.pointers l.page (root_slot u.0) x.1 1 (tree-page f d l.level 1 l.page (omega arith) l.in_tree)
      (let n = named-number (f.column4 l.page u.0) x.1 (ap (λ j. root_in f l.page j) z ∙ u.3) in
      (((l.level, l.in_tree), l.leaf, (at-is f l.page u.0 u.1 u.2).0), n.0, n.1, refl)) in
      let y : Nameable f x.1 = r.0 in
      (omega arith, inl r.1)

  root-events : (ordered : List ℕ) (xs : List (ℕ × ℕ)) → ((x : ℕ × ℕ) → Mem x xs → Tree x.1) → root_events ordered f' xs ≡ root_events ordered f xs
  unfolding root_events
  root-events ordered [] w = refl
  root-events ordered (x ∷ xs) w =
      ap₂ ◌++◌ (ap (λ es. name x.0 x.1 root_kind ∷ start ∷ es)
      (page-events (mode_for ordered x.1) level_limit any_root x.1 (w x (here refl)) (λ e. absurd (not-schema (is_named ordered x.1) e))))
      (root-events ordered xs (λ y m. w y (there m)))

  pub events-same : (ordered : List ℕ) → events ordered f' ≡ events ordered f
  unfolding events
  events-same ordered =
      ap₂ (λ a b. (start ∷ a) ++ b) (page-events schema_tree level_limit schema_root 1 first-tree (first_of true))
      (ap₂ ◌++◌ free-events
      (ap (root_events ordered f') (schema-roots level_limit 1 first-tree (first_of true)) ∙ root-events ordered (schema_roots f level_limit 1) root-good))
