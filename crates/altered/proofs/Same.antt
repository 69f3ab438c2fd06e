-- Two files that agree where a good dealing of the first looks: it is a good dealing of the second, and verdict, count, lookup, cursor and
-- chains answer alike in both.
use mathlib.Core.Path.{◌≡◌, refl, sym, ◌∙◌, ap, ap₂, subst}
use mathlib.Core.Bool.{Bool, true, false, cond}
use mathlib.Core.Logic.{◌≢◌, ◌⊎◌, inl, inr}
use mathlib.Core.List.{List, [], ◌∷◌, ◌++◌}
use Prim.Native.Nat.{ℕ, zero, suc, ◌+◌, ◌≤◌, ◌<◌}
use native.Mathlib.Omega.{arith}
use lib.IntN.{pos, negsuc}
use borrow.Author.Tests.{eq-eqb}
use Rattle.dealing.specs.File.{Cell, Column4, unfit, null, integer, File, Page, Nameable, Fixed, is_leaf, is_table, leaf_type, table_type}
use Rattle.dealing.specs.File.{index_type, Interior, payload, cells_from, cells_of, suits}
use Rattle.dealing.specs.File.{root_kind, first_kind, later_kind, tree_kind, trunk_kind, level_limit}
use Rattle.dealing.specs.Good.{Dealing, Slot, child_slot, right_slot, chain_slot, root_slot, head_slot, leaf_slot, next_slot, TreePage, InTree}
use Rattle.dealing.specs.Good.{LeafCell, PointsTo, place_of, Chain, RootNumber, Mark, row_or_record, rows_of, key_of, inner_of, reading, Ordered, free_pages, Good, GoodFor}
use Rattle.dealing.proofs.Unique.{named_by, first-or}
use Rattle.dealing.proofs.Match.{tree-kind, tree-page}
use Rattle.dealing.proofs.Cells.{at-is}
use Rattle.dealing.proofs.Lists.{At}

-- a cell as a good dealing looks at it: the values of its record are looked at on index pages alone, the length of its payload and how its numbers
-- are spelled nowhere
abbrev pub bare : (is_table : Bool) → Cell → Cell
bare t c =
    record {
      child = c.child;
      row = c.row;
      length = 0;
      links = c.links;
      first = c.first;
      long = 0;
      reads = c.reads;
      key = cond t [] c.key;
    }

unfoldable pub bares : (is_table : Bool) → List Cell → List Cell
bares t [] = []
bares t (c ∷ cs) = bare t c ∷ bares t cs

-- what is the same of cells as they are looked at is the same of cells that are looked at alike
pub by_bare : {A : Type 0} (F : List Cell → A) (t : Bool) → ((cs : List Cell) → F (bares t cs) ≡ F cs) → (cs' cs : List Cell) → bares t cs' ≡ bares t cs
    → F cs' ≡ F cs
by_bare F t w cs' cs e = sym (w cs') ∙ ap F e ∙ w cs

rows-bare : (asked t : Bool) (cs : List Cell) → rows_of asked t (bares t cs) ≡ rows_of asked t cs
unfolding rows_of bares
rows-bare asked t [] = refl
rows-bare asked t (c ∷ cs) = ap₂ ◌++◌ (one asked t) (rows-bare asked t cs)
  where
    one : (a t : Bool) → row_or_record a t (bare t c) ≡ row_or_record a t c
    one a true = refl
    one true false = refl
    one false false = refl

inner-bare : (r : ℕ → List Mark) (asked t : Bool) (right : ℕ) (cs : List Cell) → inner_of r asked t right (bares t cs) ≡ inner_of r asked t right cs
unfolding inner_of bares key_of
inner-bare r asked t right [] = refl
inner-bare r asked t right (c ∷ cs) = ap₂ (λ k m. r c.child ++ (k ++ m)) (one asked t) (inner-bare r asked t right cs)
  where
    one : (a t : Bool) → key_of a t (bare t c) ≡ key_of a t c
    one a true = refl
    one true false = refl
    one false false = refl

pub record Same (f f' : File) (d : Dealing) : Type 0 where
  pub N : f'.N ≡ f.N
  pub free_head : f'.free_head ≡ f.free_head
  pub free_total : f'.free_total ≡ f.free_total
  pub trunk_room : f'.trunk_room ≡ f.trunk_room
  pub vacuum : f'.vacuum ≡ f.vacuum
  pub fixed : (p : ℕ) → f'.fixed p ≡ f.fixed p
  -- tree pages
  pub type : (q : ℕ) → Page f q → TreePage d q → f'.type q ≡ f.type q
  pub broken : (q : ℕ) → Page f q → TreePage d q → f'.broken q ≡ f.broken q
  pub count : (q : ℕ) → Page f q → TreePage d q → f'.count q ≡ f.count q
  pub right : (q : ℕ) → Page f q → TreePage d q → f'.right q ≡ f.right q
  pub cell : (q j : ℕ) → Page f q → TreePage d q → j < f.count q → bare (is_table f q) (f'.cell q j) ≡ bare (is_table f q) (f.cell q j)
  pub column4 : (q j : ℕ) → Page f q → LeafCell f d 1 q j → f'.column4 q j ≡ f.column4 q j
  -- overflow pages
  pub next : (q : ℕ) → Page f q → (d.kind q ≡ first_kind) ⊎ (d.kind q ≡ later_kind) → f'.next q ≡ f.next q
  -- trunks
  pub trunk_next : (q : ℕ) → Page f q → d.kind q ≡ trunk_kind → f'.trunk_next q ≡ f.trunk_next q
  pub trunk_count : (q : ℕ) → Page f q → d.kind q ≡ trunk_kind → f'.trunk_count q ≡ f.trunk_count q
  pub trunk_leaf : (q j : ℕ) → Page f q → d.kind q ≡ trunk_kind → j < f.trunk_count q → f'.trunk_leaf q j ≡ f.trunk_leaf q j
  -- entries of maps
  pub entry_type : f.vacuum ≢ 0 → (p : ℕ) → Nameable f p → f'.entry_type p ≡ f.entry_type p
  pub entry_number : f.vacuum ≢ 0 → (p : ℕ) → Nameable f p → f'.entry_number p ≡ f.entry_number p

-- besides, lengths of payloads and spellings are the same: of one cell, and of all that a good dealing looks at
pub record SameNumbers (f f' : File) (q j : ℕ) : Type 0 where
  pub length : (f'.cell q j).length ≡ (f.cell q j).length
  pub long : (f'.cell q j).long ≡ (f.cell q j).long

abbrev pub AllNumbers : (f f' : File) (d : Dealing) → Type 0
AllNumbers f f' d = (q j : ℕ) → Page f q → TreePage d q → j < f.count q → SameNumbers f f' q j

-- what stands under an interior page, read in two ways that agree on its children
inner-same : (r r' : ℕ → List Mark) (asked t : Bool) (right : ℕ) (cs : List Cell) → r right ≡ r' right
    → ((j : ℕ) (c : Cell) → At cs j c → r c.child ≡ r' c.child) → inner_of r asked t right cs ≡ inner_of r' asked t right cs
unfolding inner_of
inner-same r r' asked t right [] e k = e
inner-same r r' asked t right (c ∷ cs) e k = rw (k 0 c refl, inner-same r r' asked t right cs e (λ j x a. k (suc j) x a))

module _ (f f' : File) (d : Dealing) (some : 1 ≤ f.N) (S : Same f f' d) (g : Good f d) where
  pub page-back : (q : ℕ) → Page f' q → Page f q
  page-back q h = omega (arith, S.N, h.0, h.1)

  pub page-to : (q : ℕ) → Page f q → Page f' q
  page-to q h = omega (arith, S.N, h.0, h.1)

  later-back : (q : ℕ) → Nameable f' q → Nameable f q
  later-back q l = omega (arith, S.N, l.0, l.1, l.2, S.fixed q)

  later-to : (q : ℕ) → Nameable f q → Nameable f' q
  later-to q l = omega (arith, S.N, l.0, l.1, l.2, S.fixed q)

  pub leaf-same : (q : ℕ) → Page f q → TreePage d q → is_leaf f' q ≡ is_leaf f q
  unfolding is_leaf
  leaf-same q h t = ap leaf_type (S.type q h t)

  pub table_same : (q : ℕ) → Page f q → TreePage d q → is_table f' q ≡ is_table f q
  unfolding is_table
  table_same q h t = ap table_type (S.type q h t)

  pub has_same : (q : ℕ) → Page f q → TreePage d q → payload (is_leaf f' q) (is_table f' q) ≡ payload (is_leaf f q) (is_table f q)
  has_same q h t = ap (λ b. payload b (is_table f' q)) (leaf-same q h t) ∙ ap (payload (is_leaf f q)) (table_same q h t)

  in-back : (n r q : ℕ) → InTree f' d r n q → InTree f d r n q
  in-back zero r q t = t
  in-back (suc zero) r q t = t
  in-back (suc (suc n)) r q t = (later-back q t.0, t.1, in-back (suc n) r (d.namer q) t.2)

  in-to : (n r q : ℕ) → InTree f d r n q → InTree f' d r n q
  in-to zero r q t = t
  in-to (suc zero) r q t = t
  in-to (suc (suc n)) r q t = (later-to q t.0, t.1, in-to (suc n) r (d.namer q) t.2)

  one : Page f 1 → TreePage d 1
  one h = inl g.kind_1

  pub below : (q j : ℕ) → Page f q → TreePage d q → j < f'.count q → j < f.count q
  below q j h t i = omega (arith, S.count q h t)

  above : (q j : ℕ) → Page f q → TreePage d q → j < f.count q → j < f'.count q
  above q j h t i = omega (arith, S.count q h t)

  -- a schema row's page is a tree page
  row-tree : (q j : ℕ) → Page f q → LeafCell f d 1 q j → TreePage d q
  row-tree q j h l = tree-kind f d l.0.0 1 q g.kind_1 l.0.1

  leaf-cell-back : (q j : ℕ) → Page f q → LeafCell f' d 1 q j → LeafCell f d 1 q j
  leaf-cell-back q j h l =
      let i = in-back l.0.0 1 q l.0.1 in
      let t = tree-kind f d l.0.0 1 q g.kind_1 i in
      ((l.0.0, i), sym (leaf-same q h t) ∙ l.1, below q j h t l.2)

  leaf-cell-to : (q j : ℕ) → Page f q → LeafCell f d 1 q j → LeafCell f' d 1 q j
  leaf-cell-to q j h l =
      let t = row-tree q j h l in
      ((l.0.0, in-to l.0.0 1 q l.0.1), leaf-same q h t ∙ l.1, above q j h t l.2)

  -- the pointers are the same
  holds-back : (q : ℕ) (s : Slot) (t k : ℕ) → Page f q → PointsTo f' d q s t k → PointsTo f d q s t k
  holds-back q (child_slot j) t k h w =
      let i = below q j h w.0 w.2 in
      (w.0, sym (leaf-same q h w.0) ∙ w.1, i, w.3 ∙ ap (λ (c : Cell). c.child) (S.cell q j h w.0 i), w.4)
  holds-back q right_slot t k h w = (w.0, sym (leaf-same q h w.0) ∙ w.1, w.2 ∙ S.right q h w.0, w.3)
  holds-back q (chain_slot j) t k h w =
      let i = below q j h w.0 w.2 in
      let e = S.cell q j h w.0 i in
      (w.0, sym (has_same q h w.0) ∙ w.1, i, subst (λ (c : Cell). 1 ≤ c.links) e w.3, w.4 ∙ ap (λ (c : Cell). c.first) e, w.5)
  holds-back q (root_slot j) t k h w =
      let l = leaf-cell-back q j h w.0 in
      (l, sym (S.column4 q j h l) ∙ w.1, w.2, w.3)
  holds-back q head_slot t k h w = (w.0, (λ z. w.1 (S.free_head ∙ z)), w.2 ∙ S.free_head, w.3)
  holds-back q (leaf_slot j) t k h w =
      let i : j < f.trunk_count q = omega (arith, w.1, S.trunk_count q h w.0) in
      (w.0, i, w.2 ∙ S.trunk_leaf q j h w.0 i, w.3)
  holds-back q next_slot t k h (inl w) = let e = S.trunk_next q h w.0 in inl (w.0, (λ z. w.1 (e ∙ z)), w.2 ∙ e, w.3)
  holds-back q next_slot t k h (inr w) = let e = S.next q h w.0 in inr (w.0, (λ z. w.1 (e ∙ z)), w.2 ∙ e, w.3)

  holds-to : (q : ℕ) (s : Slot) (t k : ℕ) → Page f q → PointsTo f d q s t k → PointsTo f' d q s t k
  holds-to q (child_slot j) t k h w =
      (w.0, leaf-same q h w.0 ∙ w.1, above q j h w.0 w.2, w.3 ∙ sym (ap (λ (c : Cell). c.child) (S.cell q j h w.0 w.2)), w.4)
  holds-to q right_slot t k h w = (w.0, leaf-same q h w.0 ∙ w.1, w.2 ∙ sym (S.right q h w.0), w.3)
  holds-to q (chain_slot j) t k h w =
      let e = S.cell q j h w.0 w.2 in (
        w.0,
        has_same q h w.0 ∙ w.1,
        above q j h w.0 w.2,
        subst (λ (c : Cell). 1 ≤ c.links) (sym e) w.3,
        w.4 ∙ sym (ap (λ (c : Cell). c.first) e),
        w.5,
      )
  holds-to q (root_slot j) t k h w =
      (leaf-cell-to q j h w.0, S.column4 q j h w.0 ∙ w.1, w.2, w.3)
  holds-to q head_slot t k h w = (w.0, (λ z. w.1 (sym S.free_head ∙ z)), w.2 ∙ sym S.free_head, w.3)
  holds-to q (leaf_slot j) t k h w =
      (w.0, omega (arith, w.1, S.trunk_count q h w.0), w.2 ∙ sym (S.trunk_leaf q j h w.0 w.1), w.3)
  holds-to q next_slot t k h (inl w) = let e = S.trunk_next q h w.0 in inl (w.0, (λ z. w.1 (sym e ∙ z)), w.2 ∙ sym e, w.3)
  holds-to q next_slot t k h (inr w) = let e = S.next q h w.0 in inr (w.0, (λ z. w.1 (sym e ∙ z)), w.2 ∙ sym e, w.3)

  -- the namer of another tree page is a tree page
  parent-tree : (q : ℕ) → Page f q → d.kind q ≡ tree_kind → Page f (d.namer q) × TreePage d (d.namer q)
  parent-tree q h k = go (first-or f d g q h)
    where
      slot : (s : Slot) → PointsTo f d (d.namer q) s q (d.kind q) → TreePage d (d.namer q)
      slot (child_slot j) w = w.0
      slot right_slot w = w.0
      slot (chain_slot j) w = w.0
      slot (root_slot j) w = absurd (omega (arith, k, w.3))
      slot head_slot w = absurd (omega (arith, k, w.3))
      slot (leaf_slot j) w = absurd (omega (arith, k, w.3))
      slot next_slot (inl w) = absurd (omega (arith, k, w.3))
      slot next_slot (inr w) = absurd (omega (arith, k, w.3))

      go : (q ≡ 1) ⊎ (Fixed f q ⊎ Nameable f q) → Page f (d.namer q) × TreePage d (d.namer q)
      go (inl e) = absurd (omega (arith, k, ap d.kind e, g.kind_1))
      go (inr (inl x)) = absurd (x.2 (omega (arith, k, (g.placed q x).0)))
      go (inr (inr l)) = let n = named_by f d g q l in (n.page, slot n.slot n.holds)

  place_same : (q : ℕ) → Page f q → TreePage d q → place_of f' d q ≡ place_of f d q
  place_same q h (inl e) = rw (eq-eqb (d.kind q) root_kind e) refl
  place_same q h (inr e) = let p = parent-tree q h e in rw (table_same (d.namer q) p.0 p.1) refl

  -- cells
  cells_same : (q : ℕ) (t : Bool) (i k : ℕ) → ((j : ℕ) → i ≤ j → j < i + k → bare t (f'.cell q j) ≡ bare t (f.cell q j))
      → bares t (cells_from f' q i k) ≡ bares t (cells_from f q i k)
  unfolding cells_from bares
  cells_same q t i zero w = refl
  cells_same q t i (suc k) w = ap₂ ◌∷◌ (w i (omega arith) (omega arith)) (cells_same q t (suc i) k (λ j a b. w j (omega arith) (omega arith)))

  pub all-cells : (q : ℕ) → Page f q → TreePage d q → bares (is_table f q) (cells_of f' q) ≡ bares (is_table f q) (cells_of f q)
  unfolding cells_of
  all-cells q h t =
      ap (λ n. bares (is_table f q) (cells_from f' q 0 n)) (S.count q h t)
      ∙ cells_same q (is_table f q) 0 (f.count q) (λ j a b. S.cell q j h t (omega arith))

  -- the children of a tree page are tree pages
  pub child-tree : (q : ℕ) (s : Slot) (c : ℕ) → Page f q → PointsTo f d q s c tree_kind → Page f c × TreePage d c
  child-tree q s c h w =
      let u = g.pointers q s c tree_kind h w in
      let l : Nameable f c = u.0 in
      (omega arith, inr u.1)

  pub right-tree : (q : ℕ) → Page f q → TreePage d q → Interior f q → Page f (f.right q) × TreePage d (f.right q)
  right-tree q h t e = child-tree q right_slot (f.right q) h (t, e, refl, refl)

  pub cell-tree : (q j : ℕ) → Page f q → TreePage d q → Interior f q → j < f.count q → Page f (f.cell q j).child × TreePage d (f.cell q j).child
  cell-tree q j h t e i = child-tree q (child_slot j) (f.cell q j).child h (t, e, i, refl, refl)

  pub listed-tree : (q j : ℕ) (c : Cell) → Page f q → TreePage d q → Interior f q → At (cells_of f q) j c → Page f c.child × TreePage d c.child
  listed-tree q j c h t e a =
      let w = at-is f q j c a in
      subst (λ (c : Cell). Page f c.child × TreePage d c.child) (sym w.1) (cell-tree q j h t e w.0)

  -- the reading of a tree
  pub read_same : (asked : Bool) (l q : ℕ) → Page f q → TreePage d q → reading f' asked l q ≡ reading f asked l q
  unfolding reading
  read_same asked zero q h t = refl
  read_same asked (suc l) q h t = go (λ c w. read_same asked l c w.0 w.1) (is_leaf f q) refl
    where
      go : ((c : ℕ) → Page f c × TreePage d c → reading f' asked l c ≡ reading f asked l c) → (b : Bool) → is_leaf f q ≡ b
          → reading f' asked (suc l) q ≡ reading f asked (suc l) q
      go ih true e = unfold reading in rw (leaf-same q h t ∙ e, e, table_same q h t)
          (by_bare (rows_of asked (is_table f q)) (is_table f q) (rows-bare asked (is_table f q)) (cells_of f' q) (cells_of f q) (all-cells q h t))
      go ih false e = unfold reading in rw (leaf-same q h t ∙ e, e, table_same q h t, S.right q h t)
          (by_bare (inner_of (reading f' asked l) asked (is_table f q) (f.right q)) (is_table f q)
          (inner-bare (reading f' asked l) asked (is_table f q) (f.right q)) (cells_of f' q) (cells_of f q) (all-cells q h t)
          ∙ inner-same (reading f' asked l) (reading f asked l) asked (is_table f q) (f.right q) (cells_of f q) (ih (f.right q) (right-tree q h t e))
          (λ j c a. ih c.child (listed-tree q j c h t e a)))

  -- chains
  chain_same : (n t : ℕ) → (n ≢ 0 → Page f t × ((d.kind t ≡ first_kind) ⊎ (d.kind t ≡ later_kind))) → Chain f n t → Chain f' n t
  chain_same zero t w c = c
  chain_same (suc n) t w c =
      let u = w (λ z. omega arith) in
      let e = S.next t u.0 u.1 in
      (c.0, subst (Chain f' n) (sym e) (chain_same n (f.next t) (more n c.1 u) c.1))
    where
      more : (n : ℕ) → Chain f n (f.next t) → Page f t × ((d.kind t ≡ first_kind) ⊎ (d.kind t ≡ later_kind)) → n ≢ 0
          → Page f (f.next t) × ((d.kind (f.next t) ≡ first_kind) ⊎ (d.kind (f.next t) ≡ later_kind))
      more zero c u z = absurd (z refl)
      more (suc n) c u z =
          let v = g.pointers t next_slot (f.next t) later_kind u.0 (inr (u.1, c.0, refl, refl)) in
          let l : Nameable f (f.next t) = v.0 in
          (omega arith, inr v.1)

  number_same : (v : Column4) → RootNumber f v → RootNumber f' v
  number_same unfit w = w
  number_same null w = w
  number_same (integer (pos n)) (inl e) = inl e
  number_same (integer (pos n)) (inr l) = inr (omega (arith, S.N, l.0, l.1))
  number_same (integer (negsuc n)) w = w

  pub same_good : Good f' d
  same_good =
      record {
        kind_1 = g.kind_1;
        namer_1 = g.namer_1;
        step_1 = g.step_1;
        steps = λ p l. g.steps p (later-back p l);
        placed = λ p x. let y = g.placed p (x.0, omega (arith, S.N, x.1), (λ z. x.2 (S.fixed p ∙ z))) in
            (y.0 ∙ ap (λ n. 6 + n) (sym (S.fixed p)), y.1, y.2);
        pointers = λ q s t k h H. let h' = page-back q h in let w = g.pointers q s t k h' (holds-back q s t k h' H) in
            (later-to t w.0, w.1, w.2);
        named = λ p l. let w = g.named p (later-back p l) in
            (w.0, w.1, (page-to w.0 w.2.0, (w.2.1.0, holds-to w.0 w.1 p w.2.1.0 w.2.0 w.2.1.1)));
        once = λ q q' s s' t H H'. let a = page-back q H.0 in let b = page-back q' H'.0 in g.once q q' s s' t
            (a, (H.1.0, holds-back q s t H.1.0 a H.1.1)) (b, (H'.1.0, holds-back q' s' t H'.1.0 b H'.1.1));
        rule_22 = λ q h t. let h' = page-back q h in
            ap (λ x. suits x (f'.type q)) (place_same q h' t) ∙ ap (suits (place_of f d q)) (S.type q h' t) ∙ g.rule_22 q h' t;
        rule_23_26 = λ q h t. S.broken q (page-back q h) t ∙ g.rule_23_26 q (page-back q h) t;
        rule_24_depth = λ r n q h k i. g.rule_24_depth r n q (page-back r h) k (in-back n r q i);
        rule_24_even = λ r n q n' q' h k i e i' e'.
            let h' = page-back r h in
            let a = in-back n r q i in
            let b = in-back n' r q' i' in
            g.rule_24_even r n q n' q' h' k a (sym (leaf-same q (tree-page f d n r q h' a) (tree-kind f d n r q k a)) ∙ e) b
            (sym (leaf-same q' (tree-page f d n' r q' h' b) (tree-kind f d n' r q' k b)) ∙ e');
        rule_25 = λ r h k. let h' = page-back r h in subst Ordered (sym (read_same false level_limit r h' (inl k))) (g.rule_25 r h' k);
        rule_27 = λ q j h t e i m.
            let h' = page-back q h in
            let i' = below q j h' t i in
            let c = S.cell q j h' t i' in
            let e' = sym (has_same q h' t) ∙ e in
            let m' : 1 ≤ (f.cell q j).links = subst (λ (c : Cell). 1 ≤ c.links) c m in
            let p = g.pointers q (chain_slot j) (f.cell q j).first first_kind h' (t, e', i', m', refl, refl) in
            let l : Nameable f (f.cell q j).first = p.0 in
            subst (λ (c : Cell). Chain f' c.links c.first) (sym c)
            (chain_same (f.cell q j).links (f.cell q j).first (λ z. (omega arith, inl p.1)) (g.rule_27 q j h' t e' i' m'));
        rule_28 = λ q j l.
            let n : ℕ = l.0.0 in
            let i = in-back n 1 q l.0.1 in
            let h = page-one n q i in
            let c = leaf-cell-back q j h l in
            subst (RootNumber f') (sym (S.column4 q j h c)) (number_same (f.column4 q j) (g.rule_28 q j c));
        rule_28_reads = λ q j h t e i. let h' = page-back q h in let i' = below q j h' t i in
            ap (λ (c : Cell). c.reads) (S.cell q j h' t i') ∙ g.rule_28_reads q j h' t (sym (has_same q h' t) ∙ e) i';
        rule_29_room = λ q h k. let h' = page-back q h in omega (arith, S.trunk_count q h' k, S.trunk_room, g.rule_29_room q h' k);
        rule_29_total = ap (free_pages d) S.N ∙ g.rule_29_total ∙ sym S.free_total;
        after = record {
          rule_31 = λ n p l. let l' = later-back p l in let m : f.vacuum ≢ 0 = λ z. n (S.vacuum ∙ z) in
              let w = g.after.rule_31 m p l' in (S.entry_type m p l' ∙ w.0, S.entry_number m p l' ∙ w.1);
          rule_32_root = λ n. let w = g.after.rule_32_root (λ z. n (S.vacuum ∙ z)) in
              (subst (Page f') (sym S.vacuum) (page-to f.vacuum w.0), ap d.kind S.vacuum ∙ w.1);
          rule_32_most = λ n r h k. omega (arith, S.vacuum, g.after.rule_32_most (λ z. n (S.vacuum ∙ z)) r (page-back r h) k);
        };
      }
    where
      page-one : (n q : ℕ) → InTree f d 1 n q → Page f q
      page-one zero q i = absurd i
      page-one (suc zero) q i = one-page q i
        where
          one-page : (q : ℕ) → q ≡ 1 → Page f q
          one-page q e = omega arith
      page-one (suc (suc n)) q i = let l : Nameable f q = i.0 in omega arith

  -- the same for roots that are named as plain ascending
  pub same-good-for : (ordered : List ℕ) → GoodFor ordered f d → GoodFor ordered f' d
  same-good-for ordered o =
      record {
        good = same_good;
        rule_33 = λ r m. let w = o.rule_35 r m in subst Ordered (sym (read_same true level_limit r w.0 (inl w.1))) (o.rule_33 r m);
        rule_35 = λ r m. let w = o.rule_35 r m in (page-to r w.0, w.1, ap index_type (S.type r w.0 (inl w.1)) ∙ w.2);
      }

  pub good-for-back : (ordered : List ℕ) → GoodFor ordered f' d → GoodFor ordered f d
  good-for-back ordered o =
      record {
        good = g;
        rule_33 = λ r m. let w = o.rule_35 r m in let h = page-back r w.0 in
            subst Ordered (read_same true level_limit r h (inl w.1)) (o.rule_33 r m);
        rule_35 = λ r m. let w = o.rule_35 r m in let h = page-back r w.0 in (h, w.1, sym (ap index_type (S.type r h (inl w.1))) ∙ w.2);
      }
