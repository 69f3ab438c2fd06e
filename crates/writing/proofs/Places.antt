-- Where each page of the image stands, and what the dealing says of it.
--     TreeAt, tree-place      a tree page from 3 on: the jth child of the ith interior page
--     LinkAt, link-place      an overflow page: the kth of a row's chain
--     first-at                the first page of a row's chain
-- Assumes nothing.
use Prim.Native.Nat.{ℕ, zero, suc, ◌+◌, ◌-◌, ◌<◌, ◌≤◌}
use mathlib.Core.Path.{◌≡◌, refl, sym, ap, ◌∙◌, subst}
use mathlib.Core.Bool.{cond}
use mathlib.Core.List.{List, [], ◌∷◌, ◌++◌, map, append_assoc}
use mathlib.Core.Logic.{◌⊎◌, inl, inr, ⊎_elim}
use native.Mathlib.Omega.{arith}
use lib.Dec.{ltb, eqb}
use lib.ListN.{length, get_or, length-append, length-map, length-replicate, get_or-append}
use lib.Seq.{get_or-append-add}
use borrow.Author.Tests.{lt-ltb, le-ltb}
use Rattle.number.proofs.Cases.{lt-or-ge, by_cond}
use Rattle.dealing.specs.Good.{chain_slot, root_slot, next_slot}
use Rattle.writing.specs.Rows.{Row, Child, no_row, no_child, links_of}
use Rattle.writing.specs.Groups.{flat, before, group_with}
use Rattle.writing.specs.Layout.{links_all, size, with_firsts, levels_of}
use Rattle.writing.specs.Dealt.{unit_of, units_of, inners_of, behind_tree, parent_index, child_index, row_index, link_index, leaf_with}
use Rattle.writing.specs.Dealt.{cell_with, kind_of, namer_of, child_place, slot_of}
use Rattle.writing.proofs.RowsLaid.{get_d-mapped}
use Rattle.writing.proofs.Members.{flat-at, before-none, before-next, member_of, group-with, member-in}
use Rattle.writing.proofs.Members.{flat-more}
use Rattle.writing.proofs.LayoutLaws.{Numbered, next_size, next-numbered, next-length, Levels, TreeLevels}

flat_append : {A : Type 0} (gs hs : List (List A)) → flat (gs ++ hs) ≡ flat gs ++ flat hs
unfolding flat
flat_append [] hs = refl
flat_append (g ∷ gs) hs = ap (λ x. g ++ x) (flat_append gs hs) ∙ sym (append_assoc g (flat gs) (flat hs))

nothing : flat {A = List Child} [] ≡ []
unfolding flat
nothing = refl

no-children : flat (flat {A = List Child} []) ≡ []
unfolding flat
no-children = refl

numbered-append : (t : ℕ) (cs ds : List Child) → Numbered t cs → Numbered (t + length cs) ds → Numbered t (cs ++ ds)
numbered-append t cs ds a b i l =
    ⊎_elim
    (λ (h : i < length cs). ap (λ (c : Child). c.page) (get_or-append cs ds no_child i h) ∙ a i h)
    (λ (h : length cs ≤ i).
    let e : length cs + (i - length cs) ≡ i = omega arith in
    let k : i - length cs < length ds = omega (arith, length-append cs ds) in
    ap (λ x. (get_or (cs ++ ds) x no_child).page) (sym e) ∙ ap (λ (c : Child). c.page) (get_or-append-add cs ds (i - length cs) no_child)
    ∙ b (i - length cs) k ∙ omega arith)
    (lt-or-ge i (length cs))

-- the children of all interior pages, in order, are the pages from the second level on
levels-children : (t : ℕ) (ls : List (List (List Child))) (leaves : List (List Row)) → Levels t ls leaves
    → Numbered (t + next_size ls leaves) (flat (flat ls)) × (length (flat (flat ls)) + next_size ls leaves ≡ length (flat ls) + length leaves)
levels-children t [] leaves h = (λ i l. absurd (omega (arith, ap length no-children)), omega (arith, ap length no-children, ap length nothing))
levels-children t (gs ∷ ls) leaves h =
    let e : flat (flat (gs ∷ ls)) ≡ flat gs ++ flat (flat ls) = ap flat (flat-more gs ls) ∙ flat_append gs (flat ls) in
    let w = levels-children (t + length gs) ls leaves h.1.1 in
    let k : length (flat gs) ≡ next_size ls leaves = ap length h.0 ∙ next-length (t + length gs) ls leaves in
    let first : Numbered (t + length gs) (flat gs) = subst (Numbered (t + length gs)) (sym h.0) (next-numbered (t + length gs) ls leaves) in
    let others : Numbered (t + length gs + length (flat gs)) (flat (flat ls)) =
    subst (λ x. Numbered (t + length gs + x) (flat (flat ls))) (sym k) w.0 in (
      subst (Numbered (t + length gs)) (sym e) (numbered-append (t + length gs) (flat gs) (flat (flat ls)) first others),
      omega (arith, ap length e, length-append (flat gs) (flat (flat ls)), k, w.1, ap length (flat-more gs ls), length-append gs (flat ls)),
    )

-- ---- rows and their chains
unit-length : (r : Row) → length (unit_of r) ≡ links_of size r.payload
unit-length r = length-replicate (links_of size r.payload) 0

pub unit-at : (rows : List Row) (x : ℕ) → x < length rows → length (get_or (map unit_of rows) x []) ≡ links_of size (get_or rows x no_row).payload
unit-at rows x l = ap length (get_d-mapped unit_of rows x no_row l) ∙ unit-length (get_or rows x no_row)

units-count : (t : ℕ) (rows : List Row) → length (flat (map unit_of (with_firsts t rows))) ≡ links_all rows
unfolding with_firsts flat links_all
units-count t [] = refl
units-count t (r ∷ rs) =
    length-append (unit_of r) (flat (map unit_of (with_firsts (t + links_of size r.payload) rs)))
    ∙ omega (arith, unit-length r, units-count (t + links_of size r.payload) rs)

firsts_at : (t : ℕ) (rows : List Row) (x : ℕ) → x < length (with_firsts t rows)
    → (get_or (with_firsts t rows) x no_row).first ≡ t + before (map unit_of (with_firsts t rows)) x
unfolding with_firsts
firsts_at t [] x l = absurd (omega arith)
firsts_at t (r ∷ rs) zero l = omega (arith, before-none (map unit_of (with_firsts t (r ∷ rs))))
firsts_at t (r ∷ rs) (suc x) l =
    let n = links_of size r.payload in
    firsts_at (t + n) rs x (omega arith) ∙ omega (arith, before-next (unit_of r) (map unit_of (with_firsts (t + n) rs)) x, unit-length r)

-- ---- tree pages
module _ (leaves : List (List Row)) (tree : TreeLevels (levels_of leaves) leaves) where
  abbrev G : List (List Child)
  G = inners_of leaves

  abbrev T : ℕ
  T = behind_tree leaves

  pub children-numbered : Numbered 3 (flat G)
  children-numbered =
      let e : 2 + next_size (levels_of leaves) leaves ≡ 3 = omega (arith, tree.root) in
      subst (λ t. Numbered t (flat G)) e (levels-children 2 (levels_of leaves) leaves tree.levels).0

  pub behind-is : T ≡ 3 + length (flat G)
  behind-is = omega (arith, (levels-children 2 (levels_of leaves) leaves tree.levels).1, tree.root)

  -- p is the jth child of the ith interior page
  pub record TreeAt (p i j : ℕ) : Type 0 where
    pub group : i < length G
    pub member : j < length (get_or G i [])
    pub is : p ≡ 3 + (before G i + j)

  module _ (p i j : ℕ) (a : TreeAt p i j) where
    tree-low : p - 3 ≡ before G i + j
    tree-low = omega (arith, a.is)

    pub tree-below : (3 ≤ p) × (p < T)
    tree-below = (omega (arith, a.is), omega (arith, a.is, behind-is, member_of G i j a.group a.member))

    parent_is : parent_index leaves p ≡ i
    parent_is = ap (group_with G) tree-low ∙ group-with G i j a.group a.member

    child-is : child_index leaves p ≡ j
    child-is = omega (arith, tree-low, ap (before G) parent_is)

    pub tree-kind : kind_of leaves p ≡ 6
    unfolding kind_of
    tree-kind = rw (le-ltb p 3 tree-below.0, lt-ltb p T tree-below.1)

    pub tree-namer : namer_of leaves p ≡ 2 + i
    unfolding namer_of
    tree-namer = rw (le-ltb p 3 tree-below.0, lt-ltb p T tree-below.1) (ap (λ x. 2 + x) parent_is)

    pub tree-slot : slot_of leaves p ≡ child_place leaves i j
    unfolding slot_of
    tree-slot =
        rw (le-ltb p 3 tree-below.0, lt-ltb p T tree-below.1)
        (ap (λ x. child_place leaves x (child_index leaves p)) parent_is ∙ ap (child_place leaves i) child-is)

    -- the child itself names p
    pub tree-page : (get_or (get_or G i []) j no_child).page ≡ p
    tree-page =
        ap (λ (c : Child). c.page) (sym (flat-at G i j no_child a.group a.member))
        ∙ children-numbered (before G i + j) (member_of G i j a.group a.member) ∙ sym a.is

  pub tree-place : (p : ℕ) → 3 ≤ p → p < T → TreeAt p (parent_index leaves p) (child_index leaves p)
  tree-place p h l =
      let m = member-in G (p - 3) (omega (arith, behind-is)) in
      record { group = m.group; member = omega (arith, m.low, m.high); is = omega (arith, m.low) }

-- ---- overflow pages
module _ (leaves : List (List Row)) (tree : TreeLevels (levels_of leaves) leaves) where
  abbrev U : List (List ℕ)
  U = units_of leaves

  -- p is the kth page of the chain of row x
  pub record LinkAt (p x k : ℕ) : Type 0 where
    pub row : x < length (flat leaves)
    pub link : k < length (get_or U x [])
    pub is : p ≡ behind_tree leaves + (before U x + k)

  module _ (p x k : ℕ) (a : LinkAt p x k) where
    link-low : p - behind_tree leaves ≡ before U x + k
    link-low = omega (arith, a.is)

    row-unit : x < length U
    row-unit = omega (arith, a.row, length-map (flat leaves) unit_of)

    row_is : row_index leaves p ≡ x
    row_is = ap (group_with U) link-low ∙ group-with U x k row-unit a.link

    link-is : link_index leaves p ≡ k
    link-is = omega (arith, link-low, ap (before U) row_is)

    pub link-above : (3 ≤ p) × (behind_tree leaves ≤ p)
    link-above = (omega (arith, a.is, behind-is leaves tree), omega (arith, a.is))

    pub link-kind : kind_of leaves p ≡ cond (eqb k 0) 4 5
    unfolding kind_of
    link-kind = rw (le-ltb p 3 link-above.0, le-ltb p (behind_tree leaves) link-above.1) (ap (λ x. cond (eqb x 0) 4 5) link-is)

    pub link-namer : namer_of leaves p ≡ cond (eqb k 0) (leaf_with leaves x) (p - 1)
    unfolding namer_of
    link-namer =
        rw (le-ltb p 3 link-above.0, le-ltb p (behind_tree leaves) link-above.1)
        (ap (λ y. cond (eqb y 0) (leaf_with leaves (row_index leaves p)) (p - 1)) link-is ∙ ap (λ y. cond (eqb k 0) (leaf_with leaves y) (p - 1)) row_is)

    pub link-slot : slot_of leaves p ≡ cond (eqb k 0) (chain_slot (cell_with leaves x)) next_slot
    unfolding slot_of
    link-slot =
        rw (le-ltb p 3 link-above.0, le-ltb p (behind_tree leaves) link-above.1)
        (ap (λ y. cond (eqb y 0) (chain_slot (cell_with leaves (row_index leaves p))) next_slot) link-is
        ∙ ap (λ y. cond (eqb k 0) (chain_slot (cell_with leaves y)) next_slot) row_is)

  pub link-place : (p : ℕ) → behind_tree leaves ≤ p → p < behind_tree leaves + length (flat U) → LinkAt p (row_index leaves p) (link_index leaves p)
  link-place p h l =
      let m = member-in U (p - behind_tree leaves) (omega arith) in
      record { row = omega (arith, m.group, length-map (flat leaves) unit_of); link = omega (arith, m.low, m.high); is = omega (arith, m.low) }

  module _ (rows : List Row) (rows_are : flat leaves ≡ with_firsts (behind_tree leaves) rows) where
    pub links-count : length (flat U) ≡ links_all rows
    links-count = ap (λ l. length (flat (map unit_of l))) rows_are ∙ units-count (behind_tree leaves) rows

    pub first-at : (x : ℕ) → x < length (flat leaves) → (get_or (flat leaves) x no_row).first ≡ behind_tree leaves + before U x
    first-at x l =
        ap (λ l. (get_or l x no_row).first) rows_are
        ∙ firsts_at (behind_tree leaves) rows x (subst (λ r. x < length r) rows_are l)
        ∙ ap (λ l. behind_tree leaves + before (map unit_of l) x) (sym rows_are)

-- pages 1 and 2
module _ (leaves : List (List Row)) where
  pub kind-low : (p : ℕ) → p < 3 → kind_of leaves p ≡ 1
  unfolding kind_of
  kind-low p h = rw (lt-ltb p 3 h)

  pub namer-low : (p : ℕ) → p < 3 → namer_of leaves p ≡ p - 1
  unfolding namer_of
  namer-low p h = rw (lt-ltb p 3 h)

  pub slot-low : (p : ℕ) → p < 3 → slot_of leaves p ≡ root_slot 0
  unfolding slot_of
  slot-low p h = rw (lt-ltb p 3 h)

  -- no page is free
  pub kinds : (p : ℕ) → (kind_of leaves p ≡ 1) ⊎ ((kind_of leaves p ≡ 6) ⊎ ((kind_of leaves p ≡ 4) ⊎ (kind_of leaves p ≡ 5)))
  unfolding kind_of
  kinds p =
      by_cond (λ k. (k ≡ 1) ⊎ ((k ≡ 6) ⊎ ((k ≡ 4) ⊎ (k ≡ 5)))) (ltb p 3) 1
      (cond (ltb p (behind_tree leaves)) 6 (cond (eqb (link_index leaves p) 0) 4 5)) (λ e. inl refl)
      (λ e. by_cond (λ k. (k ≡ 1) ⊎ ((k ≡ 6) ⊎ ((k ≡ 4) ⊎ (k ≡ 5)))) (ltb p (behind_tree leaves)) 6 (cond (eqb (link_index leaves p) 0) 4 5)
      (λ e. inr (inl refl))
      (λ e. by_cond (λ k. (k ≡ 1) ⊎ ((k ≡ 6) ⊎ ((k ≡ 4) ⊎ (k ≡ 5)))) (eqb (link_index leaves p) 0) 4 5 (λ e. inr (inr (inl refl)))
      (λ e. inr (inr (inr refl)))))
