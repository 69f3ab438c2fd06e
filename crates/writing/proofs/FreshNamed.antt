-- The pages of the image that is written: what each one is, which page it names, and that each is named by the page that its dealing says.
-- Assumes nothing.
use Prim.Native.Nat.{ℕ, zero, suc, ◌+◌, ◌-◌, ◌/◌, ◌<◌, ◌≤◌}
use mathlib.Core.Path.{◌≡◌, refl, sym, ap, ◌∙◌, subst}
use mathlib.Core.Bool.{true, false, cond, true≢false, false≢true}
use mathlib.Core.List.{List, [], ◌∷◌}
use mathlib.Core.Logic.{◌⊎◌, inl, inr, ⊎_elim}
use native.Mathlib.Omega.{arith}
use lib.Dec.{ltb, eqb}
use lib.IntN.{pos}
use lib.ListN.{length, get_or, length-append, length-map, get_or-append}
use borrow.Author.Tests.{lt-ltb, eq-eqb, ne_eqb, eqb-false}
use Rattle.number.proofs.Cases.{lt-or-ge, by_cond, true-or-false}
use Rattle.cell.specs.Split.{chain_length}
use Rattle.cell.proofs.SplitLaws.{chain-none}
use Rattle.header.specs.Header.{size_of}
use Rattle.paging.specs.Pages.{lock_page}
use Rattle.dealing.specs.File as F
use Rattle.dealing.specs.File.{Column4, integer, Page, Nameable, is_leaf, is_table, Interior, HasPayload}
use Rattle.dealing.specs.Good.{Dealing, TreePage, InTree, LeafCell, Slot, child_slot, right_slot, chain_slot, root_slot, head_slot, leaf_slot}
use Rattle.dealing.specs.Good.{next_slot, PointsTo, Names}
use Rattle.image.specs.Payload.{next_in}
use Rattle.image.specs.Schema.{column4_of}
use Rattle.image.specs.Maps.{vacuum_in, fixed_in}
use Rattle.image.specs.Image.{file_of}
use Rattle.image.proofs.Fields.{N-field, head-field, next_field, column4-field, fixed-field}
use Rattle.writing.specs.Cells.{local_of}
use Rattle.writing.specs.Rows.{Row, Child, no_row, no_child, links_of, file_row}
use Rattle.writing.specs.Groups.{flat, before, group_with, front, last_of, Each}
use Rattle.writing.specs.Layout.{links_all, size, last_child, levels_of}
use Rattle.writing.specs.Dealt.{unit_of, units_of, inners_of, behind_tree, parent_index, child_index, row_index, link_index, leaf_with}
use Rattle.writing.specs.Dealt.{cell_with, kind_of, namer_of, child_place, slot_of, dealing_of}
use Rattle.writing.proofs.ChainRead.{chain_next}
use Rattle.writing.proofs.InFile.{ChainIn, LeafIn, InnerIn}
use Rattle.writing.proofs.Members.{flat-at, member_of, group-with, member-in, each_at}
use Rattle.writing.proofs.Fitting.{KeysFit, front-last, last_one}
use Rattle.writing.proofs.Built.{Built, levels-inner, each-flat}
use Rattle.writing.proofs.Places.{TreeAt, tree-place, tree-below, tree-kind, tree-namer, tree-slot, tree-page, behind-is, LinkAt}
use Rattle.writing.proofs.Places.{link-place, link-above, link-kind, link-namer, link-slot, links-count, first-at, unit-at, kind-low}
use Rattle.writing.proofs.Places.{namer-low, slot-low, kinds}

-- ---- lists
front_length : {A : Type 0} (g : List A) → 1 ≤ length g → length (front g) + 1 ≡ length g
front_length g h = omega (arith, length-append (front g) (last_of g), ap length (front-last g), last_one g (omega arith))

front_at : {A : Type 0} (g : List A) (j : ℕ) (d : A) → j < length (front g) → get_or (front g) j d ≡ get_or g j d
front_at g j d l = sym (get_or-append (front g) (last_of g) d j l) ∙ ap (λ x. get_or x j d) (front-last g)

last-at : (g : List Child) → 1 ≤ length g → last_child g ≡ get_or g (length g - 1) no_child
unfolding last_child
last-at [] h = absurd (omega arith)
last-at (c ∷ []) h = refl
last-at (c ∷ e ∷ g) h =
    let i : suc (suc (length g)) - 1 ≡ suc (suc (length g) - 1) = omega arith in
    rw i (last-at (e ∷ g) (omega arith))

-- ---- the file
module _ {b schema : List ℕ} {rows : List Row} {leaves : List (List Row)} {n : ℕ} (B : Built b schema rows leaves n) where
  abbrev pub f : F.File
  f = file_of b

  abbrev pub d : Dealing
  d = dealing_of leaves

  abbrev pub G : List (List Child)
  G = inners_of leaves

  abbrev pub T : ℕ
  T = behind_tree leaves

  N-is : f.N ≡ n
  N-is = N-field b ∙ B.header.pages-is

  -- no page has its kind by its place
  lock-far : lock_page (size_of b) ≡ 1048577
  unfolding lock_page
  lock-far = ap (λ s. 1073741824 / s + 1) B.header.size_is

  pub no-fixed : (p : ℕ) → p ≤ f.N → f.fixed p ≡ 0
  unfolding fixed_in
  no-fixed p h =
      fixed-field b p
      ∙ rw (ne_eqb p (lock_page (size_of b)) (λ e. omega (arith, e, lock-far, N-is, B.fits)), eq-eqb (vacuum_in b) 0 B.header.no-maps)

  pub N-links : f.N + 1 ≡ T + links_all rows
  N-links = omega (arith, N-is, B.count)

  pub T-is : T ≡ 2 + length G + length leaves
  T-is = omega arith

  pub T-low : 3 ≤ T
  T-low = omega (arith, behind-is leaves B.tree)

  pub inners : Each (λ g. KeysFit size g × (2 ≤ length g)) G
  inners = each-flat (λ g. KeysFit size g × (2 ≤ length g)) (levels_of leaves) (levels-inner 2 (levels_of leaves) leaves B.tree.levels)

  group-two : (i : ℕ) → i < length G → 2 ≤ length (get_or G i [])
  group-two i l = (each_at (λ g. KeysFit size g × (2 ≤ length g)) G i [] l inners).1

  pub table-leaf : (p : ℕ) → f.type p ≡ 13 → (is_leaf f p ≡ true) × (is_table f p ≡ true)
  unfolding is_leaf is_table
  table-leaf p e = (rw e, rw e)

  pub table-inner : (p : ℕ) → f.type p ≡ 5 → (is_leaf f p ≡ false) × (is_table f p ≡ true)
  unfolding is_leaf is_table
  table-inner p e = (rw e, rw e)

  -- ---- what each page is
  pub data Role (q : ℕ) : Type 0 where
    schema-role : q ≡ 1 → Role q
    inner-role : (i : ℕ) → i < length G → q ≡ 2 + i → Role q
    leaf-role : (i : ℕ) → i < length leaves → q ≡ 2 + length G + i → Role q
    link-role : (x k : ℕ) → LinkAt leaves B.tree q x k → Role q

  tree-role : (q : ℕ) → 2 ≤ q → q < T → Role q
  tree-role q h l =
      ⊎_elim (λ (k : q < 2 + length G). inner-role (q - 2) (omega arith) (omega arith))
      (λ (k : 2 + length G ≤ q). leaf-role (q - (2 + length G)) (omega arith) (omega arith)) (lt-or-ge q (2 + length G))

  pub links-in : length (flat (units_of leaves)) ≡ links_all rows
  links-in = links-count leaves B.tree rows B.rows_are

  pub role : (q : ℕ) → Page f q → Role q
  role q h =
      ⊎_elim (λ (k : q < 2). schema-role (omega (arith, h.0)))
      (λ (k : 2 ≤ q). ⊎_elim (λ (l : q < T). tree-role q k l)
      (λ (l : T ≤ q). link-role (row_index leaves q) (link_index leaves q)
      (link-place leaves B.tree q l (omega (arith, h.1, N-links, links-in)))) (lt-or-ge q T))
      (lt-or-ge q 2)

  small-kind : (q : ℕ) → q < T → (kind_of leaves q ≡ 1) ⊎ (kind_of leaves q ≡ 6)
  unfolding kind_of
  small-kind q l =
      by_cond (λ k. (k ≡ 1) ⊎ (k ≡ 6)) (ltb q 3) 1 (cond (ltb q T) 6 (cond (eqb (link_index leaves q) 0) 4 5)) (λ e. inl refl)
      (λ e. inr (rw (lt-ltb q T l)))

  pub link-kinds : (q x k : ℕ) → LinkAt leaves B.tree q x k → (kind_of leaves q ≡ 4) ⊎ (kind_of leaves q ≡ 5)
  link-kinds q x k a =
      ⊎_elim (λ e. inl (link-kind leaves B.tree q x k a ∙ ap (λ t. cond t 4 5) e))
      (λ e. inr (link-kind leaves B.tree q x k a ∙ ap (λ t. cond t 4 5) e)) (true-or-false (eqb k 0))

  -- an overflow page is no tree page, and the other way round
  pub link-tree : (q x k : ℕ) → LinkAt leaves B.tree q x k → TreePage d q → ⊥
  link-tree q x k a t =
      ⊎_elim (λ e. ⊎_elim (λ s. omega arith) (λ s. omega arith) t) (λ e. ⊎_elim (λ s. omega arith) (λ s. omega arith) t)
      (link-kinds q x k a)

  tree-link : (q : ℕ) → q < T → (kind_of leaves q ≡ 4) ⊎ (kind_of leaves q ≡ 5) → ⊥
  tree-link q l t =
      ⊎_elim (λ e. ⊎_elim (λ s. omega arith) (λ s. omega arith) t) (λ e. ⊎_elim (λ s. omega arith) (λ s. omega arith) t) (small-kind q l)

  pub no-trunk : (q : ℕ) → kind_of leaves q ≡ 2 → ⊥
  no-trunk q e = ⊎_elim (λ s. omega arith) (⊎_elim (λ s. omega arith) (⊎_elim (λ s. omega arith) (λ s. omega arith))) (kinds leaves q)

  pub inner-in : (i : ℕ) → i < length G → InnerIn b (2 + i) (front (get_or G i [])) (last_child (get_or G i [])).page
  inner-in i l = B.inner i l

  pub leaf-in : (i : ℕ) → i < length leaves → LeafIn b size (2 + length G + i) (get_or leaves i [])
  leaf-in i l = B.leaf i l

  -- ---- pointers: the page that one names has it as its namer, with its kind and slot
  pub record Named (q : ℕ) (s : Slot) (t k : ℕ) : Type 0 where
    pub later : Nameable f t
    pub kind : kind_of leaves t ≡ k
    pub namer : namer_of leaves t ≡ q
    pub slot : slot_of leaves t ≡ s

  named-as : (q : ℕ) (s : Slot) (t t' k : ℕ) → t ≡ t' → Named q s t' k → Named q s t k
  named-as q s t t' k e h = subst (λ x. Named q s x k) (sym e) h

  tree-at : (i j : ℕ) → i < length G → j < length (get_or G i []) → TreeAt leaves B.tree (3 + (before G i + j)) i j
  tree-at i j h l = record { group = h; member = l; is = refl }

  child-named : (i j : ℕ) (s : Slot) (t : ℕ) → i < length G → j < length (get_or G i []) → t ≡ (get_or (get_or G i []) j no_child).page
      → child_place leaves i j ≡ s → Named (2 + i) s t 6
  child-named i j s t h l e c =
      let p = 3 + (before G i + j) in
      let a = tree-at i j h l in
      let w = tree-below leaves B.tree p i j a in
      named-as (2 + i) s t p 6 (e ∙ tree-page leaves B.tree p i j a)
      (record {
        later = (omega (arith, w.0), omega (arith, w.1, N-links), no-fixed p (omega (arith, w.1, N-links)));
        kind = tree-kind leaves B.tree p i j a;
        namer = tree-namer leaves B.tree p i j a;
        slot = tree-slot leaves B.tree p i j a ∙ c;
      })

  link-named : (x k : ℕ) (t q : ℕ) (s : Slot) (kind : ℕ) → (a : LinkAt leaves B.tree t x k) → cond (eqb k 0) 4 5 ≡ kind
      → cond (eqb k 0) (leaf_with leaves x) (t - 1) ≡ q
      → cond (eqb k 0) (chain_slot (cell_with leaves x)) next_slot ≡ s → Named q s t kind
  link-named x k t q s kind a e g c =
      let w = link-above leaves B.tree t x k a in
      let u : x < length (units_of leaves) = omega (arith, a.row, length-map (flat leaves) unit_of) in
      let high : t ≤ f.N = omega (arith, a.is, N-links, links-in, member_of (units_of leaves) x k u a.link) in
      record {
        later = (omega (arith, w.0), high, no-fixed t high);
        kind = link-kind leaves B.tree t x k a ∙ e;
        namer = link-namer leaves B.tree t x k a ∙ g;
        slot = link-slot leaves B.tree t x k a ∙ c;
      }

  not-interior : (q : ℕ) → f.type q ≡ 13 → Interior f q → ⊥
  not-interior q e h = true≢false (sym (table-leaf q e).0 ∙ h)

  held-child : (q j t k : ℕ) → Page f q → PointsTo f d q (child_slot j) t k → Named q (child_slot j) t k
  held-child q j t k p (tp, int, l, e, z) = go (role q p)
    where
      go : Role q → Named q (child_slot j) t k
      go (schema-role o) = absurd (not-interior q (ap f.type o ∙ B.schema-page.type-is) int)
      go (leaf-role i h o) = absurd (not-interior q (ap f.type o ∙ (leaf-in i h).type-is) int)
      go (link-role x i a) = absurd (link-tree q x i a tp)
      go (inner-role i h o) =
          let w = inner-in i h in
          let g = get_or G i [] in
          let c : j < length (front g) = omega (arith, ap f.count o, w.count_is) in
          let m = front_length g (omega (arith, group-two i h)) in
          let page : t ≡ (get_or g j no_child).page =
          e ∙ ap (λ y. (f.cell y j).child) o ∙ ap (λ (c : F.Cell). c.child) (w.cell_is j c)
          ∙ ap (λ (c : Child). c.page) (front_at g j no_child c) in
          let s : child_place leaves i j ≡ child_slot j = ap (λ y. cond y right_slot (child_slot j)) (ne_eqb (suc j) (length g) (λ y. omega arith)) in
          subst (λ y. Named y (child_slot j) t k) (sym o)
          (subst (Named (2 + i) (child_slot j) t) (sym z) (child-named i j (child_slot j) t h (omega arith) page s))

  held-right : (q t k : ℕ) → Page f q → PointsTo f d q right_slot t k → Named q right_slot t k
  held-right q t k p (tp, int, e, z) = go (role q p)
    where
      go : Role q → Named q right_slot t k
      go (schema-role o) = absurd (not-interior q (ap f.type o ∙ B.schema-page.type-is) int)
      go (leaf-role i h o) = absurd (not-interior q (ap f.type o ∙ (leaf-in i h).type-is) int)
      go (link-role x i a) = absurd (link-tree q x i a tp)
      go (inner-role i h o) =
          let w = inner-in i h in
          let g = get_or G i [] in
          let m = group-two i h in
          let j = length g - 1 in
          let page : t ≡ (get_or g j no_child).page = e ∙ ap f.right o ∙ w.right_is ∙ ap (λ (c : Child). c.page) (last-at g (omega arith)) in
          let s : child_place leaves i j ≡ right_slot = ap (λ y. cond y right_slot (child_slot j)) (eq-eqb (suc j) (length g) (omega arith)) in
          subst (λ y. Named y right_slot t k) (sym o) (subst (Named (2 + i) right_slot t) (sym z) (child-named i j right_slot t h (omega arith) page s))

  -- a row by its leaf
  pub row_of : (i j : ℕ) → i < length leaves → j < length (get_or leaves i [])
      → get_or (flat leaves) (before leaves i + j) no_row ≡ get_or (get_or leaves i []) j no_row
  row_of i j h l = flat-at leaves i j no_row h l

  -- a row with a chain has its number in its cell
  pub first-kept : (r : Row) → 1 ≤ links_of size r.payload → cond (eqb (local_of size r.payload) (length r.payload)) 0 r.first ≡ r.first
  first-kept r h = ap (λ y. cond y 0 r.first) (ne_eqb (local_of size r.payload) (length r.payload) (λ e. some e))
    where
      some : local_of size r.payload ≡ length r.payload → ⊥
      some e =
          let z : length r.payload - local_of size r.payload ≡ 0 = omega arith in
          omega (arith, ap (chain_length size) z, chain-none size (omega arith))

  pub no_payload : (q : ℕ) → f.type q ≡ 5 → HasPayload f q → ⊥
  no_payload q e h = let w = table-inner q e in false≢true (rw (w.0, w.1) at h)

  held-chain : (q j t k : ℕ) → Page f q → PointsTo f d q (chain_slot j) t k → Named q (chain_slot j) t k
  held-chain q j t k p (tp, has, l, one, e, z) = go (role q p)
    where
      go : Role q → Named q (chain_slot j) t k
      go (schema-role o) = absurd (only j (omega (arith, ap f.count o, B.schema-page.count_is)) (subst (λ y. 1 ≤ (f.cell y j).links) o one))
        where
          only : (j : ℕ) → j < 1 → 1 ≤ (f.cell 1 j).links → ⊥
          only zero h k = omega (arith, ap (λ (c : F.Cell). c.links) (B.schema-page.cell_is 0 (omega arith)), B.schema-links)
          only (suc j) h k = omega arith
      go (inner-role i h o) = absurd (no_payload q (ap f.type o ∙ (inner-in i h).type-is) has)
      go (link-role x i a) = absurd (link-tree q x i a tp)
      go (leaf-role i h o) =
          let w = leaf-in i h in
          let c : j < length (get_or leaves i []) = omega (arith, ap f.count o, w.count_is) in
          let x = before leaves i + j in
          let r = get_or (get_or leaves i []) j no_row in
          let cell : f.cell q j ≡ file_row size r = ap (λ y. f.cell y j) o ∙ w.cell_is j c in
          let links : 1 ≤ links_of size r.payload = omega (arith, ap (λ (c : F.Cell). c.links) cell) in
          let rx : x < length (flat leaves) = member_of leaves i j h c in
          let first : t ≡ T + before (units_of leaves) x =
          e ∙ ap (λ (c : F.Cell). c.first) cell ∙ first-kept r links ∙ ap (λ (r : Row). r.first) (sym (row_of i j h c))
          ∙ first-at leaves B.tree rows B.rows_are x rx in
          let a : LinkAt leaves B.tree t x 0 =
          record {
            row = rx;
            link = omega (arith, unit-at (flat leaves) x rx, ap (λ (r : Row). links_of size r.payload) (row_of i j h c));
            is = omega arith;
          } in
          let g : group_with leaves x ≡ i = group-with leaves i j h c in
          let s : cell_with leaves x ≡ j = omega (arith, ap (before leaves) g) in
          subst (Named q (chain_slot j) t) (sym z)
          (link-named x 0 t q (chain_slot j) 4 a refl (ap (λ y. 2 + length G + y) g ∙ sym o) (ap chain_slot s))

  -- the schema's tree is page 1 alone
  no-child-of-1 : (q : ℕ) → Nameable f q → kind_of leaves q ≡ 6 → namer_of leaves q ≡ 1 → ⊥
  no-child-of-1 q h k m = go (lt-or-ge q 3) (lt-or-ge q T)
    where
      go : (q < 3) ⊎ (3 ≤ q) → (q < T) ⊎ (T ≤ q) → ⊥
      go (inl l) y = omega (arith, kind-low leaves q l)
      go (inr l) (inl y) =
          omega (arith, tree-namer leaves B.tree q (parent_index leaves q) (child_index leaves q) (tree-place leaves B.tree q l y))
      go (inr l) (inr y) =
          let a = link-place leaves B.tree q y (omega (arith, h.1, N-links, links-in)) in
          ⊎_elim (λ e. omega arith) (λ e. omega arith) (link-kinds q (row_index leaves q) (link_index leaves q) a)

  pub in-schema : (level q : ℕ) → InTree f d 1 level q → (q ≡ 1) × (level ≡ 1)
  in-schema zero q h = absurd h
  in-schema (suc zero) q h = (h, refl)
  in-schema (suc (suc n)) q h = absurd (no-child-of-1 q h.0 h.1 (in-schema (suc n) (namer_of leaves q) h.2).0)

  pub schema-cell : (q j : ℕ) → LeafCell f d 1 q j → (q ≡ 1) × (j ≡ 0)
  schema-cell q j h =
      let e = (in-schema h.0.0 q h.0.1).0 in
      (e, omega (arith, h.2, ap f.count e, B.schema-page.count_is))

  module _ (names-2 : column4_of schema ≡ integer (pos 2)) where
    pub column-is : f.column4 1 0 ≡ integer (pos 2)
    column-is = column4-field b 1 0 ∙ ap column4_of (B.schema-page.payload-is 0 (omega arith)) ∙ names-2

    pub two-later : Nameable f 2
    two-later = let high : 2 ≤ f.N = omega (arith, N-links, T-low) in (omega arith, high, no-fixed 2 high)

    two-named : Named 1 (root_slot 0) 2 1
    two-named =
        record {
          later = two-later;
          kind = kind-low leaves 2 (omega arith);
          namer = namer-low leaves 2 (omega arith);
          slot = slot-low leaves 2 (omega arith);
        }

    same-root : (t : ℕ) (c : Column4) → c ≡ integer (pos t) → c ≡ integer (pos 2) → t ≡ 2
    same-root t c e h = cc

    held-root : (q j t k : ℕ) → Page f q → PointsTo f d q (root_slot j) t k → Named q (root_slot j) t k
    held-root q j t k p (cell, col, some, z) =
        let e = schema-cell q j cell in
        let two : t ≡ 2 = same-root t (f.column4 q j) col (ap (λ y. f.column4 y j) e.0 ∙ ap (f.column4 1) e.1 ∙ column-is) in
        subst (λ y. Named y (root_slot j) t k) (sym e.0)
        (subst (λ y. Named 1 (root_slot y) t k) (sym e.1)
        (subst (Named 1 (root_slot 0) t) (sym z) (named-as 1 (root_slot 0) t 2 1 two two-named)))

    -- the number in an overflow page
    next_of : (q x k : ℕ) → LinkAt leaves B.tree q x k → f.next q ≡ cond (eqb (k + 1) (length (get_or (units_of leaves) x []))) 0 (q + 1)
    next_of q x k a =
        let r = get_or (flat leaves) x no_row in
        let chain = each_at (ChainIn b size) (flat leaves) x no_row a.row B.chains in
        let u = unit-at (flat leaves) x a.row in
        let at : q ≡ r.first + k = omega (arith, a.is, first-at leaves B.tree rows B.rows_are x a.row) in
        next_field b q ∙ ap (next_in b) at
        ∙ chain_next b size B.header.usable_is (omega arith) (links_of size r.payload) r.first k _ (omega (arith, a.link))
        chain.small chain.pages
        ∙ ap (λ y. cond (eqb (k + 1) y) 0 (r.first + k + 1)) (sym u)
        ∙ ap (λ y. cond (eqb (k + 1) (length (get_or (units_of leaves) x []))) 0 (y + 1)) (sym at)

    held_next : (q t k : ℕ) → Page f q → PointsTo f d q next_slot t k → Named q next_slot t k
    held_next q t k p (inl h) = absurd (no-trunk q h.0)
    held_next q t k p (inr (kind, some, e, z)) = go (role q p)
      where
        go : Role q → Named q next_slot t k
        go (schema-role o) = absurd (tree-link q (omega (arith, T-low)) kind)
        go (inner-role i h o) = absurd (tree-link q (omega (arith, T-is)) kind)
        go (leaf-role i h o) = absurd (tree-link q (omega (arith, T-is)) kind)
        go (link-role x i a) =
            ⊎_elim
            (λ (y : eqb (i + 1) (length (get_or (units_of leaves) x [])) ≡ true). absurd (some (next_of q x i a ∙ ap (λ v. cond v 0 (q + 1)) y)))
            (λ (y : eqb (i + 1) (length (get_or (units_of leaves) x [])) ≡ false).
            let more : t ≡ q + 1 = e ∙ next_of q x i a ∙ ap (λ v. cond v 0 (q + 1)) y in
            let ne : (i + 1 ≡ length (get_or (units_of leaves) x []) → ⊥) = eqb-false (i + 1) (length (get_or (units_of leaves) x [])) y in
            let l : i + 1 < length (get_or (units_of leaves) x []) = omega (arith, a.link) in
            let c : LinkAt leaves B.tree t x (i + 1) = record { row = a.row; link = l; is = omega (arith, a.is) } in
            let v : eqb (i + 1) 0 ≡ false = ne_eqb (i + 1) 0 (λ w. omega arith) in
            subst (Named q next_slot t) (sym z)
            (link-named x (i + 1) t q next_slot 5 c (ap (λ w. cond w 4 5) v) (ap (λ w. cond w (leaf_with leaves x) (t - 1)) v ∙ omega arith)
            (ap (λ w. cond w (chain_slot (cell_with leaves x)) next_slot) v)))
            (true-or-false (eqb (i + 1) (length (get_or (units_of leaves) x []))))

    pub held : (q : ℕ) (s : Slot) (t k : ℕ) → Page f q → PointsTo f d q s t k → Named q s t k
    held q (child_slot j) t k p h = held-child q j t k p h
    held q right_slot t k p h = held-right q t k p h
    held q (chain_slot j) t k p h = held-chain q j t k p h
    held q (root_slot j) t k p h = held-root q j t k p h
    held q head_slot t k p h = absurd (h.1 (head-field b ∙ B.header.no-free))
    held q (leaf_slot j) t k p h = absurd (no-trunk q h.0)
    held q next_slot t k p h = held_next q t k p h

    -- ---- every page is named
    unfoldable pub Holder : (p : ℕ) → Type 0
    Holder p = (q : ℕ) × (s : Slot) × Names f d q s p

    page-1 : Page f 1
    page-1 = (omega arith, omega (arith, two-later.1))

    tree-pages : (q : ℕ) → q < T → TreePage d q
    tree-pages q l = small-kind q l

    name-2 : Holder 2
    unfolding Holder
    name-2 = (
      1,
      root_slot 0,
      (
        page-1,
        (
          1,
          (
            ((1, refl), (table-leaf 1 B.schema-page.type-is).0, omega (arith, B.schema-page.count_is)),
            column-is,
            (λ (e : ◌≡◌ {A = ℕ} 2 0). omega arith),
            refl,
          ),
        ),
      ),
    )

    name-tree : (p i j : ℕ) → TreeAt leaves B.tree p i j → Holder p
    unfolding Holder
    name-tree p i j a =
        let g = get_or G i [] in
        let w = inner-in i a.group in
        let m = front_length g (omega (arith, group-two i a.group)) in
        let page : Page f (2 + i) = (omega arith, omega (arith, a.group, T-is, N-links)) in
        let tp = tree-pages (2 + i) (omega (arith, a.group, T-is)) in
        let int = (table-inner (2 + i) w.type-is).0 in
        ⊎_elim
        (λ (l : j < length (front g)). (
          2 + i,
          child_slot j,
          (
            page,
            (
              6,
              (
                tp,
                int,
                omega (arith, w.count_is),
                sym (tree-page leaves B.tree p i j a)
                    ∙ sym (ap (λ (c : F.Cell). c.child) (w.cell_is j l) ∙ ap (λ (c : Child). c.page) (front_at g j no_child l)),
                refl,
              ),
            ),
          ),
        ))
        (λ (l : length (front g) ≤ j).
        let last : length g - 1 ≡ j = omega (arith, a.member) in
        let is : (get_or g j no_child).page ≡ (last_child g).page =
        ap (λ (c : Child). c.page) (sym (last-at g (omega arith) ∙ ap (λ x. get_or g x no_child) last)) in
        (2 + i, right_slot, (page, (6, (tp, int, sym (tree-page leaves B.tree p i j a) ∙ is ∙ sym w.right_is, refl)))))
        (lt-or-ge j (length (front g)))

    name-first : (p x : ℕ) → LinkAt leaves B.tree p x 0 → Holder p
    unfolding Holder
    name-first p x a =
        let m = member-in leaves x a.row in
        let i = group_with leaves x in
        let j = x - before leaves i in
        let c : j < length (get_or leaves i []) = omega (arith, m.low, m.high) in
        let w = leaf-in i m.group in
        let e : before leaves i + j ≡ x = omega (arith, m.low) in
        let r = get_or (get_or leaves i []) j no_row in
        let same : get_or (flat leaves) x no_row ≡ r = ap (λ y. get_or (flat leaves) y no_row) (sym e) ∙ row_of i j m.group c in
        let links : 1 ≤ links_of size r.payload =
        omega (arith, a.link, unit-at (flat leaves) x a.row, ap (λ (r : Row). links_of size r.payload) same) in
        let q = 2 + length G + i in
        let cell = w.cell_is j c in
        let is : p ≡ (f.cell q j).first =
        omega (
          arith,
          a.is,
          first-at leaves B.tree rows B.rows_are x a.row,
          ap (λ (r : Row). r.first) same,
          first-kept r links,
          ap (λ (c : F.Cell). c.first) cell,
        ) in
        let t = table-leaf q w.type-is in
        let has : HasPayload f q = rw t.0 in (
          q,
          chain_slot j,
          (
            (omega arith, omega (arith, m.group, T-is, N-links)),
            (
              4,
              (
                tree-pages q (omega (arith, m.group, T-is)),
                has,
                omega (arith, w.count_is),
                omega (arith, ap (λ (c : F.Cell). c.links) cell),
                is,
                refl,
              ),
            ),
          ),
        )

    name-later : (p x k : ℕ) → LinkAt leaves B.tree p x (suc k) → p ≤ f.N → Holder p
    unfolding Holder
    name-later p x k a h =
        let q = p - 1 in
        let before-it : LinkAt leaves B.tree q x k = record { row = a.row; link = omega (arith, a.link); is = omega (arith, a.is) } in
        let next : f.next q ≡ q + 1 =
        next_of q x k before-it ∙ ap (λ y. cond y 0 (q + 1)) (ne_eqb (k + 1) (length (get_or (units_of leaves) x [])) (λ e. omega (arith, a.link))) in (
          q,
          next_slot,
          (
            (omega (arith, link-above leaves B.tree q x k before-it), omega arith),
            (5, inr (link-kinds q x k before-it, (λ (e : f.next q ≡ 0). omega arith), omega (arith, next, a.is), refl)),
          ),
        )

    pub named : (p : ℕ) → Nameable f p → Holder p
    named p h = go (lt-or-ge p 3) (lt-or-ge p T)
      where
        chain : (x k : ℕ) → LinkAt leaves B.tree p x k → Holder p
        chain x zero a = name-first p x a
        chain x (suc k) a = name-later p x k a h.1

        go : (p < 3) ⊎ (3 ≤ p) → (p < T) ⊎ (T ≤ p) → Holder p
        go (inl l) y = subst Holder (omega (arith, h.0)) name-2
        go (inr l) (inl y) = name-tree p (parent_index leaves p) (child_index leaves p) (tree-place leaves B.tree p l y)
        go (inr l) (inr y) = chain (row_index leaves p) (link_index leaves p) (link-place leaves B.tree p y (omega (arith, h.1, N-links, links-in)))
