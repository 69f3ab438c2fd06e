-- The dealing of the image that is written is good: the rules one by one, and where each row stands.
-- Assumes nothing.
use Prim.Native.Nat.{ℕ, zero, suc, ◌+◌, ◌-◌, ◌*◌, ◌<◌, ◌≤◌}
use mathlib.Core.Path.{◌≡◌, refl, sym, ap, ◌∙◌, subst}
use mathlib.Core.Bool.{Bool, true, false, cond, true≢false}
use mathlib.Core.List.{List, [], ◌∷◌, ◌++◌, append_assoc}
use mathlib.Core.Logic.{◌⊎◌, inl, inr, ⊎_elim}
use native.Mathlib.Nat.{zero-add}
use native.Mathlib.Omega.{arith}
use lib.Dec.{ltb, eqb}
use lib.IntN.{ℤ, pos}
use lib.ListN.{length, get_or, length-append}
use borrow.Author.Tests.{lt-ltb, le-ltb, eq-eqb, ne_eqb, ltb-false, eqb-true}
use Rattle.number.proofs.Cases.{lt-or-ge, by_cond, true-or-false}
use Rattle.dealing.specs.File as F
use Rattle.dealing.specs.File.{Cell, unfit, integer, Page, Nameable, is_table, Leaf, HasPayload, suits}
use Rattle.dealing.specs.File.{schema_root, any_root, table_page}
use Rattle.dealing.specs.Good.{Dealing, TreePage, InTree, LeafCell}
use Rattle.dealing.specs.Good.{place_of, Ordered, reading, Chain, RootNumber, on_freelist, free_pages, Good}
use Rattle.dealing.specs.Spelling.{long_cells, is_tree, long_on, long_to, long_in}
use Rattle.image.specs.Payload.{payload_of}
use Rattle.image.specs.Schema.{column4_of, value_is, of_five}
use Rattle.record.specs.Record.{Types, broken, types, reads, reads_of, types_of, count_of, columns_of, column_at}
use Rattle.image.specs.Image.{file_of}
use Rattle.image.specs.Good.{GoodDealing, TableRoot, Carries}
use Rattle.number.specs.Bytes.{bias_of}
use Rattle.image.proofs.Fields.{total-field, vacuum-field}
use Rattle.writing.specs.Rows.{Row, Child, no_row, links_of, file_row}
use Rattle.writing.specs.Groups.{flat, before, group_with, Each}
use Rattle.writing.specs.Layout.{size, with_firsts, levels_of, leaves_of, later_pages, image_of}
use Rattle.writing.specs.Dealt.{inners_of, behind_tree, parent_index, child_index, row_index, link_index, leaf_with}
use Rattle.writing.specs.Dealt.{cell_with, kind_of, namer_of, step_from, dealing_of}
use Rattle.writing.proofs.ChainRead.{chain-links}
use Rattle.writing.proofs.InFile.{ChainIn}
use Rattle.writing.proofs.Members.{before-next, member_of, group-with, member-in, each_at}
use Rattle.writing.proofs.Members.{each-by, flat-more}
use Rattle.writing.proofs.Fitting.{KeysFit}
use Rattle.writing.proofs.LayoutLaws.{Levels, next_size, next-length, firsts-length}
use Rattle.writing.proofs.Built.{Fits, Built, built}
use Rattle.writing.proofs.Order.{Rises, tree-ordered, schema-ordered}
use Rattle.writing.proofs.Places.{tree-place, tree-kind, tree-namer, behind-is, LinkAt}
use Rattle.writing.proofs.Places.{link-place, link-above, link-namer, first-at, kind-low}
use Rattle.writing.proofs.Places.{namer-low, kinds}
use Rattle.writing.proofs.FreshNamed.{no-fixed, N-links, T-is, T-low, inners, table-leaf, table-inner, Role, links-in, role}
use Rattle.writing.proofs.FreshNamed.{link-kinds, link-tree, no-trunk, inner-in, leaf-in, row_of, first-kept, no_payload}
use Rattle.writing.proofs.FreshNamed.{schema-role, inner-role, leaf-role, link-role}
use Rattle.writing.proofs.FreshNamed.{in-schema, schema-cell, column-is, two-later, held, Holder, named}

-- ---- lists
rises-firsts : (lo t : ℕ) (rows : List Row) → Rises lo rows → Rises lo (with_firsts t rows)
unfolding with_firsts
rises-firsts lo t [] h = tt
rises-firsts lo t (r ∷ rs) h = (h.0, rises-firsts (suc (bias_of r.number)) (t + links_of size r.payload) rs h.1)

-- every payload reads as a record
abbrev pub AllRead : List Row → Type 0
AllRead rows = Each (λ (r : Row). reads_of r.payload ≡ true) rows

firsts-read : (t : ℕ) (rows : List Row) → AllRead rows → AllRead (with_firsts t rows)
unfolding with_firsts
firsts-read t [] h = tt
firsts-read t (r ∷ rs) h = (h.0, firsts-read (t + links_of size r.payload) rs h.1)

-- a record with a column four reads
five-reads : (r : List ℕ) (n : ℕ) → column4_of r ≡ integer (pos n) → reads_of r ≡ true
unfolding column4_of reads_of columns_of
five-reads r n e = go (types_of r) e
  where
    unfit-not : unfit ≡ integer (pos n) → ⊥
    unfit-not h = let z : ◌≡◌ {A = ℕ} 0 1 = cc in omega arith

    go : (c : Types) → of_five (count_of c) (value_is (column_at r 4)) ≡ integer (pos n) → reads c ≡ true
    go broken h = absurd (unfit-not h)
    go (types ts) h = refl

-- groups that are not empty: so many members before the ith at least
before-least : {A : Type 0} (gs : List (List A)) (i : ℕ) → Each (λ g. 1 ≤ length g) gs → i ≤ length gs → i ≤ before gs i
before-least [] i e h = omega arith
before-least (g ∷ gs) zero e h = omega arith
before-least (g ∷ gs) (suc i) e h = omega (arith, before-next g gs i, before-least gs i e.1 (omega arith), e.0)

flat_append : {A : Type 0} (gs hs : List (List A)) → flat (gs ++ hs) ≡ flat gs ++ flat hs
unfolding flat
flat_append [] hs = refl
flat_append (g ∷ gs) hs = ap (λ x. g ++ x) (flat_append gs hs) ∙ sym (append_assoc g (flat gs) (flat hs))

nothing : flat {A = List Child} [] ≡ []
unfolding flat
nothing = refl

no-child : flat {A = Child} [] ≡ []
unfolding flat
no-child = refl

with-past : {A : Type 0} (gs hs : List (List A)) (y : ℕ) → group_with (gs ++ hs) (length (flat gs) + y) ≡ length gs + group_with hs y
unfolding group_with flat
with-past [] hs y = ap (group_with hs) (zero-add y) ∙ sym (zero-add (group_with hs y))
with-past (g ∷ gs) hs y =
    let e : length (g ++ flat gs) + y - length g ≡ length (flat gs) + y = omega (arith, length-append g (flat gs)) in
    rw (le-ltb (length (g ++ flat gs) + y) (length g) (omega (arith, length-append g (flat gs))), e) (ap suc (with-past gs hs y) ∙ omega arith)

with-front : {A : Type 0} (gs hs : List (List A)) (y : ℕ) → y < length (flat gs) → group_with (gs ++ hs) y < length gs
unfolding group_with flat
with-front [] hs y l = absurd (omega arith)
with-front (g ∷ gs) hs y l =
    by_cond (λ k. k < suc (length gs)) (ltb y (length g)) 0 (suc (group_with (gs ++ hs) (y - length g))) (λ e. omega arith)
    (λ e. omega (arith, with-front gs hs (y - length g) (omega (arith, ltb-false y (length g) e, length-append g (flat gs)))))

-- ---- the file
module _ (b schema : List ℕ) (rows : List Row) (leaves : List (List Row)) (n : ℕ) (B : Built b schema rows leaves n) where
  abbrev f : F.File
  f = file_of b

  abbrev d : Dealing
  d = dealing_of leaves

  abbrev G : List (List Child)
  G = inners_of leaves

  abbrev T : ℕ
  T = behind_tree leaves

  module _ (names-2 : column4_of schema ≡ integer (pos 2)) where
    -- ---- steps
    groups-some : Each (λ g. 1 ≤ length g) G
    groups-some = each-by (λ g. KeysFit size g × (2 ≤ length g)) (λ g. 1 ≤ length g) G (λ g h. omega arith) (inners B)

    namer-less : (p : ℕ) → Nameable f p → (1 ≤ namer_of leaves p) × (namer_of leaves p < p)
    namer-less p h = go (lt-or-ge p 3) (lt-or-ge p T)
      where
        chain : (x k : ℕ) → LinkAt leaves B.tree p x k → (1 ≤ namer_of leaves p) × (namer_of leaves p < p)
        chain x zero a =
            let m = member-in leaves x a.row in
            let e = link-namer leaves B.tree p x 0 a in
            let w = link-above leaves B.tree p x 0 a in
            (omega arith, omega (arith, e, m.group, T-is B))
        chain x (suc k) a =
            let e : namer_of leaves p ≡ p - 1 = link-namer leaves B.tree p x (suc k) a
            ∙ ap (λ y. cond y (leaf_with leaves x) (p - 1)) (ne_eqb (suc k) 0 (λ z. omega arith)) in
            (omega arith, omega arith)

        go : (p < 3) ⊎ (3 ≤ p) → (p < T) ⊎ (T ≤ p) → (1 ≤ namer_of leaves p) × (namer_of leaves p < p)
        go (inl l) y = let e = namer-low leaves p l in (omega arith, omega arith)
        go (inr l) (inl y) =
            let i = parent_index leaves p in
            let a = tree-place leaves B.tree p l y in
            let e = tree-namer leaves B.tree p i (child_index leaves p) a in
            (omega arith, omega (arith, e, a.is, before-least G i groups-some (omega (arith, a.group))))
        go (inr l) (inr y) = chain (row_index leaves p) (link_index leaves p) (link-place leaves B.tree p y (omega (arith, h.1, N-links B, links-in B)))

    step-low : (k p : ℕ) → p < 2 → step_from leaves k p ≡ 0
    unfolding step_from
    step-low zero p h = refl
    step-low (suc k) p h = rw (lt-ltb p 2 h)

    step-more : (k p : ℕ) → 2 ≤ p → step_from leaves (suc k) p ≡ suc (step_from leaves k (namer_of leaves p))
    unfolding step_from
    step-more k p h = rw (le-ltb p 2 h)

    step-fuel : (k k' p : ℕ) → p ≤ k → p ≤ k' → p ≤ f.N → step_from leaves k p ≡ step_from leaves k' p
    step-fuel zero k' p h l n = step-low 0 p (omega arith) ∙ sym (step-low k' p (omega arith))
    step-fuel (suc k) zero p h l n = step-low (suc k) p (omega arith) ∙ sym (step-low 0 p (omega arith))
    step-fuel (suc k) (suc k') p h l n =
        ⊎_elim (λ (y : p < 2). step-low (suc k) p y ∙ sym (step-low (suc k') p y))
        (λ (y : 2 ≤ p).
        let w = namer-less p (y, n, no-fixed B p n) in
        step-more k p y ∙ ap suc (step-fuel k k' (namer_of leaves p) (omega arith) (omega arith) (omega arith))
        ∙ sym (step-more k' p y)) (lt-or-ge p 2)

    abbrev st : ℕ → ℕ
    st p = step_from leaves p p

    steps : (p : ℕ) → Nameable f p → st p ≡ suc (st (namer_of leaves p))
    steps p h =
        let w = namer-less p h in
        let e : p ≡ suc (p - 1) = omega arith in
        ap (λ k. step_from leaves k p) e ∙ step-more (p - 1) p h.0
        ∙ ap suc (step-fuel (p - 1) (namer_of leaves p) (namer_of leaves p) (omega arith) (omega arith) (omega (arith, h.1)))

    step-2 : st 2 ≡ 1
    step-2 =
        steps 2 (two-later B names-2) ∙ ap (λ k. suc (st k)) (namer-low leaves 2 (omega arith)) ∙ ap suc (step-low 1 1 (omega arith))

    in-root : (level q : ℕ) → InTree f d 2 level q → level ≡ st q
    in-root zero q h = absurd h
    in-root (suc zero) q h = sym (ap st h ∙ step-2)
    in-root (suc (suc m)) q h = ap suc (in-root (suc m) (namer_of leaves q) h.2) ∙ sym (steps q h.0)

    -- a page of the tree of 2 is one of its pages
    in_tree : (level q : ℕ) → InTree f d 2 level q → (2 ≤ q) × (q < T)
    in_tree zero q h = absurd h
    in_tree (suc zero) q h = (omega arith, omega (arith, T-low B))
    in_tree (suc (suc m)) q h = (
      h.0.0,
      ⊎_elim (λ (l : q < T). l)
          (λ (l : T ≤ q).
          let a = link-place leaves B.tree q l (omega (arith, h.0.1, N-links B, links-in B)) in
          absurd (⊎_elim (λ e. omega (arith, h.1)) (λ e. omega (arith, h.1)) (link-kinds B q (row_index leaves q) (link_index leaves q) a)))
          (lt-or-ge q T),
    )

    -- ---- levels
    pages-by : (P : List (List Child)) (ls : List (List (List Child))) (s : ℕ) → Type 0
    pages-by P ls s =
        ((i : ℕ) → length P ≤ i → i < length G → st (2 + i) < s + length ls) × ((i : ℕ) → i < length leaves → st (2 + length G + i) ≡ s + length ls)

    below_step : (P gs : List (List Child)) (ls : List (List (List Child))) (s : ℕ) → G ≡ P ++ flat (gs ∷ ls)
        → length (P ++ gs) ≡ length P + length gs
        → 3 + length (flat P) ≡ 2 + length P + length gs → ((i : ℕ) → i < length gs → st (2 + length P + i) ≡ s) → (y : ℕ)
        → y < length (flat gs) → st (2 + length (P ++ gs) + y) ≡ suc s
    below_step P gs ls s e m c p y l =
        let q = 2 + length (P ++ gs) + y in
        let at : q ≡ 3 + (length (flat P) + y) = omega arith in
        let all : G ≡ P ++ (gs ++ flat ls) = e ∙ ap (λ x. P ++ x) (flat-more gs ls) in
        let i = group_with (gs ++ flat ls) y in
        let k : i < length gs = with-front gs (flat ls) y l in
        let sum : length (flat G) ≡ length (flat P) + (length (flat gs) + length (flat (flat ls))) =
        ap length (ap flat all ∙ flat_append P (gs ++ flat ls) ∙ ap (λ x. flat P ++ x) (flat_append gs (flat ls)))
        ∙ length-append (flat P) (flat gs ++ flat (flat ls)) ∙ ap (λ x. length (flat P) + x) (length-append (flat gs) (flat (flat ls))) in
        let below : q < T = omega (arith, behind-is leaves B.tree) in
        let low : 3 ≤ q = omega arith in
        let a = tree-place leaves B.tree q low below in
        let three : q - 3 ≡ length (flat P) + y = omega arith in
        let parent : parent_index leaves q ≡ length P + i =
        ap (group_with G) three ∙ ap (λ g. group_with g (length (flat P) + y)) all ∙ with-past P (gs ++ flat ls) y in
        let namer : namer_of leaves q ≡ 2 + length P + i =
        tree-namer leaves B.tree q (parent_index leaves q) (child_index leaves q) a ∙ omega arith in
        steps q (omega arith, omega (arith, N-links B), no-fixed B q (omega (arith, N-links B))) ∙ ap (λ x. suc (st x)) namer ∙ ap suc (p i k)

    level-steps : (P : List (List Child)) (ls : List (List (List Child))) (s : ℕ) → G ≡ P ++ flat ls → Levels (2 + length P) ls leaves
        → 3 + length (flat P) ≡ 2 + length P + next_size ls leaves → ((i : ℕ) → i < next_size ls leaves → st (2 + length P + i) ≡ s) → pages-by P ls s
    unfolding pages-by
    level-steps P [] s e h c p =
        let z : length G ≡ length P = omega (arith, ap length e, length-append P (flat []), ap length nothing) in
        (λ i l m. absurd (omega arith), λ i l. ap (λ k. st (2 + k + i)) z ∙ p i l ∙ omega arith)
    level-steps P (gs ∷ ls) s e h c p =
        let P' = P ++ gs in
        let m : length P' ≡ length P + length gs = length-append P gs in
        let e' : G ≡ P' ++ flat ls = e ∙ ap (λ x. P ++ x) (flat-more gs ls) ∙ sym (append_assoc P gs (flat ls)) in
        let t : 2 + length P + length gs ≡ 2 + length P' = omega arith in
        let next : length (flat gs) ≡ next_size ls leaves = ap length h.0 ∙ next-length (2 + length P + length gs) ls leaves in
        let c' : 3 + length (flat P') ≡ 2 + length P' + next_size ls leaves =
        omega (arith, ap length (flat_append P gs), length-append (flat P) (flat gs)) in
        let w = level-steps P' ls (suc s) e' (subst (λ x. Levels x ls leaves) t h.1.1) c'
        (λ y l. below_step P gs ls s e m c p y (omega arith)) in (
          λ i l k. ⊎_elim (λ (y : i < length P + length gs).
              let q : 2 + i ≡ 2 + length P + (i - length P) = omega arith in
              omega (arith, ap st q, p (i - length P) (omega arith)))
              (λ (y : length P + length gs ≤ i). omega (arith, w.0 i (omega arith) k)) (lt-or-ge i (length P + length gs)),
          λ i l. w.1 i l ∙ omega arith,
        )

    all-steps : pages-by [] (levels_of leaves) 1
    all-steps =
        level-steps [] (levels_of leaves) 1 refl (subst (λ t. Levels t (levels_of leaves) leaves) (omega arith) B.tree.levels)
        (omega (arith, B.tree.root, ap length no-child))
        (λ i l. let z : 2 + length {A = List Child} [] + i ≡ 2 = omega (arith, B.tree.root) in ap st z ∙ step-2)

    inner-step : (i : ℕ) → i < length G → st (2 + i) ≤ 20
    unfolding pages-by
    inner-step i l = omega (arith, all-steps.0 i (omega arith) l, B.tree.depth)

    leaf-step : (i : ℕ) → i < length leaves → st (2 + length G + i) ≡ 1 + length (levels_of leaves)
    unfolding pages-by
    leaf-step i l = all-steps.1 i l

    tree-step : (q : ℕ) → Role B q → (2 ≤ q) × (q < T) → st q ≤ 20
    tree-step q (schema-role o) h = absurd (omega arith)
    tree-step q (inner-role i l o) h = omega (arith, ap st o, inner-step i l)
    tree-step q (leaf-role i l o) h = omega (arith, ap st o, leaf-step i l, B.tree.depth)
    tree-step q (link-role x k a) h = absurd (omega (arith, link-above leaves B.tree q x k a))

    leaf-level : (q : ℕ) → Role B q → (2 ≤ q) × (q < T) → Leaf f q → st q ≡ 1 + length (levels_of leaves)
    leaf-level q (schema-role o) h l = absurd (omega arith)
    leaf-level q (inner-role i k o) h l = absurd (true≢false (sym l ∙ (table-inner B q (ap f.type o ∙ (inner-in B i k).type-is)).0))
    leaf-level q (leaf-role i k o) h l = ap st o ∙ leaf-step i k
    leaf-level q (link-role x k a) h l = absurd (omega (arith, link-above leaves B.tree q x k a))

    roots : (r : ℕ) → Page f r → kind_of leaves r ≡ 1 → (r ≡ 1) ⊎ (r ≡ 2)
    roots r p k = go (lt-or-ge r 3) (lt-or-ge r T)
      where
        go : (r < 3) ⊎ (3 ≤ r) → (r < T) ⊎ (T ≤ r) → (r ≡ 1) ⊎ (r ≡ 2)
        go (inl l) y = ⊎_elim (λ (z : r < 2). inl (omega (arith, p.0))) (λ (z : 2 ≤ r). inr (omega arith)) (lt-or-ge r 2)
        go (inr l) (inl y) =
            absurd
            (omega (arith, tree-kind leaves B.tree r (parent_index leaves r) (child_index leaves r) (tree-place leaves B.tree r l y)))
        go (inr l) (inr y) =
            let a = link-place leaves B.tree r y (omega (arith, p.1, N-links B, links-in B)) in
            absurd (⊎_elim (λ e. omega arith) (λ e. omega arith) (link-kinds B r (row_index leaves r) (link_index leaves r) a))

    -- ---- 24
    depth : (r level q : ℕ) → Page f r → kind_of leaves r ≡ 1 → InTree f d r level q → level ≤ 20
    depth r level q p k h = ⊎_elim one two (roots r p k)
      where
        one : r ≡ 1 → level ≤ 20
        one e = omega (arith, (in-schema B level q (subst (λ x. InTree f d x level q) e h)).1)

        two : r ≡ 2 → level ≤ 20
        two e =
            let g = subst (λ x. InTree f d x level q) e h in
            let w = in_tree level q g in
            omega (arith, in-root level q g, tree-step q (role B q (omega arith, omega (arith, w.1, N-links B))) w)

    even : (r level q level' q' : ℕ) → Page f r → kind_of leaves r ≡ 1 → InTree f d r level q → Leaf f q → InTree f d r level' q'
        → Leaf f q' → level ≡ level'
    even r level q level' q' p k h l h' l' = ⊎_elim one two (roots r p k)
      where
        one : r ≡ 1 → level ≡ level'
        one e =
            omega (
              arith,
              (in-schema B level q (subst (λ x. InTree f d x level q) e h)).1,
              (in-schema B level' q' (subst (λ x. InTree f d x level' q') e h')).1,
            )

        at_leaf : (level q : ℕ) → InTree f d 2 level q → Leaf f q → level ≡ 1 + length (levels_of leaves)
        at_leaf level q g l =
            let w = in_tree level q g in
            in-root level q g ∙ leaf-level q (role B q (omega arith, omega (arith, w.1, N-links B))) w l

        two : r ≡ 2 → level ≡ level'
        two e = at_leaf level q (subst (λ x. InTree f d x level q) e h) l ∙ sym (at_leaf level' q' (subst (λ x. InTree f d x level' q') e h') l')

    -- ---- 25
    module _ (rises : Rises 0 rows) where
      order : (r : ℕ) → Page f r → kind_of leaves r ≡ 1 → Ordered (reading f false 20 r)
      order r p k = ⊎_elim one two (roots r p k)
        where
          one : r ≡ 1 → Ordered (reading f false 20 r)
          one e = subst (λ x. Ordered (reading f false 20 x)) (sym e) (schema-ordered b schema B.schema-page)

          two : r ≡ 2 → Ordered (reading f false 20 r)
          two e =
              subst (λ x. Ordered (reading f false 20 x)) (sym e)
              (tree-ordered b 0 (levels_of leaves) leaves B.tree B.inner B.leaf B.filled (rw B.rows_are (rises-firsts 0 T rows rises)))

    -- ---- 22
    type-of : (q : ℕ) → Role B q → TreePage d q → (f.type q ≡ 5) ⊎ (f.type q ≡ 13)
    type-of q (schema-role o) t = inr (ap f.type o ∙ B.schema-page.type-is)
    type-of q (inner-role i l o) t = inl (ap f.type o ∙ (inner-in B i l).type-is)
    type-of q (leaf-role i l o) t = inr (ap f.type o ∙ (leaf-in B i l).type-is)
    type-of q (link-role x k a) t = absurd (link-tree B q x k a t)

    suits-all : (t : ℕ) → (t ≡ 5) ⊎ (t ≡ 13) → (suits schema_root t ≡ true) × (suits any_root t ≡ true) × (suits table_page t ≡ true)
    unfolding suits
    suits-all t (inl e) = (rw e, rw e, rw e)
    suits-all t (inr e) = (rw e, rw e, rw e)

    suit : (q : ℕ) → Page f q → TreePage d q → suits (place_of f d q) (f.type q) ≡ true
    suit q p t = go (lt-or-ge q 3) (lt-or-ge q T)
      where
        all : (suits schema_root (f.type q) ≡ true) × (suits any_root (f.type q) ≡ true) × (suits table_page (f.type q) ≡ true)
        all = suits-all (f.type q) (type-of q (role B q p) t)

        root : (x y : Bool) → suits (cond true (cond x schema_root any_root) (F.child_place y)) (f.type q) ≡ true
        root true y = all.0
        root false y = all.1

        child : (x : F.Place) → suits (cond false x (F.child_place true)) (f.type q) ≡ true
        child x = all.2

        go : (q < 3) ⊎ (3 ≤ q) → (q < T) ⊎ (T ≤ q) → suits (place_of f d q) (f.type q) ≡ true
        go (inl l) y = rw (eq-eqb (kind_of leaves q) 1 (kind-low leaves q l)) (root (eqb q 1) (is_table f (namer_of leaves q)))
        go (inr l) (inl y) =
            let i = parent_index leaves q in
            let a = tree-place leaves B.tree q l y in
            let k = tree-kind leaves B.tree q i (child_index leaves q) a in
            let e = tree-namer leaves B.tree q i (child_index leaves q) a in
            let table : is_table f (namer_of leaves q) ≡ true = ap (is_table f) e ∙ (table-inner B (2 + i) (inner-in B i a.group).type-is).1 in
            rw (ne_eqb (kind_of leaves q) 1 (λ (z : kind_of leaves q ≡ 1). omega arith), table) (child (cond (eqb q 1) schema_root any_root))
        go (inr l) (inr y) =
            absurd (link-tree B q (row_index leaves q) (link_index leaves q)
            (link-place leaves B.tree q y (omega (arith, p.1, N-links B, links-in B))) t)

    -- ---- 23, 26
    whole : (q : ℕ) → Role B q → TreePage d q → f.broken q ≡ 0
    whole q (schema-role o) t = ap f.broken o ∙ B.schema-page.sound
    whole q (inner-role i l o) t = ap f.broken o ∙ (inner-in B i l).sound
    whole q (leaf-role i l o) t = ap f.broken o ∙ (leaf-in B i l).sound
    whole q (link-role x k a) t = absurd (link-tree B q x k a t)

    -- ---- 27
    chained : (q j : ℕ) → Role B q → TreePage d q → HasPayload f q → j < f.count q → 1 ≤ (f.cell q j).links
        → Chain f (f.cell q j).links (f.cell q j).first
    chained q j (schema-role o) t has l one =
        absurd (only j (omega (arith, ap f.count o, B.schema-page.count_is)) (subst (λ y. 1 ≤ (f.cell y j).links) o one))
      where
        only : (j : ℕ) → j < 1 → 1 ≤ (f.cell 1 j).links → ⊥
        only zero h k = omega (arith, ap (λ (c : F.Cell). c.links) (B.schema-page.cell_is 0 (omega arith)), B.schema-links)
        only (suc j) h k = omega arith
    chained q j (inner-role i h o) t has l one = absurd (no_payload B q (ap f.type o ∙ (inner-in B i h).type-is) has)
    chained q j (link-role x i a) t has l one = absurd (link-tree B q x i a t)
    chained q j (leaf-role i h o) t has l one =
        let w = leaf-in B i h in
        let c : j < length (get_or leaves i []) = omega (arith, ap f.count o, w.count_is) in
        let x = before leaves i + j in
        let r = get_or (get_or leaves i []) j no_row in
        let cell : f.cell q j ≡ file_row size r = ap (λ y. f.cell y j) o ∙ w.cell_is j c in
        let links : 1 ≤ links_of size r.payload = omega (arith, ap (λ (c : F.Cell). c.links) cell) in
        let rx : x < length (flat leaves) = member_of leaves i j h c in
        let same = row_of B i j h c in
        let chain : ChainIn b size r = subst (ChainIn b size) same (each_at (ChainIn b size) (flat leaves) x no_row rx B.chains) in
        let low : 0 < r.first = omega (arith, ap (λ (r : Row). r.first) same, first-at leaves B.tree rows B.rows_are x rx) in
        subst (λ (c : F.Cell). Chain f c.links c.first) (sym cell)
        (subst (Chain f (links_of size r.payload)) (sym (first-kept B r links))
        (chain-links b size B.header.usable_is (omega arith) (links_of size r.payload) r.first _ low (omega arith)
        chain.small chain.pages))

    -- ---- no number is spelled long
    cell-short : (q j : ℕ) → Role B q → TreePage d q → j < f.count q → (f.cell q j).long ≡ 0
    cell-short q j (schema-role o) t l =
        ap (λ y. (f.cell y j).long) o
        ∙ ap (λ (c : F.Cell). c.long) (B.schema-page.cell_is j (omega (arith, ap f.count o, B.schema-page.count_is)))
    cell-short q j (inner-role i h o) t l =
        let w = inner-in B i h in
        ap (λ y. (f.cell y j).long) o ∙ ap (λ (c : F.Cell). c.long) (w.cell_is j (omega (arith, ap f.count o, w.count_is)))
    cell-short q j (leaf-role i h o) t l =
        let w = leaf-in B i h in
        ap (λ y. (f.cell y j).long) o ∙ ap (λ (c : F.Cell). c.long) (w.cell_is j (omega (arith, ap f.count o, w.count_is)))
    cell-short q j (link-role x k a) t l = absurd (link-tree B q x k a t)

    cells-short : (q n : ℕ) → Role B q → TreePage d q → n ≤ f.count q → long_cells f q n ≡ 0
    unfolding long_cells
    cells-short q zero r t l = refl
    cells-short q (suc n) r t l = rw (cells-short q n r t (omega arith), cell-short q n r t (omega arith))

    tree_of : (k : ℕ) → is_tree k ≡ true → (k ≡ 1) ⊎ (k ≡ 6)
    tree_of k e =
        ⊎_elim (λ (y : eqb k 1 ≡ true). inl (eqb-true k 1 y)) (λ (n : eqb k 1 ≡ false). inr (eqb-true k 6 (rw n at e)))
        (true-or-false (eqb k 1))

    page-short : (q : ℕ) → Page f q → long_on f (kind_of leaves q) q ≡ 0
    unfolding long_on
    page-short q p =
        by_cond (λ x. x ≡ 0) (is_tree (kind_of leaves q)) (long_cells f q (f.count q)) 0
        (λ e. cells-short q (f.count q) (role B q p) (tree_of (kind_of leaves q) e) (omega arith)) (λ e. refl)

    pages-short : (n : ℕ) → n ≤ f.N → long_to f (kind_of leaves) n ≡ 0
    unfolding long_to
    pages-short zero l = refl
    pages-short (suc n) l = rw (pages-short n (omega arith), page-short (suc n) (omega arith, l))

    -- ---- 28: the records
    schema-reads : reads_of schema ≡ true
    schema-reads = five-reads schema 2 names-2

    read : AllRead rows → (q j : ℕ) → Role B q → TreePage d q → HasPayload f q → j < f.count q → (f.cell q j).reads ≡ true
    read all_read q j (schema-role o) t has l =
        let e : j ≡ 0 = omega (arith, ap f.count o, B.schema-page.count_is) in
        ap (λ y. (f.cell y j).reads) o ∙ ap (λ y. (f.cell 1 y).reads) e
        ∙ ap (λ (c : F.Cell). c.reads) (B.schema-page.cell_is 0 (omega arith)) ∙ schema-reads
    read all_read q j (inner-role i h o) t has l = absurd (no_payload B q (ap f.type o ∙ (inner-in B i h).type-is) has)
    read all_read q j (link-role x i a) t has l = absurd (link-tree B q x i a t)
    read all_read q j (leaf-role i h o) t has l =
        let w = leaf-in B i h in
        let c : j < length (get_or leaves i []) = omega (arith, ap f.count o, w.count_is) in
        let x = before leaves i + j in
        let k : x < length (flat leaves) = member_of leaves i j h c in
        let all : AllRead (flat leaves) = subst AllRead (sym B.rows_are) (firsts-read T rows all_read) in
        ap (λ y. (f.cell y j).reads) o ∙ ap (λ (c : F.Cell). c.reads) (w.cell_is j c)
        ∙ ap (λ (r : Row). reads_of r.payload) (sym (row_of B i j h c))
        ∙ each_at (λ (r : Row). reads_of r.payload ≡ true) (flat leaves) x no_row k all

    -- ---- 28, 29
    root-number : (q j : ℕ) → LeafCell f d 1 q j → RootNumber f (f.column4 q j)
    root-number q j h =
        let e = schema-cell B q j h in
        let c : f.column4 q j ≡ integer (pos 2) = ap (λ y. f.column4 y j) e.0 ∙ ap (f.column4 1) e.1 ∙ column-is B names-2 in
        rw c (inr ((two-later B names-2).0, (two-later B names-2).1))

    none_free : (p : ℕ) → on_freelist (kind_of leaves p) ≡ 0
    none_free p =
        ⊎_elim (λ e. rw e) (⊎_elim (λ e. rw e) (⊎_elim (λ e. rw e) (λ e. rw e))) (kinds leaves p)

    free-none : (m : ℕ) → free_pages d m ≡ 0
    unfolding free_pages
    free-none zero = refl
    free-none (suc m) = rw (none_free (suc m), free-none m)

    -- ---- the whole
    no-vacuum : f.vacuum ≡ 0
    no-vacuum = vacuum-field b ∙ B.header.no-maps

    pub dealing-good : Rises 0 rows → AllRead rows → Good f d
    unfolding Holder
    dealing-good rises all_read =
        record {
          kind_1 = kind-low leaves 1 (omega arith);
          namer_1 = namer-low leaves 1 (omega arith);
          step_1 = step-low 1 1 (omega arith);
          steps = steps;
          placed = λ p h. absurd (h.2 (no-fixed B p h.1));
          pointers = λ q s t k p h. let w = held B names-2 q s t k p h in (w.later, w.kind, w.namer);
          named = named B names-2;
          once = λ q q' s s' t h h'.
              let w = held B names-2 q s t h.1.0 h.0 h.1.1 in
              let w' = held B names-2 q' s' t h'.1.0 h'.0 h'.1.1 in
              (sym w.namer ∙ w'.namer, sym w.slot ∙ w'.slot);
          rule_22 = suit;
          rule_23_26 = λ q p t. whole q (role B q p) t;
          rule_24_depth = depth;
          rule_24_even = even;
          rule_25 = order rises;
          rule_27 = λ q j p t has l one. chained q j (role B q p) t has l one;
          rule_28 = root-number;
          rule_28_reads = λ q j p t has l. read all_read q j (role B q p) t has l;
          rule_29_room = λ q p k. absurd (no-trunk B q k);
          rule_29_total = free-none f.N ∙ sym (total-field b ∙ B.header.none_free);
          after = record {
            rule_31 = λ v p h. absurd (v no-vacuum);
            rule_32_root = λ v. absurd (v no-vacuum);
            rule_32_most = λ v r p k. absurd (v no-vacuum);
          };
        }

    -- ---- rows
    -- every page of the tree is in it
    tree-in : (fuel q : ℕ) → q ≤ fuel → 2 ≤ q → q < T → (level : ℕ) × InTree f d 2 (suc level) q
    tree-in zero q l h k = absurd (omega arith)
    tree-in (suc fuel) q l h k =
        ⊎_elim (λ (y : q < 3). (0, omega arith))
        (λ (y : 3 ≤ q).
        let i = parent_index leaves q in
        let a = tree-place leaves B.tree q y k in
        let later : Nameable f q = (h, omega (arith, N-links B), no-fixed B q (omega (arith, N-links B))) in
        let less = namer-less q later in
        let e = tree-namer leaves B.tree q i (child_index leaves q) a in
        let up = tree-in fuel (namer_of leaves q) (omega arith) (omega arith) (omega (arith, less)) in
        (suc up.0, (later, tree-kind leaves B.tree q i (child_index leaves q) a, up.1))) (lt-or-ge q 3)

    table-root : TableRoot b d 2
    table-root =
        record {
          page = (omega arith, (two-later B names-2).1);
          kind = kind-low leaves 2 (omega arith);
          table = ⊎_elim (λ e. (table-inner B 2 e).1) (λ e. (table-leaf B 2 e).1)
              (type-of 2 (role B 2 (omega arith, (two-later B names-2).1)) (inl (kind-low leaves 2 (omega arith))));
        }

    -- row x stands in its leaf, with its number and its payload
    module _ (x : ℕ) (l : x < length (flat leaves)) where
      abbrev r : Row
      r = get_or (flat leaves) x no_row

      found : LeafCell f d 2 (leaf_with leaves x) (cell_with leaves x)
          × ((f.cell (leaf_with leaves x) (cell_with leaves x)).row ≡ bias_of r.number)
          × (payload_of b (leaf_with leaves x) (cell_with leaves x) ≡ r.payload)
      found =
          let m = member-in leaves x l in
          let i = group_with leaves x in
          let j = x - before leaves i in
          let c : j < length (get_or leaves i []) = omega (arith, m.low, m.high) in
          let e : before leaves i + j ≡ x = omega (arith, m.low) in
          let w = leaf-in B i m.group in
          let q = 2 + length G + i in
          let same : get_or (get_or leaves i []) j no_row ≡ r = sym (row_of B i j m.group c) ∙ ap (λ y. get_or (flat leaves) y no_row) e in
          let below : q < T = omega (arith, m.group, T-is B) in
          let up = tree-in q q (omega arith) (omega arith) below in (
            ((suc up.0, up.1), (table-leaf B q w.type-is).0, omega (arith, w.count_is)),
            ap (λ (c : F.Cell). c.row) (w.cell_is j c) ∙ ap (λ (r : Row). bias_of r.number) same,
            w.payload-is j c ∙ ap (λ (r : Row). r.payload) same,
          )

    -- and there is no other leaf cell
    abbrev Row-at : (q j : ℕ) → Type 0
    Row-at q j =
        (x : ℕ) × (x < length (flat leaves)) × ((f.cell q j).row ≡ bias_of (get_or (flat leaves) x no_row).number)
        × (leaf_with leaves x ≡ q) × (cell_with leaves x ≡ j)

    only-rows : (q j : ℕ) → LeafCell f d 2 q j → Row-at q j
    only-rows q j h = go (role B q (omega (arith, w.0), omega (arith, w.1, N-links B)))
      where
        w : (2 ≤ q) × (q < T)
        w = in_tree h.0.0 q h.0.1

        go : Role B q → Row-at q j
        go (schema-role o) = absurd (omega (arith, w.0))
        go (inner-role i k o) = absurd (true≢false (sym h.1 ∙ (table-inner B q (ap f.type o ∙ (inner-in B i k).type-is)).0))
        go (link-role x k a) = absurd (omega (arith, w.1, link-above leaves B.tree q x k a))
        go (leaf-role i k o) =
            let v = leaf-in B i k in
            let c : j < length (get_or leaves i []) = omega (arith, h.2, ap f.count o, v.count_is) in
            let g : group_with leaves (before leaves i + j) ≡ i = group-with leaves i j k c in (
              before leaves i + j,
              member_of leaves i j k c,
              ap (λ y. (f.cell y j).row) o ∙ ap (λ (c : F.Cell). c.row) (v.cell_is j c)
                  ∙ ap (λ (r : Row). bias_of r.number) (sym (row_of B i j k c)),
              ap (λ y. 2 + length G + y) g ∙ sym o,
              omega (arith, ap (before leaves) g),
            )

-- ---- what is promised

-- a row keeps its number and payload
firsts-keep : (t : ℕ) (rows : List Row) (x : ℕ) → ((get_or (with_firsts t rows) x no_row).number ≡ (get_or rows x no_row).number)
    × ((get_or (with_firsts t rows) x no_row).payload ≡ (get_or rows x no_row).payload)
unfolding with_firsts
firsts-keep t [] x = (refl, refl)
firsts-keep t (r ∷ rs) zero = (refl, refl)
firsts-keep t (r ∷ rs) (suc x) = firsts-keep (t + links_of size r.payload) rs x

-- Rows that fit, whose numbers rise and whose payloads read as records, and a schema record whose column four is 2. b is their image, d its dealing.
module _ (schema : List ℕ) (rows : List Row) (fits : Fits schema rows) (rises : Rises 0 rows) (read_all : AllRead rows)
    (names-2 : column4_of schema ≡ integer (pos 2)) where
  abbrev image : List ℕ
  image = image_of schema rows

  abbrev dealing : Dealing
  dealing = dealing_of (leaves_of rows)

  abbrev pages : ℕ
  pages = 1 + length (later_pages rows)

  its : Built image schema rows (leaves_of rows) pages
  its = built schema rows fits

  -- The image is good, by that dealing ..
  pub fresh-good : GoodDealing image dealing
  fresh-good = record { passes = its.header.passes; good = dealing-good image schema rows (leaves_of rows) pages its names-2 rises read_all }

  -- .. page 2 is a table root ..
  pub fresh-root : TableRoot image dealing 2
  fresh-root = table-root image schema rows (leaves_of rows) pages its names-2

  count_is : length (flat (leaves_of rows)) ≡ length rows
  count_is = ap length its.rows_are ∙ firsts-length (behind_tree (leaves_of rows)) rows

  row_is : (x : ℕ) → ((get_or (flat (leaves_of rows)) x no_row).number ≡ (get_or rows x no_row).number)
      × ((get_or (flat (leaves_of rows)) x no_row).payload ≡ (get_or rows x no_row).payload)
  row_is x =
      let k = firsts-keep (behind_tree (leaves_of rows)) rows x in
      let e = its.rows_are in
      (ap (λ l. (get_or l x no_row).number) e ∙ k.0, ap (λ l. (get_or l x no_row).payload) e ∙ k.1)

  -- .. each row stands in a leaf cell of its tree, with its number and its payload ..
  pub fresh-row : (x : ℕ) → x < length rows
      → Carries image dealing 2 (get_or rows x no_row).number (leaf_with (leaves_of rows) x) (cell_with (leaves_of rows) x)
      × (payload_of image (leaf_with (leaves_of rows) x) (cell_with (leaves_of rows) x) ≡ (get_or rows x no_row).payload)
  fresh-row x l =
      let w = found image schema rows (leaves_of rows) pages its names-2 x (omega (arith, count_is)) in
      let k = row_is x in
      (record { leaf = w.0; number = w.1 ∙ ap bias_of k.0 }, w.2 ∙ k.1)

  -- .. and no leaf cell carries another number.
  pub fresh-only : (row : ℤ) (page cell : ℕ) → Carries image dealing 2 row page cell
      → (x : ℕ) × (x < length rows) × (bias_of (get_or rows x no_row).number ≡ bias_of row)
  fresh-only row page cell c =
      let w = only-rows image schema rows (leaves_of rows) pages its names-2 page cell c.leaf in
      (w.0, omega (arith, w.1, count_is), ap bias_of (sym (row_is w.0).0) ∙ sym w.2 ∙ c.number)

  -- .. it stands where the row's place in the order says ..
  pub fresh-place : (page cell : ℕ) → LeafCell (file_of image) dealing 2 page cell
      → (x : ℕ) × (x < length rows) × (leaf_with (leaves_of rows) x ≡ page) × (cell_with (leaves_of rows) x ≡ cell)
  fresh-place page cell c =
      let w = only-rows image schema rows (leaves_of rows) pages its names-2 page cell c in
      (w.0, omega (arith, w.1, count_is), w.3, w.4)

  -- .. and no number in it is spelled long
  pub fresh-short : long_in (file_of image) dealing ≡ 0
  fresh-short = pages-short image schema rows (leaves_of rows) pages its names-2 (file_of image).N (omega arith)

  -- its length
  pub fresh-length : length image ≡ pages * 1024
  fresh-length = its.whole

  -- page 1 has one cell: the schema record, with row number 1
  pub fresh-schema : ((file_of image).count 1 ≡ 1) × (((file_of image).cell 1 0).row ≡ bias_of (pos 1)) × (payload_of image 1 0 ≡ schema)
  fresh-schema =
      let page = its.schema-page in
      (page.count_is, ap (λ (c : Cell). c.row) (page.cell_is 0 (omega arith)), page.payload-is 0 (omega arith))
