-- Laws of the layout: chains, the shape of the tree, and that every page has its bytes.
--     chains-in           the chains, side by side from page t on, hold the rests of the rows
--     levels-same         the tree is the same whatever the first pages of the chains are
--     Levels, levels-are  each level's children are the pages of the next; the first level is one page, the root
-- Assumes nothing.
use Prim.Native.Nat.{ℕ, zero, suc, ◌+◌, ◌-◌, ◌*◌, ◌^◌, ◌<◌, ◌≤◌}
use mathlib.Core.Path.{◌≡◌, refl, sym, ap, ◌∙◌, subst}
use mathlib.Core.Bool.{Bool, true, false, cond}
use mathlib.Core.List.{List, [], ◌∷◌, map}
use native.Mathlib.Nat.{add-zero}
use native.Mathlib.Omega.{arith}
use lib.Dec.{leb, ltb, eqb}
use lib.IntN.{ℤ}
use lib.ListN.{length, get_or, drop, length-append, length-map}
use borrow.Author.Tests.{ltb-true, ltb-false}
use Rattle.number.proofs.Cases.{by_cond}
use Rattle.writing.specs.Cells.{be_bytes, local_of, link_bytes, leaf_cell}
use Rattle.writing.specs.Rows.{Row, Child, no_child, AllRows, rest_of, links_of, chain_of}
use Rattle.writing.specs.Groups.{flat, groups_of, row_weight, row_joins, child_weight, child_joins, group_leaves}
use Rattle.writing.specs.Groups.{group_children, Each}
use Rattle.writing.specs.Layout.{links_all, size, with_firsts, chains_of, last_number, last_child, leaf_children, inner_children}
use Rattle.writing.specs.Layout.{above_leaves, levels_of, tree_size, leaves_of}
use Rattle.writing.proofs.Standing.{be-length}
use Rattle.writing.proofs.CellsRead.{leaf-length, fields-length}
use Rattle.writing.proofs.ChainRead.{InImage}
use Rattle.writing.proofs.InFile.{ChainIn}
use Rattle.writing.proofs.GroupLaws.{groups-map}
use Rattle.writing.proofs.Fitting.{leaves-flat, KeysFit, children-fit, children-flat, groups-count, few-groups, one-group}
use Rattle.writing.proofs.ImageLaws.{in-append}

-- ---- chains

links-none : links_all [] ≡ 0
unfolding links_all
links-none = refl

pub links-more : (r : Row) (rs : List Row) → links_all (r ∷ rs) ≡ links_of size r.payload + links_all rs
unfolding links_all
links-more r rs = refl

chain_length : (u n t : ℕ) (rest : List ℕ) → length (chain_of u n t rest) ≡ n
unfolding chain_of
chain_length u zero t rest = refl
chain_length u (suc n) t rest = ap suc (chain_length u n (t + 1) (drop (u - 4) rest))

pub chains-length : (t : ℕ) (rows : List Row) → length (chains_of (with_firsts t rows)) ≡ links_all rows
unfolding chains_of with_firsts
chains-length t [] = sym links-none
chains-length t (r ∷ rs) =
    length-append (chain_of size (links_of size r.payload) t (rest_of size r.payload)) (chains_of (with_firsts (t + links_of size r.payload) rs))
    ∙ omega (
      arith,
      chain_length size (links_of size r.payload) t (rest_of size r.payload),
      chains-length (t + links_of size r.payload) rs,
      links-more r rs,
    )

pub firsts-length : (t : ℕ) (rows : List Row) → length (with_firsts t rows) ≡ length rows
unfolding with_firsts
firsts-length t [] = refl
firsts-length t (r ∷ rs) = ap suc (firsts-length (t + links_of size r.payload) rs)

pub chains-in : (b : List ℕ) (t : ℕ) (rows : List Row) → t + links_all rows < 2 ^ 32 → InImage b t (chains_of (with_firsts t rows))
    → Each (ChainIn b size) (with_firsts t rows)
unfolding chains_of with_firsts
chains-in b t [] l h = tt
chains-in b t (r ∷ rs) l h =
    let n = links_of size r.payload in
    let e = links-more r rs in
    let parts = in-append b t (chain_of size n t (rest_of size r.payload)) (chains_of (with_firsts (t + n) rs)) h in
    let k : t + length (chain_of size n t (rest_of size r.payload)) ≡ t + n = ap (λ x. t + x) (chain_length size n t (rest_of size r.payload)) in (
      record { pages = parts.0; small = omega arith },
      chains-in b (t + n) rs (omega arith) (subst (λ x. InImage b x (chains_of (with_firsts (t + n) rs))) k parts.1),
    )

-- rows that fit still do
pub firsts-fit : (t : ℕ) (rows : List Row) → t + links_all rows < 2 ^ 32 → AllRows rows → AllRows (with_firsts t rows)
unfolding with_firsts
firsts-fit t [] l a = tt
firsts-fit t (r ∷ rs) l a =
    let e = links-more r rs in
    (record { number = a.0.number; limit = a.0.limit; link = omega arith }, firsts-fit (t + links_of size r.payload) rs (omega arith) a.1)

-- ---- the tree does not look at the chains
abbrev erase : Row → Row
erase r = record { number = r.number; payload = r.payload; first = 0 }

erase-firsts : (t : ℕ) (rows : List Row) → map erase (with_firsts t rows) ≡ map erase rows
unfolding with_firsts
erase-firsts t [] = refl
erase-firsts t (r ∷ rs) = ap (λ l. erase r ∷ l) (erase-firsts (t + links_of size r.payload) rs)

link-same : (u : ℕ) (payload : List ℕ) (s t : ℕ) → length (link_bytes u payload s) ≡ length (link_bytes u payload t)
link-same u payload s t = by-test (eqb (local_of u payload) (length payload))
  where
    by-test : (b : Bool) → length (cond b [] (be_bytes 4 s)) ≡ length (cond b [] (be_bytes 4 t))
    by-test true = refl
    by-test false = be-length 4 s ∙ sym (be-length 4 t)

-- the length of a row's cell does not depend on the number of its first page
pub cell_same : (u : ℕ) (row : ℤ) (payload : List ℕ) (s t : ℕ) → 480 ≤ u → length (leaf_cell u row payload s) ≡ length (leaf_cell u row payload t)
cell_same u row payload s t h =
    omega (
      arith,
      leaf-length u row payload s h,
      leaf-length u row payload t h,
      fields-length u row payload s h,
      fields-length u row payload t h,
      link-same u payload s t,
    )

weight-erase : (r : Row) → row_weight size (erase r) ≡ row_weight size r
weight-erase r = ap (λ n. 2 + n) (cell_same size r.number r.payload 0 r.first (omega arith))

leaves-erase : (rows : List Row) → group_leaves size (map erase rows) ≡ map (map erase) (group_leaves size rows)
unfolding group_leaves
leaves-erase rows =
    groups-map (row_weight size) (row_joins size) (row_weight size) (row_joins size) erase weight-erase
    (λ used r. ap (λ n. leb (used + n) (size - 8)) (weight-erase r)) rows

last-erase : (g : List Row) → last_number (map erase g) ≡ last_number g
unfolding last_number
last-erase [] = refl
last-erase (r ∷ []) = refl
last-erase (r ∷ s ∷ g) = last-erase (s ∷ g)

children-erase : (t : ℕ) (gs : List (List Row)) → leaf_children t (map (map erase) gs) ≡ leaf_children t gs
unfolding leaf_children
children-erase t [] = refl
children-erase t (g ∷ gs) = rw (last-erase g, children-erase (t + 1) gs)

levels-erase : (gs : List (List Row)) → levels_of (map (map erase) gs) ≡ levels_of gs
unfolding levels_of
levels-erase gs =
    rw (length-map gs (map erase), children-erase 0 gs, children-erase 3 gs, children-erase (3 + length (above_leaves 0 gs)) gs)

-- grouped with any first pages, the leaves are as many, and the levels above them the same
module _ (t : ℕ) (rows : List Row) where
  grouped-alike : map (map erase) (group_leaves size (with_firsts t rows)) ≡ map (map erase) (group_leaves size rows)
  grouped-alike = sym (leaves-erase (with_firsts t rows)) ∙ ap (group_leaves size) (erase-firsts t rows) ∙ leaves-erase rows

  pub leaves-same : length (group_leaves size (with_firsts t rows)) ≡ length (group_leaves size rows)
  leaves-same =
      sym (length-map (group_leaves size (with_firsts t rows)) (map erase)) ∙ ap length grouped-alike ∙ length-map (group_leaves size rows) (map erase)

  pub levels-same : levels_of (group_leaves size (with_firsts t rows)) ≡ levels_of (group_leaves size rows)
  levels-same = sym (levels-erase (group_leaves size (with_firsts t rows))) ∙ ap levels_of grouped-alike ∙ levels-erase (group_leaves size rows)

-- so the chains begin just behind the tree
pub leaves-begin : (rows : List Row) → leaves_of rows ≡ group_leaves size (with_firsts (2 + tree_size (leaves_of rows)) rows)
unfolding leaves_of
leaves-begin rows =
    let t = 2 + tree_size (group_leaves size rows) in
    let e : tree_size (group_leaves size (with_firsts t rows)) ≡ tree_size (group_leaves size rows) =
    ap (λ ls. length (flat ls) + length (group_leaves size (with_firsts t rows))) (levels-same t rows)
    ∙ ap (λ n. length (flat (levels_of (group_leaves size rows))) + n) (leaves-same t rows) in
    ap (λ n. group_leaves size (with_firsts (2 + n) rows)) (sym e)

pub leaves-rows : (rows : List Row) → flat (leaves_of rows) ≡ with_firsts (2 + tree_size (leaves_of rows)) rows
leaves-rows rows =
    ap flat (leaves-begin rows) ∙ leaves-flat size (with_firsts (2 + tree_size (leaves_of rows)) rows)

-- ---- children by page

-- the pages of these children are t, t + 1 and so on
abbrev pub Numbered : (t : ℕ) → List Child → Type 0
Numbered t cs = (i : ℕ) → i < length cs → (get_or cs i no_child).page ≡ t + i

pub leaf-numbered : (t : ℕ) (gs : List (List Row)) → Numbered t (leaf_children t gs)
unfolding leaf_children
leaf-numbered t [] i l = absurd (omega arith)
leaf-numbered t (g ∷ gs) zero l = sym (add-zero t)
leaf-numbered t (g ∷ gs) (suc i) l = leaf-numbered (t + 1) gs i (omega arith) ∙ omega arith

pub inner-numbered : (t : ℕ) (gs : List (List Child)) → Numbered t (inner_children t gs)
unfolding inner_children
inner-numbered t [] i l = absurd (omega arith)
inner-numbered t (g ∷ gs) zero l = sym (add-zero t)
inner-numbered t (g ∷ gs) (suc i) l = inner-numbered (t + 1) gs i (omega arith) ∙ omega arith

pub leaf-children : (t : ℕ) (gs : List (List Row)) → length (leaf_children t gs) ≡ length gs
unfolding leaf_children
leaf-children t [] = refl
leaf-children t (g ∷ gs) = ap suc (leaf-children (t + 1) gs)

pub inner-children : (t : ℕ) (gs : List (List Child)) → length (inner_children t gs) ≡ length gs
unfolding inner_children
inner-children t [] = refl
inner-children t (g ∷ gs) = ap suc (inner-children (t + 1) gs)

-- their keys are the last numbers of the pages they name
pub leaf-key : (t : ℕ) (gs : List (List Row)) (i : ℕ) → i < length gs → (get_or (leaf_children t gs) i no_child).key ≡ last_number (get_or gs i [])
unfolding leaf_children
leaf-key t [] i l = absurd (omega arith)
leaf-key t (g ∷ gs) zero l = refl
leaf-key t (g ∷ gs) (suc i) l = leaf-key (t + 1) gs i (omega arith)

pub inner-key : (t : ℕ) (gs : List (List Child)) (i : ℕ) → i < length gs
    → (get_or (inner_children t gs) i no_child).key ≡ (last_child (get_or gs i [])).key
unfolding inner_children
inner-key t [] i l = absurd (omega arith)
inner-key t (g ∷ gs) zero l = refl
inner-key t (g ∷ gs) (suc i) l = inner-key (t + 1) gs i (omega arith)

-- groups do not look at page numbers
abbrev unnamed : Child → Child
unnamed c = record { page = 0; key = c.key }

children-unnamed : (s t : ℕ) (gs : List (List Row)) → map unnamed (leaf_children s gs) ≡ map unnamed (leaf_children t gs)
unfolding leaf_children
children-unnamed s t [] = refl
children-unnamed s t (g ∷ gs) = ap (λ l. record { page = 0; key = last_number g } ∷ l) (children-unnamed (s + 1) (t + 1) gs)

groups-unnamed : (u : ℕ) (cs : List Child)
    → groups_of child_weight (child_joins u) (map unnamed cs) ≡ map (map unnamed) (groups_of child_weight (child_joins u) cs)
groups-unnamed u cs = groups-map child_weight (child_joins u) child_weight (child_joins u) unnamed (λ c. refl) (λ used c. refl) cs

pub above_same : (s t : ℕ) (gs : List (List Row)) → length (above_leaves s gs) ≡ length (above_leaves t gs)
above_same s t gs = shape s ∙ ap (λ l. length (groups_of child_weight (child_joins size) l)) (children-unnamed s t gs) ∙ sym (shape t)
  where
    shape : (t : ℕ) → length (above_leaves t gs) ≡ length (groups_of child_weight (child_joins size) (map unnamed (leaf_children t gs)))
    shape t =
        groups-count size (leaf_children t gs) ∙ sym (ap length (groups-unnamed size (leaf_children t gs))
        ∙ length-map (groups_of child_weight (child_joins size) (leaf_children t gs)) (map unnamed))

-- ---- the levels

-- the next level, its pages standing from page t on, as children
abbrev pub next_children : (t : ℕ) → List (List (List Child)) → List (List Row) → List Child
next_children t [] leaves = leaf_children t leaves
next_children t (gs ∷ ls) leaves = inner_children t gs

abbrev pub next_size : List (List (List Child)) → List (List Row) → ℕ
next_size [] leaves = length leaves
next_size (gs ∷ ls) leaves = length gs

-- each level, from page t on: its children are the next level; each of its pages fits and has at least two children
abbrev pub Levels : (t : ℕ) → List (List (List Child)) → List (List Row) → Type 0
Levels t [] leaves = Unit {0}
Levels t (gs ∷ ls) leaves =
    (flat gs ≡ next_children (t + length gs) ls leaves) × (Each (λ g. KeysFit size g × (2 ≤ length g)) gs × Levels (t + length gs) ls leaves)

pub record TreeLevels (ls : List (List (List Child))) (leaves : List (List Row)) : Type 0 where
  -- the first level is one page, the root
  pub root : next_size ls leaves ≡ 1
  pub levels : Levels 2 ls leaves
  -- with the leaves three levels at most
  pub depth : length ls ≤ 2

pub next-numbered : (t : ℕ) (ls : List (List (List Child))) (leaves : List (List Row)) → Numbered t (next_children t ls leaves)
next-numbered t [] leaves = leaf-numbered t leaves
next-numbered t (gs ∷ ls) leaves = inner-numbered t gs

pub next-length : (t : ℕ) (ls : List (List (List Child))) (leaves : List (List Row)) → length (next_children t ls leaves) ≡ next_size ls leaves
next-length t [] leaves = leaf-children t leaves
next-length t (gs ∷ ls) leaves = inner-children t gs

some-groups : (gs : List (List Child)) → 0 < length (flat gs) → 0 < length gs
unfolding flat
some-groups [] h = absurd (omega arith)
some-groups (g ∷ gs) h = omega arith

module _ (leaves : List (List Row)) (few : length leaves ≤ 4095) (some : 1 ≤ length leaves) where
  abbrev k : ℕ
  k = length (above_leaves 0 leaves)

  one-level : length leaves < 2 → TreeLevels [] leaves
  one-level h = record { root = omega arith; levels = tt; depth = omega arith }

  module _ (h : 2 ≤ length leaves) where
    above-some : 1 ≤ k
    above-some = some-groups (above_leaves 0 leaves) (omega (arith, ap length (children-flat size (leaf_children 0 leaves)), leaf-children 0 leaves))

    above_good : (t : ℕ) → Each (λ g. KeysFit size g × (2 ≤ length g)) (above_leaves t leaves)
    above_good t = children-fit size (leaf_children t leaves) (omega arith) (omega (arith, leaf-children t leaves))

    two-levels : k < 2 → TreeLevels (above_leaves 3 leaves ∷ []) leaves
    two-levels l =
        let one : length (above_leaves 3 leaves) ≡ 1 = omega (arith, above_same 3 0 leaves, above-some) in
        let e : 3 ≡ 2 + length (above_leaves 3 leaves) = omega arith in
        record {
          root = one;
          levels = (children-flat size (leaf_children 3 leaves) ∙ ap (λ t. leaf_children t leaves) e, (above_good 3, tt));
          depth = omega arith;
        }

    module _ (l : 2 ≤ k) where
      abbrev gs : List (List Child)
      gs = above_leaves (3 + k) leaves

      abbrev top : List (List Child)
      top = group_children size (inner_children 3 gs)

      gs-count : length gs ≡ k
      gs-count = above_same (3 + k) 0 leaves

      few-above : 68 * k ≤ length leaves + 67
      few-above = omega (arith, few-groups (leaf_children 0 leaves) (omega (arith, leaf-children 0 leaves)), leaf-children 0 leaves)

      top_one : top ≡ inner_children 3 gs ∷ []
      top_one = one-group size (inner_children 3 gs) (omega arith) (omega (arith, inner-children 3 gs, gs-count, few-above))

      three-levels : TreeLevels (top ∷ gs ∷ []) leaves
      three-levels =
          let one : length top ≡ 1 = ap length top_one in
          let e : 3 ≡ 2 + length top = omega arith in
          let d : 3 + k ≡ 2 + length top + length gs = omega (arith, gs-count) in
          record {
            root = one;
            levels = (
              children-flat size (inner_children 3 gs) ∙ ap (λ t. inner_children t gs) e,
              (
                children-fit size (inner_children 3 gs) (omega arith) (omega (arith, inner-children 3 gs, gs-count)),
                (children-flat size (leaf_children (3 + k) leaves) ∙ ap (λ t. leaf_children t leaves) d, (above_good (3 + k), tt)),
              ),
            );
            depth = omega arith;
          }

  pub levels-are : TreeLevels (levels_of leaves) leaves
  unfolding levels_of
  levels-are =
      by_cond (λ ls. TreeLevels ls leaves) (ltb (length leaves) 2) _ _ (λ e. one-level (ltb-true (length leaves) 2 e))
      (λ e.
      let h : 2 ≤ length leaves = ltb-false (length leaves) 2 e in
      by_cond (λ ls. TreeLevels ls leaves) (ltb k 2) _ _ (λ d. two-levels h (ltb-true k 2 d)) (λ d. three-levels h (ltb-false k 2 d)))
