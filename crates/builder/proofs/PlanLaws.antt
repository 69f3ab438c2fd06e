-- What is counted is the layout's, and the bytes that are laid are the image.
--     table-match     the leaves
--     tree_is         the interior pages by levels
--     image-is        the whole
-- Assumes nothing.
use Prim.Native.Nat.{ℕ, zero, suc, ◌+◌, ◌*◌, ◌<◌, ◌≤◌}
use mathlib.Core.Path.{◌≡◌, refl, sym, ap, ◌∙◌, subst}
use mathlib.Core.Bool.{cond}
use mathlib.Core.List.{List, [], ◌∷◌, ◌++◌, map, append_assoc, append-nil}
use mathlib.Core.Logic.{⊎_elim}
use native.Mathlib.Omega.{arith}
use lib.IntN.{ℤ}
use lib.ListN.{length, length-append, length-map}
use borrow.Author.Tests.{lt-ltb, le-ltb}
use Rattle.number.proofs.Cases.{lt-or-ge}
use Rattle.paging.specs.Pages.{over}
use Rattle.writing.specs.Pages.{joined}
use Rattle.writing.specs.Rows.{Row, row_cells, leaf_page}
use Rattle.writing.specs.Groups.{flat, group_leaves, group_children, groups_of}
use Rattle.writing.specs.Layout.{size, with_firsts, chains_of, links_all, leaf_children, inner_children, above_leaves, levels_of, tree_size}
use Rattle.writing.specs.Layout.{leaves_of, child_page, first_page, tree_pages, later_pages, image_pages, image_of}
use Rattle.writing.specs.Given.{rows_from, rows_given, Held, LeafRoom}
use Rattle.writing.proofs.ImageLaws.{joined-append, joined-more}
use Rattle.writing.proofs.LeafLaws.{rows_none, rows-count}
use Rattle.writing.proofs.LayoutLaws.{leaf-children, inner-children, leaves-rows}
use Rattle.writing.proofs.Fitting.{few-groups, one-group}
use Rattle.writing.proofs.Built.{pages-count}
use Rattle.filling.specs.Fill.{counts, rows_grouped, keys_grouped, row_counts, key_counts, last_rows, last_keys}
use Rattle.filling.specs.Fill.{inners_from, leaves_from, chains_from}
use Rattle.filling.proofs.GroupNext.{behind_one}
use Rattle.filling.proofs.Sums.{rows-least}
use Rattle.filling.proofs.Loops.{counts-none, counts-more, counts-most, links-are}
use Rattle.filling.proofs.Match.{leaves-match, rest-is, firsts-given, chains-match, KidsAt, KidsIn, kids-index, counts_some, leaf_kids}
use Rattle.filling.proofs.Match.{rest-one, kids-match}
use Rattle.builder.specs.declared.Plan.{Plan}
use Rattle.builder.specs.Plan.{several, at_least1, Sound, Planned, tree_of, pages_of, table_bytes, laid_bytes, TableRoom}

map-append : {A B : Type 0} (f : A → B) (xs ys : List A) → map f (xs ++ ys) ≡ map f xs ++ map f ys
map-append f [] ys = refl
map-append f (x ∷ xs) ys = ap (λ l. f x ∷ l) (map-append f xs ys)

-- ---- the leaves
no_rows : (ns : List ℤ) (ls ps : List ℕ) (t : ℕ) → length ns ≡ 0 → group_leaves size (rows_from ns ls ps (length ns) 0 0 t) ≡ [] ∷ []
unfolding group_leaves groups_of
no_rows ns ls ps t e = ap (λ x. group_leaves size (rows_from ns ls ps x 0 0 t)) e ∙ ap (group_leaves size) (rows_none ns ls ps 0 0 t)

pub table-match : (ns : List ℤ) (ls ps : List ℕ) (t : ℕ) → 1 ≤ length ns → Held ls ps (length ns) 0 0
    → group_leaves size (rows_from ns ls ps (length ns) 0 0 t) ≡ leaves_from ns ls ps (row_counts ns ls) 0 0 t
table-match ns ls ps t h held =
    sym (rest-is (rows_from ns ls ps (length ns) 0 0 t) (omega (arith, rows-count ns ls ps (length ns) 0 0 t)))
    ∙ leaves-match ns ls ps (length ns) (length ns) 0 0 t (omega arith) held

leaves-length : (ns : List ℤ) (ls ps : List ℕ) (cs : List ℕ) (i off t : ℕ) → length (leaves_from ns ls ps cs i off t) ≡ length cs
unfolding leaves_from
leaves-length ns ls ps [] i off t = refl
leaves-length ns ls ps (c ∷ cs) i off t = ap suc (leaves-length ns ls ps cs (i + c) _ _)

inners-length : (keys cs : List ℕ) (i t : ℕ) → length (inners_from keys cs i t) ≡ length cs
unfolding inners_from
inners-length keys [] i t = refl
inners-length keys (c ∷ cs) i t = ap suc (inners-length keys cs (i + c) (t + c))

no-inners : (keys : List ℕ) (k i t : ℕ) → k ≡ 0 → inners_from keys (key_counts keys k) i t ≡ []
unfolding inners_from
no-inners keys k i t e = ap (λ x. inners_from keys x i t) (counts-none (keys_grouped keys) k k 0 e)

no-counts : (keys : List ℕ) (k : ℕ) → k ≡ 0 → length (key_counts keys k) ≡ 0
no-counts keys k e = ap length (counts-none (keys_grouped keys) k k 0 e)

pub least-few : (n : ℕ) → n < 2 → several n ≡ 0
least-few n h = ap (λ b. cond b 0 n) (lt-ltb n 2 h)

pub least-many : (n : ℕ) → 2 ≤ n → several n ≡ n
least-many n h = ap (λ b. cond b 0 n) (le-ltb n 2 h)

pub one-many : (n : ℕ) → 1 ≤ n → at_least1 n ≡ n
one-many n h = ap (λ b. cond b 1 n) (le-ltb n 1 h)

pub one_none : (n : ℕ) → n ≡ 0 → at_least1 n ≡ 1
one_none n h = ap (λ b. cond b 1 n) (lt-ltb n 1 (omega arith))

some-counts : (takes : ℕ → ℕ → ℕ) (n : ℕ) → 1 ≤ n → 1 ≤ length (counts takes n n 0)
some-counts takes zero h = absurd (omega arith)
some-counts takes (suc n) h = omega (arith, ap length (counts-more takes n (suc n) 0 h))

pub several-most : (n : ℕ) → several n ≤ n
several-most n = ⊎_elim (λ (z : n < 2). omega (arith, least-few n z)) (λ (z : 2 ≤ n). omega (arith, least-many n z)) (lt-or-ge n 2)

pub least-most : (n : ℕ) → at_least1 n ≤ n + 1
least-most n = ⊎_elim (λ (z : n < 1). omega (arith, one_none n (omega arith))) (λ (z : 1 ≤ n). omega (arith, one-many n z)) (lt-or-ge n 1)

one-least : (n : ℕ) → 1 ≤ at_least1 n
one-least n = ⊎_elim (λ (z : n < 1). omega (arith, one_none n (omega arith))) (λ (z : 1 ≤ n). omega (arith, one-many n z)) (lt-or-ge n 1)

one-page : (q : List ℕ) → joined (q ∷ []) ≡ q
unfolding joined
one-page q = append-nil q

-- as many leaves as groups of rows; one where there are none
pub leaf-count : (ns : List ℤ) (ls ps : List ℕ) (t : ℕ) → Held ls ps (length ns) 0 0
    → length (group_leaves size (rows_from ns ls ps (length ns) 0 0 t)) ≡ at_least1 (length (row_counts ns ls))
leaf-count ns ls ps t held =
    ⊎_elim
    (λ (z : length ns < 1).
    let e : length ns ≡ 0 = omega arith in
    ap length (no_rows ns ls ps t e)
    ∙ sym (one_none (length (row_counts ns ls)) (ap length (counts-none (rows_grouped ns ls) (length ns) (length ns) 0 e))))
    (λ (z : 1 ≤ length ns).
    let m = ap length (table-match ns ls ps t z held) ∙ leaves-length ns ls ps (row_counts ns ls) 0 0 t in
    m ∙ sym (one-many (length (row_counts ns ls)) (some-counts (rows_grouped ns ls) (length ns) z)))
    (lt-or-ge (length ns) 1)

pub row-counts-most : (ns : List ℤ) (ls : List ℕ) → length (row_counts ns ls) ≤ length ns
row-counts-most ns ls = counts-most (rows_grouped ns ls) (λ left i h. rows-least ns ls left i h) (length ns) (length ns) 0

-- ---- the interior pages
levels-one : (gs : List (List Row)) → length gs < 2 → levels_of gs ≡ []
unfolding levels_of
levels-one gs h = rw (lt-ltb (length gs) 2 h)

levels-two : (gs : List (List Row)) → 2 ≤ length gs → length (above_leaves 0 gs) < 2 → levels_of gs ≡ above_leaves 3 gs ∷ []
unfolding levels_of
levels-two gs h l = rw (le-ltb (length gs) 2 h, lt-ltb (length (above_leaves 0 gs)) 2 l)

levels-three : (gs : List (List Row)) → 2 ≤ length gs → 2 ≤ length (above_leaves 0 gs)
    → levels_of gs ≡ group_children size (inner_children 3 (above_leaves (3 + length (above_leaves 0 gs)) gs))
    ∷ above_leaves (3 + length (above_leaves 0 gs)) gs ∷ []
unfolding levels_of
levels-three gs h l = rw (le-ltb (length gs) 2 h, le-ltb (length (above_leaves 0 gs)) 2 l)

module _ (ns : List ℤ) (ls ps keys tops : List ℕ) (p : Plan) (t : ℕ) (sound : Sound ns ls) (held : Held ls ps (length ns) 0 0)
    (plan : Planned ns ls keys tops p) where
  abbrev leaves : List (List Row)
  leaves = group_leaves size (rows_from ns ls ps (length ns) 0 0 t)

  abbrev L : ℕ
  L = length (row_counts ns ls)

  L-most : L ≤ length ns
  L-most = row-counts-most ns ls

  pub record TreeIs : Type 0 where
    pub pages : map child_page (flat (levels_of leaves)) ≡ inners_from tops (key_counts tops p.high) 0 3
        ++ inners_from keys (key_counts keys p.low) 0 (2 + p.roots + p.inners)
    pub count : length (flat (levels_of leaves)) ≡ p.roots + p.inners
    pub roots : p.roots ≡ length (key_counts tops p.high)

  -- one leaf is the root
  one-leaf : L < 2 → TreeIs
  unfolding flat
  one-leaf h =
      let le : length leaves ≡ at_least1 L = leaf-count ns ls ps t held in
      let few : length leaves < 2 =
      ⊎_elim (λ (z : L < 1). omega (arith, one_none L (omega arith))) (λ (z : 1 ≤ L). omega (arith, one-many L z)) (lt-or-ge L 1) in
      let lv : levels_of leaves ≡ [] = levels-one leaves few in
      let low : p.low ≡ 0 = plan.low ∙ least-few L h in
      let inn : p.inners ≡ 0 = plan.inners ∙ no-counts keys p.low low in
      let high : p.high ≡ 0 = plan.high ∙ least-few p.inners (omega arith) in
      let rts : p.roots ≡ 0 = plan.roots ∙ ap (λ b. cond b 0 1) (lt-ltb p.inners 2 (omega arith)) in
      record {
        pages = ap (λ x. map child_page (flat x)) lv
            ∙ sym (ap (λ x. x ++ inners_from keys (key_counts keys p.low) 0 (2 + p.roots + p.inners)) (no-inners tops p.high 0 3 high)
            ∙ no-inners keys p.low 0 (2 + p.roots + p.inners) low);
        count = ap (λ x. length (flat x)) lv ∙ omega arith;
        roots = rts ∙ sym (no-counts tops p.high high);
      }

  module _ (many : 2 ≤ L) where
    rows-some : 1 ≤ length ns
    rows-some = omega (arith, L-most)

    leaves-are : length leaves ≡ L
    leaves-are = leaf-count ns ls ps t held ∙ one-many L (omega arith)

    low-is : p.low ≡ L
    low-is = plan.low ∙ least-many L many

    children-are : (s : ℕ) → length (leaf_children s leaves) ≡ L
    children-are s = leaf-children s leaves ∙ leaves-are

    kids : (s : ℕ) → KidsAt keys 0 s (leaf_children s leaves)
    kids s =
        let m = table-match ns ls ps t rows-some held in
        let k = leaf_kids ns ls ps (row_counts ns ls) 0 0 t s
        (counts_some (rows_grouped ns ls) (λ left i h. rows-least ns ls left i h) (length ns) (length ns) 0) in
        subst (λ x. KidsAt keys 0 s (leaf_children s x)) (sym m)
        (subst (λ x. KidsAt x 0 s (leaf_children s (leaves_from ns ls ps (row_counts ns ls) 0 0 t))) (sym plan.keys_are)
        (kids-index [] (last_rows ns (row_counts ns ls)) plan.more_keys s _ k))

    above : (s s' : ℕ) → (map child_page (above_leaves s leaves) ≡ inners_from keys (key_counts keys p.low) 0 s)
        × KidsIn (last_keys keys (key_counts keys p.low)) s' (inner_children s' (above_leaves s leaves))
    above s s' =
        let cl : length (leaf_children s leaves) ≡ p.low = children-are s ∙ sym low-is in
        let one : behind_one (leaf_children s leaves) ≡ above_leaves s leaves = rest-one (leaf_children s leaves) (omega (arith, children-are s)) in
        let w = kids-match keys p.low 0 s s' (leaf_children s leaves) (omega arith) (kids s) in (
          ap (map child_page) (sym one) ∙ w.0 ∙ ap (λ x. inners_from keys (counts (keys_grouped keys) p.low x 0) 0 s) cl,
          subst (λ x. KidsIn (last_keys keys (counts (keys_grouped keys) p.low x 0)) s' (inner_children s' (above_leaves s leaves))) cl
              (subst (λ x. KidsIn (last_keys keys (counts (keys_grouped keys) p.low (length (leaf_children s leaves)) 0)) s'
              (inner_children s' x)) one w.1),
        )

    above-count : (s : ℕ) → length (above_leaves s leaves) ≡ p.inners
    above-count s =
        sym (length-map (above_leaves s leaves) child_page) ∙ ap length (above s 0).0 ∙ inners-length keys (key_counts keys p.low) 0 s
        ∙ sym plan.inners

    inners-few : (1 ≤ p.inners) × (15 * p.inners ≤ 1027)
    inners-few =
        let f = few-groups (leaf_children 0 leaves) (omega (arith, children-are 0)) in
        let c = above-count 0 in (
          omega (arith, plan.inners, some-counts (keys_grouped keys) p.low (omega (arith, low-is))),
          omega (arith, children-are 0, L-most, sound.few),
        )

    several-leaves : 2 ≤ length leaves
    several-leaves = omega (arith, leaves-are)

    -- one interior page is the root
    one-inner : p.inners < 2 → TreeIs
    unfolding flat
    one-inner h =
        let lv : levels_of leaves ≡ above_leaves 3 leaves ∷ [] = levels-two leaves several-leaves (omega (arith, above-count 0)) in
        let high : p.high ≡ 0 = plan.high ∙ least-few p.inners h in
        let rts : p.roots ≡ 0 = plan.roots ∙ ap (λ b. cond b 0 1) (lt-ltb p.inners 2 h) in
        let s : 3 ≡ 2 + p.roots + p.inners = omega (arith, inners-few.0) in
        let fl : flat (levels_of leaves) ≡ above_leaves 3 leaves = ap flat lv ∙ append-nil (above_leaves 3 leaves) in
        record {
          pages = ap (map child_page) fl ∙ (above 3 0).0 ∙ ap (inners_from keys (key_counts keys p.low) 0) s
              ∙ sym (ap (λ x. x ++ inners_from keys (key_counts keys p.low) 0 (2 + p.roots + p.inners)) (no-inners tops p.high 0 3 high));
          count = ap length fl ∙ above-count 3 ∙ omega arith;
          roots = rts ∙ sym (no-counts tops p.high high);
        }

    -- a root stands above several
    two-levels : 2 ≤ p.inners → TreeIs
    unfolding flat
    two-levels h =
        let s = 3 + length (above_leaves 0 leaves) in
        let A = above_leaves s leaves in
        let I = inner_children 3 A in
        let lv : levels_of leaves ≡ group_children size I ∷ A ∷ [] = levels-three leaves several-leaves (omega (arith, above-count 0)) in
        let il : length I ≡ p.inners = inner-children 3 A ∙ above-count s in
        let high : p.high ≡ p.inners = plan.high ∙ least-many p.inners h in
        let rts : p.roots ≡ 1 = plan.roots ∙ ap (λ b. cond b 0 1) (le-ltb p.inners 2 h) in
        let se : s ≡ 2 + p.roots + p.inners = omega (arith, above-count 0) in
        let one : group_children size I ≡ I ∷ [] = one-group size I (omega arith) (omega (arith, inners-few.1)) in
        let k : KidsAt tops 0 3 I = subst (λ x. KidsAt x 0 3 I) (sym plan.tops_are)
        (kids-index [] (last_keys keys (key_counts keys p.low)) plan.more_tops 3 I (above s 3).1) in
        let w = kids-match tops p.high 0 3 0 I (omega arith) k in
        let ih : length I ≡ p.high = il ∙ sym high in
        let root : map child_page (group_children size I) ≡ inners_from tops (key_counts tops p.high) 0 3 =
        ap (map child_page) (sym (rest-one I (omega arith))) ∙ w.0 ∙ ap (λ x. inners_from tops (counts (keys_grouped tops) p.high x 0) 0 3) ih in
        let fl : flat (levels_of leaves) ≡ group_children size I ++ A = ap flat lv ∙ ap (λ x. group_children size I ++ x) (append-nil A) in
        record {
          pages = ap (map child_page) fl ∙ map-append child_page (group_children size I) A ∙ ap (λ x. x ++ map child_page A) root
              ∙ ap (λ x. inners_from tops (key_counts tops p.high) 0 3 ++ x) ((above s 0).0 ∙ ap (inners_from keys (key_counts keys p.low) 0) se);
          count = ap length fl ∙ length-append (group_children size I) A ∙ omega (arith, ap length one, above-count s);
          roots = rts ∙ sym (ap length one) ∙ sym (length-map (group_children size I) child_page) ∙ ap length root
              ∙ inners-length tops (key_counts tops p.high) 0 3;
        }

  pub tree_is : TreeIs
  tree_is =
      ⊎_elim (λ (h : L < 2). one-leaf h)
      (λ (h : 2 ≤ L). ⊎_elim (λ (z : p.inners < 2). one-inner h z) (λ (z : 2 ≤ p.inners). two-levels h z) (lt-or-ge p.inners 2)) (lt-or-ge L 2)

  pub tree-size : tree_size leaves ≡ tree_of p
  tree-size = omega (arith, tree_is.count, leaf-count ns ls ps t held, plan.leaves)

-- ---- the whole
module _ (schema : List ℕ) (ns : List ℤ) (ls ps keys tops : List ℕ) (p : Plan) (sound : Sound ns ls) (held : Held ls ps (length ns) 0 0)
    (plan : Planned ns ls keys tops p) where
  abbrev rows : List Row
  rows = rows_given ns ls ps

  abbrev T : ℕ
  T = 2 + tree_of p

  given-size : tree_size (group_leaves size rows) ≡ tree_of p
  given-size = tree-size ns ls ps keys tops p 0 sound held plan

  -- the leaves, with the numbers of their chains
  leaves-given : leaves_of rows ≡ group_leaves size (rows_from ns ls ps (length ns) 0 0 T)
  unfolding leaves_of
  leaves-given = ap (λ x. group_leaves size (with_firsts (2 + x) rows)) given-size ∙ ap (group_leaves size) (firsts-given ns ls ps (length ns) 0 0 0 T)

  pub links-given : links_all rows ≡ p.links
  links-given = links-are ns ls ps (length ns) 0 0 0 held ∙ sym plan.links

  pub pages-given : 1 + tree_size (group_leaves size rows) + links_all rows ≡ pages_of p
  pages-given = omega (arith, given-size, links-given)

  later-given : 1 + length (later_pages rows) ≡ pages_of p
  later-given = omega (arith, pages-count rows, given-size, links-given)

  chains-given : chains_of (flat (leaves_of rows)) ≡ chains_from ls ps (length ls) 0 0 T
  chains-given =
      let same : tree_size (leaves_of rows) ≡ tree_of p = ap tree_size leaves-given ∙ tree-size ns ls ps keys tops p T sound held plan in
      ap chains_of (leaves-rows rows ∙ ap (λ x. with_firsts (2 + x) rows) same ∙ firsts-given ns ls ps (length ns) 0 0 0 T)
      ∙ chains-match ns ls ps (length ns) 0 0 T held ∙ ap (λ x. chains_from ls ps x 0 0 T) (sym sound.same)

  pub image-is : laid_bytes schema ns ls ps keys tops p ≡ image_of schema rows
  unfolding image_of image_pages later_pages
  image-is =
      let A = inners_from tops (key_counts tops p.high) 0 3 in
      let B = inners_from keys (key_counts keys p.low) 0 (2 + p.roots + p.inners) in
      let G = group_leaves size (rows_from ns ls ps (length ns) 0 0 T) in
      let M = map (leaf_page size []) G in
      let D = chains_from ls ps (length ls) 0 0 T in
      let tree = tree_is ns ls ps keys tops p T sound held plan in
      let tp : tree_pages (leaves_of rows) ≡ (A ++ B) ++ M = ap tree_pages leaves-given ∙ ap (λ x. x ++ M) tree.pages in
      let later : later_pages rows ≡ ((A ++ B) ++ M) ++ D =
      ap (λ x. x ++ chains_of (flat (leaves_of rows))) tp ∙ ap (λ x. ((A ++ B) ++ M) ++ x) chains-given in
      let bytes : joined (later_pages rows) ≡ joined A ++ (joined B ++ (joined M ++ joined D)) =
      ap joined later ∙ joined-append ((A ++ B) ++ M) D
      ∙ ap (λ x. x ++ joined D) (joined-append (A ++ B) M ∙ ap (λ x. x ++ joined M) (joined-append A B))
      ∙ append_assoc (joined A ++ joined B) (joined M) (joined D) ∙ append_assoc (joined A) (joined B) (joined M ++ joined D) in
      sym (joined-more (first_page (1 + length (later_pages rows)) schema) (later_pages rows)
      ∙ ap (λ x. first_page x schema ++ joined (later_pages rows)) later-given ∙ ap (λ x. first_page (pages_of p) schema ++ x) bytes)

-- ---- an empty table, and one with rows
pub table_none : (ns : List ℤ) (ls ps : List ℕ) (room at t : ℕ) → length ns ≡ 0 → TableRoom ns ls ps room at t
    → LeafRoom ns ls ps room at 1024 0 0 0 t
unfolding joined links_all
table_none ns ls ps room at t e h =
    let r = rows_none ns ls ps 0 0 t in
    record {
      whole = omega (arith, h.whole, one-least (length (row_counts ns ls)));
      numbers = omega arith;
      lengths = omega arith;
      held = tt;
      low = omega arith;
      high = omega (arith, ap (λ x. length (joined (row_cells 1024 x))) r);
      links = omega (arith, ap links_all r, h.pages);
    }

pub table_empty : (ns : List ℤ) (ls ps o o' : List ℕ) (at t : ℕ) → length ns ≡ 0
    → o' ≡ over o at (leaf_page 1024 [] (rows_from ns ls ps 0 0 0 t)) → o' ≡ over o at (table_bytes ns ls ps t)
table_empty ns ls ps o o' at t z e =
    let q = leaf_page 1024 [] [] in
    let b : table_bytes ns ls ps t ≡ q = ap (λ x. joined (map (leaf_page 1024 []) x)) (no_rows ns ls ps t z) ∙ one-page q in
    e ∙ ap (λ x. over o at (leaf_page 1024 [] x)) (rows_none ns ls ps 0 0 t) ∙ ap (over o at) (sym b)

pub table-some : (ns : List ℤ) (ls ps o o' : List ℕ) (at t : ℕ) → (length ns ≡ 0 → ⊥) → Held ls ps (length ns) 0 0
    → o' ≡ over o at (joined (map (leaf_page 1024 []) (leaves_from ns ls ps (row_counts ns ls) 0 0 t))) → o' ≡ over o at (table_bytes ns ls ps t)
table-some ns ls ps o o' at t z held e =
    let h : 1 ≤ length ns = ⊎_elim (λ (k : length ns < 1). absurd (z (omega arith))) (λ (k : 1 ≤ length ns). k) (lt-or-ge (length ns) 1) in
    e ∙ ap (λ x. over o at (joined (map (leaf_page 1024 []) x))) (sym (table-match ns ls ps t h held))
