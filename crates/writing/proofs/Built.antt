-- The image that is written, page by page, without its bytes: what a proof that a dealing of it is good cites.
--     Fits, Built, built     of rows and a schema that fit: header, page 1, the tree's levels, each interior page, each leaf, each chain
-- Assumes nothing.
use Prim.Native.Nat.{ℕ, zero, suc, ◌+◌, ◌-◌, ◌*◌, ◌^◌, ◌<◌, ◌≤◌}
use mathlib.Core.Path.{◌≡◌, refl, sym, ap, ◌∙◌, subst}
use mathlib.Core.List.{List, [], ◌∷◌, ◌++◌, map, append_assoc}
use native.Mathlib.Omega.{arith}
use lib.Dec.{eqb}
use lib.IntN.{pos}
use lib.Seq.{drop-append_seam}
use borrow.Author.Tests.{eq-eqb, ne_eqb}
use lib.ListN.{length, get_or, take, drop, length-append, length-map, length-take}
use mir.Syntax.{w64}
use mir.Val.{SFits}
use Rattle.number.specs.Varint.{varint_size}
use Rattle.number.proofs.Cases.{cond_yes, cond_no}
use Rattle.number.proofs.SignedLaws.{signed-fits}
use Rattle.number.proofs.SpellingLaws.{size-done}
use Rattle.number.proofs.VarintReading.{fits-size}
use Rattle.cell.specs.Split.{table_interior, table_leaf, chain_length}
use Rattle.cell.proofs.SplitLaws.{local-all, chain-none}
use Rattle.image.specs.Pages.{head_of}
use Rattle.writing.specs.Cells.{be_bytes, local_of, link_bytes, RowFits, ChildFits}
use Rattle.writing.specs.Pages.{joined, room_for, tree_page}
use Rattle.writing.specs.Rows.{Row, Child, row_cells, key_cells, leaf_page, AllRows, AllChildren, rest_of}
use Rattle.writing.specs.Rows.{links_of, chain_of}
use Rattle.writing.specs.Groups.{flat, weight, row_weight, row_joins, groups_of, group_leaves, front, Each}
use Rattle.writing.specs.Layout.{links_all, size, with_firsts, chains_of, last_number, last_child, leaf_children, inner_children, levels_of}
use Rattle.writing.specs.Layout.{tree_size, leaves_of, child_page, file_header, schema_row, first_page, tree_pages, later_pages, image_pages}
use Rattle.writing.specs.Layout.{image_of}
use Rattle.writing.proofs.CellsRead.{leaf-length, fields-length}
use Rattle.writing.proofs.PagesSound.{page-length}
use Rattle.writing.proofs.RowsLaid.{get_d-mapped}
use Rattle.writing.proofs.ChainRead.{InImage, overflow-length}
use Rattle.writing.proofs.InFile.{ChainIn, LeafIn, leaf-in, InnerIn, inner-in}
use Rattle.writing.proofs.Members.{each_at, each_append, each-by, flat-more}
use Rattle.writing.proofs.GroupLaws.{groups-some, Packed}
use Rattle.writing.proofs.Fitting.{leaves-fit, leaves-packed, KeysFit, rows-room}
use Rattle.writing.proofs.ImageLaws.{in-append, in-at, joined-more, joined_in, joined-size, header-size, FreshHeader, header-passes}
use Rattle.writing.proofs.LayoutLaws.{chains-length, chains-in, firsts-fit, leaves-rows, leaves-same}
use Rattle.writing.proofs.LayoutLaws.{levels-same, next_children, Levels, TreeLevels, levels-are}

-- ---- every member
each_map : {A B : Type 0} (P : B → Type 0) (f : A → B) (l : List A) → Each (λ x. P (f x)) l → Each P (map f l)
each_map P f [] a = tt
each_map P f (x ∷ l) a = (a.0, each_map P f l a.1)

pub each-flat : {A : Type 0} (P : A → Type 0) (gs : List (List A)) → Each (Each P) gs → Each P (flat gs)
unfolding flat
each-flat P [] a = tt
each-flat P (g ∷ gs) a = each_append P g (flat gs) a.0 (each-flat P gs a.1)

each_left : {A : Type 0} (P : A → Type 0) (l m : List A) → Each P (l ++ m) → Each P l × Each P m
each_left P [] m a = (tt, a)
each_left P (x ∷ l) m a = let r = each_left P l m a.1 in ((a.0, r.0), r.1)

each-groups : {A : Type 0} (P : A → Type 0) (gs : List (List A)) → Each P (flat gs) → Each (Each P) gs
unfolding flat
each-groups P [] a = tt
each-groups P (g ∷ gs) a = let r = each_left P g (flat gs) a in (r.0, each-groups P gs r.1)

-- ---- bytes of pages
abbrev Sized : List ℕ → Type 0
Sized p = length p ≡ 1024

abbrev Inner : List Child → Type 0
Inner g = KeysFit size g × (2 ≤ length g)

pub levels-inner : (t : ℕ) (ls : List (List (List Child))) (leaves : List (List Row)) → Levels t ls leaves → Each (Each Inner) ls
levels-inner t [] leaves h = tt
levels-inner t (gs ∷ ls) leaves h = (h.1.0, levels-inner (t + length gs) ls leaves h.1.1)

inner-sized : (gs : List (List Child)) → Each Inner gs → Each Sized (map child_page gs)
inner-sized gs a =
    each_map Sized child_page gs (each-by Inner (λ g. Sized (child_page g)) gs
    (λ g k. page-length size [] table_interior (last_child g).page (key_cells (front g)) k.0) a)

leaves-sized : (gs : List (List Row)) → Each (λ g. room_for 0 table_leaf (row_cells size g) ≤ size) gs → Each Sized (map (leaf_page size []) gs)
leaves-sized gs a =
    each_map Sized (leaf_page size []) gs
    (each-by (λ g. room_for 0 table_leaf (row_cells size g) ≤ size) (λ g. Sized (leaf_page size [] g)) gs
    (λ g k. page-length size [] table_leaf 0 (row_cells size g) k) a)

chain-sized : (n t : ℕ) (rest : List ℕ) → Each Sized (chain_of size n t rest)
unfolding chain_of
chain-sized zero t rest = tt
chain-sized (suc n) t rest =
    (overflow-length size _ (take (size - 4) rest) (omega (arith, length-take (size - 4) rest)), chain-sized n (t + 1) (drop (size - 4) rest))

chains-sized : (rows : List Row) → Each Sized (chains_of rows)
unfolding chains_of
chains-sized [] = tt
chains-sized (r ∷ rs) =
    each_append Sized (chain_of size (links_of size r.payload) r.first (rest_of size r.payload)) (chains_of rs)
    (chain-sized (links_of size r.payload) r.first (rest_of size r.payload)) (chains-sized rs)

-- ---- numbers fit
zero-fits : SFits w64 (pos 0)
zero-fits = signed-fits (2 ^ 63) 0 (omega arith) (omega arith)

last_fits : (g : List Row) → AllRows g → SFits w64 (last_number g)
unfolding last_number
last_fits [] a = zero-fits
last_fits (r ∷ []) a = a.0.number
last_fits (r ∷ s ∷ g) a = last_fits (s ∷ g) a.1

rows_left : (l m : List Row) → AllRows (l ++ m) → AllRows l
rows_left [] m a = tt
rows_left (r ∷ l) m a = (a.0, rows_left l m a.1)

rows_right : (l m : List Row) → AllRows (l ++ m) → AllRows m
rows_right [] m a = a
rows_right (r ∷ l) m a = rows_right l m a.1

pub rows-each : (gs : List (List Row)) → AllRows (flat gs) → Each AllRows gs
unfolding flat
rows-each [] a = tt
rows-each (g ∷ gs) a = (rows_left g (flat gs) a, rows-each gs (rows_right g (flat gs) a))

children-left : (l m : List Child) → AllChildren (l ++ m) → AllChildren l
children-left [] m a = tt
children-left (c ∷ l) m a = (a.0, children-left l m a.1)

children-right : (l m : List Child) → AllChildren (l ++ m) → AllChildren m
children-right [] m a = a
children-right (c ∷ l) m a = children-right l m a.1

children-each : (gs : List (List Child)) → AllChildren (flat gs) → Each AllChildren gs
unfolding flat
children-each [] a = tt
children-each (g ∷ gs) a = (children-left g (flat gs) a, children-each gs (children-right g (flat gs) a))

leaf-children-fit : (t : ℕ) (gs : List (List Row)) → t + length gs < 2 ^ 32 → Each AllRows gs → AllChildren (leaf_children t gs)
unfolding leaf_children
leaf-children-fit t [] h a = tt
leaf-children-fit t (g ∷ gs) h a =
    (record { number = last_fits g a.0; page = omega arith }, leaf-children-fit (t + 1) gs (omega arith) a.1)

last-child-fits : (g : List Child) → AllChildren g → ChildFits (last_child g).page (last_child g).key
unfolding last_child
last-child-fits [] a = record { number = zero-fits; page = omega arith }
last-child-fits (c ∷ []) a = a.0
last-child-fits (c ∷ d ∷ g) a = last-child-fits (d ∷ g) a.1

front_fits : (g : List Child) → AllChildren g → AllChildren (front g)
unfolding front
front_fits [] a = tt
front_fits (c ∷ []) a = tt
front_fits (c ∷ d ∷ g) a = (a.0, front_fits (d ∷ g) a.1)

inner-children-fit : (t : ℕ) (gs : List (List Child)) → t + length gs < 2 ^ 32 → Each AllChildren gs → AllChildren (inner_children t gs)
unfolding inner_children
inner-children-fit t [] h a = tt
inner-children-fit t (g ∷ gs) h a =
    (record { number = (last-child-fits g a.0).number; page = omega arith }, inner-children-fit (t + 1) gs (omega arith) a.1)

-- all children of all levels fit
levels-fit : (t : ℕ) (ls : List (List (List Child))) (leaves : List (List Row)) → t + length (flat ls) + length leaves < 2 ^ 32 → Each AllRows leaves
    → Levels t ls leaves → Each (Each AllChildren) ls
levels-fit t [] leaves h a l = tt
levels-fit t (gs ∷ ls) leaves h a l =
    let e = ap length (flat-more gs ls) ∙ length-append gs (flat ls) in
    let r = levels-fit (t + length gs) ls leaves (omega arith) a l.1.1 in
    (children-each gs (rw l.0 (next_fits ls r (omega arith))), r)
  where
    next_fits : (ls : List (List (List Child))) → Each (Each AllChildren) ls → t + length gs + length (flat ls) + length leaves < 2 ^ 32
        → AllChildren (next_children (t + length gs) ls leaves)
    next_fits [] r h = leaf-children-fit (t + length gs) leaves (omega arith) a
    next_fits (hs ∷ ls) r h =
        inner-children-fit (t + length gs) hs (omega (arith, ap length (flat-more hs ls), length-append hs (flat ls))) r.0

-- ---- page 1

weight-two : {A : Type 0} (w : A → ℕ) (x : A) → weight w (x ∷ []) ≡ w x + 0
unfolding weight
weight-two w x = refl

-- a schema record of at most 911 bytes is all local, and its cell fits page 1
module _ (schema : List ℕ) (short : length schema ≤ 911) where
  schema-local : local_of size schema ≡ length schema
  schema-local = sym (local-all size table_leaf (length schema) (omega arith))

  schema-link : link_bytes size schema 0 ≡ []
  schema-link =
      sym (cond_yes (eqb (local_of size schema) (length schema)) [] [] (be_bytes 4 0)
      (eq-eqb (local_of size schema) (length schema) schema-local) refl)

  schema-fits : RowFits (pos 1) schema 0
  schema-fits = record { number = signed-fits (2 ^ 63) 1 (omega arith) (omega arith); limit = omega arith; link = omega arith }

  no-links : links_of size schema ≡ 0
  no-links =
      let z : length schema - local_of size schema ≡ 0 = omega (arith, schema-local) in
      ap (chain_length size) z ∙ chain-none size (omega arith)

  pub schema-room : room_for 100 table_leaf (row_cells size (schema_row schema ∷ [])) ≤ size
  schema-room =
      let h : 480 ≤ size = omega arith in
      let p : varint_size (length schema) ≤ 1 + 1 = fits-size 8 1 (length schema) 1 (omega arith) in
      let q : 1 ≡ varint_size 1 = size-done 7 1 1 (omega arith) in
      let l = ap length schema-link in
      omega (
        arith,
        rows-room size 100 (schema_row schema ∷ []),
        weight-one-row,
        leaf-length size (pos 1) schema 0 h,
        fields-length size (pos 1) schema 0 h,
        schema-local,
      )
    where
      weight-one-row : weight (row_weight size) (schema_row schema ∷ []) ≡ row_weight size (schema_row schema) + 0
      weight-one-row = weight-two (row_weight size) (schema_row schema)

schema-alone : (b : List ℕ) (schema : List ℕ) → length schema ≤ 911 → ChainIn b size (schema_row schema)
unfolding chain_of
schema-alone b schema short =
    let e = no-links schema short in
    record { pages = subst (λ k. InImage b 0 (chain_of size k 0 (rest_of size schema))) (sym e) tt; small = omega (arith, e) }

takes-some : (gs : List (List Row)) → Packed (row_weight size) (row_joins size) gs → Each (λ g. 1 ≤ length g) gs
takes-some [] p = tt
takes-some ([] ∷ gs) p = absurd p.0
takes-some ((r ∷ g) ∷ gs) p = (omega arith, takes-some gs p.2)

groups-filled : (rows : List Row) → 2 ≤ length (group_leaves size rows) → Each (λ g. 1 ≤ length g) (group_leaves size rows)
unfolding group_leaves groups_of
groups-filled [] h = absurd (omega arith)
groups-filled (r ∷ rs) h = takes-some (group_leaves size (r ∷ rs)) (leaves-packed size r rs)

-- ---- the whole image

-- what the builder refuses is not this: the schema record's length, the rows' numbers and lengths, the number of pages
pub record Fits (schema : List ℕ) (rows : List Row) : Type 0 where
  pub short : length schema ≤ 911
  pub all : AllRows rows
  pub pages : 1 + length (later_pages rows) ≤ 4096

pub record Built (b : List ℕ) (schema : List ℕ) (rows : List Row) (leaves : List (List Row)) (n : ℕ) : Type 0 where
  -- it passes 1 to 11, has n pages of 1024 bytes, and no free page
  pub header : FreshHeader b n
  pub whole : length b ≡ n * 1024
  pub count : n ≡ 1 + tree_size leaves + links_all rows
  -- page 1: the schema row alone
  pub schema-page : LeafIn b size 1 (schema_row schema ∷ [])
  -- the tree, its levels side by side from page 2 on, the leaves last
  pub tree : TreeLevels (levels_of leaves) leaves
  pub inner : (i : ℕ) → i < length (flat (levels_of leaves)) → let g = get_or (flat (levels_of leaves)) i [] in
      InnerIn b (2 + i) (front g) (last_child g).page
  pub leaf : (i : ℕ) → i < length leaves → LeafIn b size (2 + length (flat (levels_of leaves)) + i) (get_or leaves i [])
  -- the leaves hold the rows in their order; the chains stand side by side behind the tree
  pub rows_are : flat leaves ≡ with_firsts (2 + tree_size leaves) rows
  pub chains : Each (ChainIn b size) (flat leaves)
  -- no leaf is empty, but an only one
  pub filled : 2 ≤ length leaves → Each (λ g. 1 ≤ length g) leaves
  -- the schema row has no chain
  pub schema-links : links_of size schema ≡ 0
  pub fits : n ≤ 4096

-- ---- how many pages
module _ (rows : List Row) where
  abbrev leaves_in : List (List Row)
  leaves_in = leaves_of rows

  abbrev levels-in : List (List (List Child))
  levels-in = levels_of leaves_in

  later-is : later_pages rows ≡ tree_pages leaves_in ++ chains_of (flat leaves_in)
  unfolding later_pages
  later-is = refl

  rows-placed : flat leaves_in ≡ with_firsts (2 + tree_size leaves_in) rows
  rows-placed = leaves-rows rows

  links-are : length (chains_of (flat leaves_in)) ≡ links_all rows
  links-are = ap (λ l. length (chains_of l)) rows-placed ∙ chains-length (2 + tree_size leaves_in) rows

  pub later-count : length (later_pages rows) ≡ tree_size leaves_in + links_all rows
  later-count =
      ap length later-is ∙ length-append (tree_pages leaves_in) (chains_of (flat leaves_in))
      ∙ omega (
        arith,
        links-are,
        length-append (map child_page (flat levels-in)) (map (leaf_page size []) leaves_in),
        length-map (flat levels-in) child_page,
        length-map leaves_in (leaf_page size []),
      )

  -- the tree has as many whatever the numbers of the chains
  pub pages-count : length (later_pages rows) ≡ tree_size (group_leaves size rows) + links_all rows
  unfolding leaves_of
  pages-count =
      let t = 2 + tree_size (group_leaves size rows) in
      omega (arith, later-count, leaves-same t rows, ap (λ x. length (flat x)) (levels-same t rows))

later-head : (q : ℕ) → 2 ≤ q → head_of q ≡ 0
later-head q h = sym (cond_no (eqb q 1) 0 100 0 (ne_eqb q 1 (λ (e : q ≡ 1). omega arith)) refl)

module _ (schema : List ℕ) (rows : List Row) (f : Fits schema rows) where
  abbrev leaves : List (List Row)
  leaves = leaves_of rows

  abbrev ls : List (List (List Child))
  ls = levels_of leaves

  abbrev n : ℕ
  n = 1 + length (later_pages rows)

  abbrev b : List ℕ
  b = image_of schema rows

  leaves-some : 1 ≤ length leaves
  unfolding leaves_of group_leaves
  leaves-some = groups-some (row_weight size) (row_joins size) (with_firsts (2 + tree_size (group_leaves size rows)) rows)

  has-tree : TreeLevels ls leaves
  has-tree = levels-are leaves (omega (arith, f.pages, later-count rows)) leaves-some

  leaves-room : Each (λ g. room_for 0 table_leaf (row_cells size g) ≤ size) leaves
  unfolding leaves_of
  leaves-room = leaves-fit size (omega arith) (with_firsts (2 + tree_size (group_leaves size rows)) rows)

  leaves-filled : 2 ≤ length leaves → Each (λ g. 1 ≤ length g) leaves
  unfolding leaves_of
  leaves-filled = groups-filled (with_firsts (2 + tree_size (group_leaves size rows)) rows)

  all-inner : Each Inner (flat ls)
  all-inner = each-flat Inner ls (levels-inner 2 ls leaves has-tree.levels)

  later-sized : Each Sized (later_pages rows)
  later-sized =
      rw (later-is rows)
      (each_append Sized (tree_pages leaves) (chains_of (flat leaves))
      (each_append Sized (map child_page (flat ls)) (map (leaf_page size []) leaves) (inner-sized (flat ls) all-inner)
      (leaves-sized leaves leaves-room))
      (chains-sized (flat leaves)))

  room-1 : room_for (length (file_header n)) table_leaf (row_cells size (schema_row schema ∷ [])) ≤ size
  room-1 = rw (header-size n) (schema-room schema f.short)

  image-is : image_pages schema rows ≡ first_page n schema ∷ later_pages rows
  unfolding image_pages
  image-is = refl

  pages-sized : Each Sized (image_pages schema rows)
  pages-sized = rw image-is (page-length size (file_header n) table_leaf 0 (row_cells size (schema_row schema ∷ [])) room-1, later-sized)

  joined_is : b ≡ joined (image_pages schema rows)
  unfolding image_of
  joined_is = refl

  whole_is : length b ≡ n * 1024
  whole_is = ap length joined_is ∙ joined-size (image_pages schema rows) pages-sized ∙ ap (λ ps. length ps * 1024) image-is ∙ omega arith

  first_rest : (front more : List ℕ) (type right : ℕ) (cs : List (List ℕ))
      → tree_page size front type right cs ++ more ≡ front ++ (drop (length front) (tree_page size front type right cs) ++ more)
  unfolding tree_page
  first_rest front more type right cs = rw (drop-append_seam) (append_assoc front _ more)

  abbrev behind : List ℕ
  behind = drop (length (file_header n)) (first_page n schema) ++ joined (later_pages rows)

  begins : b ≡ file_header n ++ behind
  begins =
      joined_is ∙ ap joined image-is ∙ joined-more (first_page n schema) (later_pages rows)
      ∙ first_rest (file_header n) (joined (later_pages rows)) table_leaf 0 (row_cells size (schema_row schema ∷ []))

  has-header : FreshHeader b n
  has-header =
      subst (λ x. FreshHeader x n) (sym begins) (header-passes n behind (omega arith) f.pages (ap length (sym begins) ∙ whole_is))

  all_in : InImage b 1 (first_page n schema ∷ later_pages rows)
  all_in =
      subst (InImage b 1) image-is
      (joined_in b [] 1 (image_pages schema rows) joined_is has-header.size_is (omega arith) (omega arith) pages-sized)

  later-in : InImage b 2 (tree_pages leaves ++ chains_of (flat leaves))
  later-in = subst (InImage b 2) (later-is rows) all_in.1

  small : 2 + tree_size leaves + links_all rows < 2 ^ 32
  small = omega (arith, f.pages, later-count rows)

  parts : InImage b 2 (tree_pages leaves) × InImage b (2 + tree_size leaves) (chains_of (flat leaves))
  parts =
      let s = in-append b 2 (tree_pages leaves) (chains_of (flat leaves)) later-in in
      let e : 2 + length (tree_pages leaves) ≡ 2 + tree_size leaves =
      omega (
        arith,
        length-append (map child_page (flat ls)) (map (leaf_page size []) leaves),
        length-map (flat ls) child_page,
        length-map leaves (leaf_page size []),
      ) in
      (s.0, subst (λ t. InImage b t (chains_of (flat leaves))) e s.1)

  tree-parts : InImage b 2 (map child_page (flat ls)) × InImage b (2 + length (flat ls)) (map (leaf_page size []) leaves)
  tree-parts =
      let s = in-append b 2 (map child_page (flat ls)) (map (leaf_page size []) leaves) parts.0 in
      let e : 2 + length (map child_page (flat ls)) ≡ 2 + length (flat ls) = ap (λ k. 2 + k) (length-map (flat ls) child_page) in
      (s.0, subst (λ t. InImage b t (map (leaf_page size []) leaves)) e s.1)

  placed-fit : AllRows (flat leaves)
  placed-fit = rw (rows-placed rows) (firsts-fit (2 + tree_size leaves) rows small f.all)

  each_fits : Each AllRows leaves
  each_fits = rows-each leaves placed-fit

  children-all : Each AllChildren (flat ls)
  children-all = each-flat AllChildren ls (levels-fit 2 ls leaves (omega (arith, small)) each_fits has-tree.levels)

  inner-page : (i : ℕ) → i < length (flat ls) → let g = get_or (flat ls) i [] in InnerIn b (2 + i) (front g) (last_child g).page
  inner-page i l =
      let g = get_or (flat ls) i [] in
      let a = each_at AllChildren (flat ls) i [] l children-all in
      inner-in b size (2 + i) has-header.usable_is (omega arith) (omega arith) (front g) (last_child g).page (later-head (2 + i) (omega arith))
      (each_at Inner (flat ls) i [] l all-inner).0 (front_fits g a) (last-child-fits g a).page
      (in-at b 2 (map child_page (flat ls)) i (omega (arith, length-map (flat ls) child_page)) tree-parts.0 ∙ get_d-mapped child_page (flat ls) i [] l)

  all-chains : Each (ChainIn b size) (flat leaves)
  all-chains = rw (rows-placed rows) (chains-in b (2 + tree_size leaves) rows small (rw (rows-placed rows) at parts.1))

  leaf-page : (i : ℕ) → i < length leaves → LeafIn b size (2 + length (flat ls) + i) (get_or leaves i [])
  leaf-page i l =
      leaf-in b size (2 + length (flat ls) + i) has-header.usable_is (omega arith) (omega arith) [] (get_or leaves i [])
      (later-head (2 + length (flat ls) + i) (omega arith))
      (each_at (λ g. room_for 0 table_leaf (row_cells size g) ≤ size) leaves i [] l leaves-room) (each_at AllRows leaves i [] l each_fits)
      (each_at (Each (ChainIn b size)) leaves i [] l (each-groups (ChainIn b size) leaves all-chains))
      (in-at b (2 + length (flat ls)) (map (leaf_page size []) leaves) i (omega (arith, length-map leaves (leaf_page size [])))
      tree-parts.1 ∙ get_d-mapped (leaf_page size []) leaves i [] l)

  page-1 : LeafIn b size 1 (schema_row schema ∷ [])
  page-1 =
      leaf-in b size 1 has-header.usable_is (omega arith) (omega arith) (file_header n) (schema_row schema ∷ []) (sym (header-size n)) room-1
      (schema-fits schema f.short, tt) (schema-alone b schema f.short, tt) all_in.0

  pub built : Built b schema rows leaves n
  built =
      record {
        header = has-header;
        whole = whole_is;
        count = omega (arith, later-count rows);
        schema-page = page-1;
        tree = has-tree;
        inner = inner-page;
        leaf = leaf-page;
        rows_are = rows-placed rows;
        filled = leaves-filled;
        schema-links = no-links schema f.short;
        fits = f.pages;
        chains = all-chains;
      }
