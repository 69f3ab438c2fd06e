-- An image with a leaf laid anew keeps what a good dealing of the first has read, but for the row that was set.
use Prim.Native.Nat.{ℕ, zero, suc, ◌+◌, ◌-◌, ◌*◌, ◌≤◌, ◌<◌}
use mathlib.Core.Path.{◌≡◌, refl, sym, ap, ap₂, subst, ◌∙◌}
use mathlib.Core.Bool.{Bool, true, false, cond, true≢false}
use mathlib.Core.Logic.{◌≢◌, ◌⊎◌, inl, inr, ⊎_elim}
use mathlib.Core.List.{List, ◌++◌, append-nil}
use lib.Dec.{eqb}
use lib.IntN.{ℤ}
use lib.ListN.{length}
use native.Mathlib.Omega.{arith}
use borrow.Author.Tests.{eqb-true, eqb-false, eq-eqb, ne_eqb}
use Rattle.number.specs.Bytes.{byte_at, be, part}
use Rattle.number.proofs.Cases.{true-or-false}
use Rattle.number.proofs.VarintReading.{Stands}
use Rattle.paging.proofs.PagesLaws.{length_over, over_below, over-within, over-past, page-fits, pages-apart}
use Rattle.header.specs.Header.{size_of, usable_of, pages_of, header_of}
use Rattle.record.specs.Record.{reads_of}
use Rattle.cell.specs.declared.Cell as D
use Rattle.cell.specs.Split.{table_leaf, chain_length}
use Rattle.cell.specs.Cell.{child_at, cell_links}
use Rattle.cell.proofs.CellLaws.{CellRead, links-some}
use Rattle.cell.proofs.SplitLaws.{chain-none, local-all}
use Rattle.page.specs.Header.{page_type, cell_count, content_start, array_end, pointer, cell_of}
use Rattle.page.specs.Fault.{sound_fault}
use Rattle.page.proofs.Spans.{order}
use Rattle.page.proofs.PageLaws.{sound-checks}
use Rattle.dealing.specs.File.{Cell, File, Page, Nameable, is_leaf, is_table, leaf_type, table_type, suits, table_page, root_kind, tree_kind, first_kind, later_kind}
use Rattle.dealing.specs.Good.{Dealing, TreePage, InTree, LeafCell, Good, place_of}
use Rattle.dealing.proofs.Match.{tree-one}
use Rattle.image.specs.Pages.{page_in, head_of, cell_in}
use Rattle.image.specs.Payload.{chain_bytes, payload_of}
use Rattle.image.specs.Image.{file_of}
use Rattle.image.specs.Good.{GoodDealing, PayloadCell}
use Rattle.image.proofs.Fields as F
use Rattle.image.proofs.Shape.{Shape, shape}
use Rattle.image.proofs.Records.{good-reads}
use Rattle.lookup.proofs.Theorems.{opened-image, leaf-payload}
use Rattle.writing.specs.Cells.{leaf_at, local_of}
use Rattle.altered.specs.Altered as Al
use Rattle.altered.proofs.SameHeader as H
use Rattle.altered.proofs.Kept as K
use Rattle.altered.proofs.Kept.{Same-at, PageKept, CellKept, Changed, KeepsPages}
use Rattle.setting.specs.Relaid.{cells_for, leaf_page, relaid, Settable}
use Rattle.setting.proofs.Stack.{Cells}
use Rattle.setting.proofs.LeafLaid.{leaf-length}
use Rattle.setting.proofs.LeafRelaid.{Relays, relays}

-- a page of kind 6 whose namer is a table page is one
child-table : (f : File) (d : Dealing) → Good f d → (q : ℕ) → Nameable f q → d.kind q ≡ tree_kind → is_table f (d.namer q) ≡ true → is_table f q ≡ true
unfolding is_table suits
child-table f d g q l k up =
    let h : Page f q = omega arith in
    let place : place_of f d q ≡ table_page = rw (k, up) refl in
    subst (λ p. suits p (f.type q) ≡ true) place (g.rule_22 q h (inr k))

-- the pages of a table root's tree are table pages
tree-table : (f : File) (d : Dealing) → Good f d → (r : ℕ) → is_table f r ≡ true → (n q : ℕ) → InTree f d r n q → is_table f q ≡ true
tree-table f d g r e zero q i = absurd i
tree-table f d g r e (suc zero) q i = ap (is_table f) i ∙ e
tree-table f d g r e (suc (suc n)) q i = child-table f d g q i.0 i.1 (tree-table f d g r e (suc n) (d.namer q) i.2)

-- a table page that is a leaf has type 13
pub leaf-type : (t : ℕ) → leaf_type t ≡ true → table_type t ≡ true → t ≡ table_leaf
leaf-type t l e = go (eqb t 13) refl (eqb t 10) refl (eqb t 5) refl
  where
    go : (x : Bool) → eqb t 13 ≡ x → (y : Bool) → eqb t 10 ≡ y → (z : Bool) → eqb t 5 ≡ z → t ≡ table_leaf
    go true a y b z c = eqb-true t 13 a
    go false a false b z c = absurd (true≢false (sym l ∙ rw (a, b) refl))
    go false a true b false c = absurd (true≢false (sym e ∙ rw (a, c) refl))
    go false a true b true c = absurd (omega (arith, eqb-true t 10 b, eqb-true t 5 c))

module _ (b : List ℕ) (d : Dealing) (g : GoodDealing b d) (root page cell : ℕ) (row : ℤ) (s : List ℕ) (R : Settable b d root page cell row s) where
  abbrev f : File
  f = file_of b

  abbrev u : ℕ
  u = usable_of b

  abbrev cs : Cells
  cs = cells_for b page cell row s

  abbrev new : List ℕ
  new = leaf_page u cs

  abbrev c : List ℕ
  c = relaid b page cell row s

  abbrev x : D.Cell
  x = cell_in b page cell

  abbrev at : ℕ
  at = (page - 1) * size_of b

  leaf : LeafCell f d root page cell
  leaf = R.carries.leaf

  form : Shape b (header_of b)
  form = shape (opened-image b g.passes)

  pub w : PayloadCell b d page cell
  w = leaf-payload R.table page cell leaf

  pub used : 480 ≤ u
  used = omega (arith, form.used, form.usable_is)

  inside : u ≤ size_of b
  inside = omega (arith, form.inside, form.usable_is, form.size_is)

  most : u ≤ 65536
  most = omega (arith, form.inside, form.usable_is, form.most)

  table : is_table f page ≡ true
  table = tree-table f d g.good root R.table.table leaf.0.0 page leaf.0.1

  -- no page of this tree is page 1
  pub second : 2 ≤ page
  second = go leaf.0.0 leaf.0.1
    where
      go : (n : ℕ) → InTree f d root n page → 2 ≤ page
      go zero i = absurd i
      go (suc zero) i = let h = R.table.page in two (λ z. R.other (sym i ∙ z))
        where
          two : page ≢ 1 → 2 ≤ page
          two n = let h = w.in_file in omega arith
      go (suc (suc n)) i = i.0.0

  -- so its header is at byte 0
  head-is : head_of page ≡ 0
  head-is = ap (λ (t : Bool). cond t 100 0) (ne_eqb page 1 (λ e. omega (arith, second)))

  type-is : page_type (page_in b page) 0 ≡ table_leaf
  type-is =
      ap (page_type (page_in b page)) (sym head-is) ∙ sym (F.type-field b page)
      ∙ leaf-type (f.type page) (unfold is_leaf in leaf.1) (unfold is_table in table)

  pub sound-is : sound_fault (page_in b page) u 0 ≡ 0
  sound-is = ap (sound_fault (page_in b page) u) (sym head-is) ∙ sym (F.broken-field b page) ∙ g.good.rule_23_26 page w.in_file w.tree

  count_is : f.count page ≡ cell_count (page_in b page) 0
  count_is = F.count-field b page ∙ ap (cell_count (page_in b page)) head-is

  index : cell < cell_count (page_in b page) 0
  index = omega (arith, count_is, w.index)

  cell-in : (e : List ℕ) (j : ℕ) → cell_in e page j ≡ cell_of (page_in e page) (usable_of e) 0 j
  unfolding cell_in
  cell-in e j = ap (λ h. cell_of (page_in e page) (usable_of e) h j) head-is

  -- ---- the bytes
  pub new-long : length new ≡ u
  new-long = leaf-length u cs R.room

  pub fits : at + length new ≤ length b
  fits =
      let k : pages_of b * size_of b ≤ length b = subst (λ n. n * size_of b ≤ length b) form.pages-is (subst (λ n. (header_of b).pages * n ≤ length b) form.size_is form.within) in
      let m = page-fits page (pages_of b) (size_of b) w.in_file.0 (omega (arith, F.N-field b, w.in_file.1)) in
      omega (arith, k, m, inside, new-long)

  pub long : length c ≡ length b
  long = length_over b at new fits

  -- outside that page, and from U on, they are as they were
  pub rest : (i : ℕ) → (i < at) ⊎ (at + u ≤ i) → byte_at c i ≡ byte_at b i
  rest i (inl l) = over_below b at new fits i l
  rest i (inr l) = over-past b at new fits i (omega (arith, new-long))

  other : (p i : ℕ) → 1 ≤ p → i < size_of b → p ≢ page → Same-at b c p i
  other p i l h n =
      ⊎_elim
      (λ (m : p < page). let a = pages-apart p page (size_of b) l m in rest (Al.place_of b p i) (inl (omega arith)))
      (⊎_elim (λ e. absurd (n e))
      (λ (m : page < p). let a = pages-apart page p (size_of b) w.in_file.0 m in rest (Al.place_of b p i) (inr (omega (arith, inside)))))
      (order p page)

  pub header : (i : ℕ) → i < 100 → byte_at c i ≡ byte_at b i
  header i h =
      let a = pages-apart 1 page (size_of b) (omega arith) second in
      let z : 512 ≤ size_of b = omega (arith, form.least, form.size_is) in
      rest i (inl (omega arith))

  pub usable_is : usable_of c ≡ u
  usable_is = H.usable-kept b c long header

  stands : Stands (page_in c page) 0 new
  stands i l =
      let e : 0 + i ≡ i = omega arith in
      ap (byte_at (page_in c page)) e ∙ K.byte-c b c d g long header page i (omega (arith, new-long, inside)) ∙ over-within b at new fits i l

  -- ---- this page
  pub laid : Relays (page_in b page) (page_in c page) u cell row s
  laid =
      relays (page_in b page) (page_in c page) u cell row s (K.long-b b c d g long header page w.in_file w.tree)
      (K.long-c b c d g long header page w.in_file w.tree) used most type-is sound-is index R.number R.short R.room stands

  this-page : PageKept b c page
  this-page =
      record {
        type = ap (page_type (page_in c page)) head-is ∙ laid.type-is ∙ sym (ap (page_type (page_in b page)) head-is ∙ type-is);
        count = ap (cell_count (page_in c page)) head-is ∙ laid.count_is ∙ sym (ap (cell_count (page_in b page)) head-is);
        sound = ap (sound_fault (page_in c page) u) head-is ∙ laid.no-fault;
        right = rw (head-is, laid.type-is, type-is) refl;
      }

  -- its cells
  now : (j : ℕ) → cell_in c page j ≡ cell_of (page_in c page) u 0 j
  now j = cell-in c j ∙ ap (λ u. cell_of (page_in c page) u 0 j) usable_is

  was : (j : ℕ) → cell_in b page j ≡ cell_of (page_in b page) u 0 j
  was j = cell-in b j

  beside : (j : ℕ) → j < f.count page → j ≢ cell → CellKept b c page j
  beside j l n =
      let m = laid.moved j (omega (arith, count_is)) n in
      let e = now j in
      let o = was j in
      record {
        child = ap (λ (y : D.Cell). y.child) e ∙ m.child ∙ sym (ap (λ (y : D.Cell). y.child) o);
        row = ap (λ (y : D.Cell). y.row) e ∙ m.row ∙ sym (ap (λ (y : D.Cell). y.row) o);
        payload = ap (λ (y : D.Cell). y.payload) e ∙ m.payload ∙ sym (ap (λ (y : D.Cell). y.payload) o);
        local = ap (λ (y : D.Cell). y.local) e ∙ m.local ∙ sym (ap (λ (y : D.Cell). y.local) o);
        first = ap (λ (y : D.Cell). y.first) e ∙ m.first ∙ sym (ap (λ (y : D.Cell). y.first) o);
        long = ap (λ (y : D.Cell). y.long) e ∙ m.long ∙ sym (ap (λ (y : D.Cell). y.long) o);
        bytes = ap₂ (λ (y z : D.Cell). part (page_in c page) y.start z.local) e o ∙ laid.local j (omega (arith, count_is)) n
            ∙ sym (ap (λ (z : D.Cell). part (page_in b page) z.start z.local) o);
      }

  -- the cell that was set
  abbrev y : D.Cell
  y = leaf_at u row s 0 (pointer (page_in c page) 0 cell)

  pub cell_is : cell_in c page cell ≡ y
  cell_is = now cell ∙ laid.fresh

  all_local : local_of u s ≡ length s
  all_local = sym (local-all u table_leaf (length s) R.short)

  pub no-links : cell_links u y ≡ 0
  no-links = let e : length s - local_of u s ≡ 0 = omega (arith, all_local) in ap (chain_length u) e ∙ chain-none u used

  pub here : payload_of c page cell ≡ s
  unfolding payload_of chain_bytes
  here =
      ap₂ ◌++◌ (ap₂ (λ (z : D.Cell) n. part (page_in c page) z.start n) (now cell) (ap (λ (z : D.Cell). z.local) cell_is ∙ all_local) ∙ laid.bytes)
      (ap (λ (z : D.Cell). chain_bytes c (cell_links (usable_of c) z) (z.payload - z.local) z.first) cell_is
      ∙ ap (λ u. chain_bytes c (cell_links u y) (y.payload - y.local) y.first) usable_is
      ∙ ap (λ n. chain_bytes c n (y.payload - y.local) y.first) no-links)
      ∙ append-nil s

  read : CellRead (page_in b page) u (page_type (page_in b page) 0) (pointer (page_in b page) 0 cell) x
  read =
      subst (λ (z : D.Cell). CellRead (page_in b page) u (page_type (page_in b page) 0) (pointer (page_in b page) 0 cell) z) (sym (was cell))
      ((sound-checks (page_in b page) u 0 used sound-is).read cell index)

  links-are : cell_links u x ≡ 0
  links-are = sym (ap (λ (z : Cell). z.links) (F.cell_field b page cell)) ∙ R.whole

  whole_is : x.local ≡ x.payload
  whole_is = ⊎_elim (λ (l : x.local < x.payload). absurd (omega (arith, links-some used read l, links-are)))
      (⊎_elim (λ e. e) (λ (l : x.payload < x.local). absurd (omega (arith, read.part)))) (order x.local x.payload)

  no-child : x.child ≡ 0
  no-child = read.child-is ∙ ap (λ t. child_at (page_in b page) t (pointer (page_in b page) 0 cell)) type-is

  no-first : x.first ≡ 0
  no-first = read.first-is ∙ ap (λ (t : Bool). cond t 0 (be 4 (page_in b page) (x.start + x.local))) (eq-eqb x.local x.payload whole_is)

  new-first : y.first ≡ 0
  new-first = ap (λ (t : Bool). cond t 0 0) (eq-eqb (local_of u s) (length s) all_local)

  changed : Changed b c d page cell
  changed =
      record {
        table = table;
        no_row = λ l. R.other (tree-one f d leaf.0.0 l.0.0 root 1 page R.table.kind g.good.kind_1 leaf.0.1 l.0.1).0;
        child = ap (λ (z : D.Cell). z.child) cell_is ∙ sym no-child;
        row = ap (λ (z : D.Cell). z.row) cell_is ∙ sym R.carries.number ∙ ap (λ (z : Cell). z.row) (F.cell_field b page cell);
        links = ap (cell_links u) cell_is ∙ no-links ∙ sym links-are;
        first = ap (λ (z : D.Cell). z.first) cell_is ∙ new-first ∙ sym no-first;
        reads = ap reads_of here ∙ R.reads ∙ sym (good-reads g w);
      }

  -- ---- all pages
  page-or : (q : ℕ) → (q ≡ page) ⊎ (q ≢ page)
  page-or q = ⊎_elim (λ e. inl (eqb-true _ _ e)) (λ e. inr (eqb-false _ _ e)) (true-or-false (eqb q page))

  cell-or : (j : ℕ) → (j ≡ cell) ⊎ (j ≢ cell)
  cell-or j = ⊎_elim (λ e. inl (eqb-true _ _ e)) (λ e. inr (eqb-false _ _ e)) (true-or-false (eqb j cell))

  elsewhere : (q : ℕ) → Page f q → q ≢ page → (i : ℕ) → i < u → (i < array_end (page_in b q) (head_of q)) ⊎ (content_start (page_in b q) (head_of q) ≤ i)
      → byte_at (page_in b q) i ≡ byte_at (page_in c q) i
  elsewhere q h n i l o = K.agree b c d g long header q i l (other q i h.0 (omega (arith, inside)) n)

  page-kept : (q : ℕ) → Page f q → TreePage d q → PageKept b c q
  page-kept q h t =
      ⊎_elim (λ e. subst (PageKept b c) (sym e) this-page) (λ n. K.page-same b c d g long header q h t (elsewhere q h n)) (page-or q)

  -- a cell of a tree page is kept, unless it is the one that was set
  pub cell-kept : (q j : ℕ) → Page f q → TreePage d q → j < f.count q → ((q ≡ page) × (j ≡ cell) → ⊥) → CellKept b c q j
  cell-kept q j h t l n = ⊎_elim here-page (λ m. K.cell-same-there b c d g long header q h t (elsewhere q h m) j l) (page-or q)
    where
      here-page : q ≡ page → CellKept b c q j
      here-page e = subst (λ q. CellKept b c q j) (sym e) (beside j (subst (λ q. j < f.count q) e l) (λ z. n (e, z)))

  kept-or-changed : (q j : ℕ) → Page f q → TreePage d q → j < f.count q → CellKept b c q j ⊎ Changed b c d q j
  kept-or-changed q j h t l = ⊎_elim on (λ m. inl (cell-kept q j h t l (λ z. m z.0))) (page-or q)
    where
      on : q ≡ page → CellKept b c q j ⊎ Changed b c d q j
      on e =
          ⊎_elim (λ z. inr (subst (λ q. Changed b c d q j) (sym e) (subst (Changed b c d page) (sym z) changed)))
          (λ m. inl (cell-kept q j h t l (λ z. m z.1))) (cell-or j)

  no-tree : (p : ℕ) → d.kind p ≢ root_kind → d.kind p ≢ tree_kind → p ≢ page
  no-tree p n m e = go w.tree
    where
      go : TreePage d page → ⊥
      go (inl k) = n (ap d.kind e ∙ k)
      go (inr k) = m (ap d.kind e ∙ k)

  pub keeps : KeepsPages b c d
  keeps =
      record {
        long = long;
        header = header;
        page = page-kept;
        cell = kept-or-changed;
        overflow = λ p i h o l. overflow-kept p i h l o;
        trunk = λ p i h k l m. other p i h.0 (omega (arith, inside)) (no-tree p (λ z. omega arith) (λ z. omega arith));
        map = λ p i h k l. other p i h.0 (omega (arith, inside)) (no-tree p (λ z. omega arith) (λ z. omega arith));
      }
    where
      overflow-kept : (p i : ℕ) → Page f p → i < u → (d.kind p ≡ first_kind) ⊎ (d.kind p ≡ later_kind) → Same-at b c p i
      overflow-kept p i h l (inl k) = other p i h.0 (omega (arith, inside)) (no-tree p (λ z. omega arith) (λ z. omega arith))
      overflow-kept p i h l (inr k) = other p i h.0 (omega (arith, inside)) (no-tree p (λ z. omega arith) (λ z. omega arith))
