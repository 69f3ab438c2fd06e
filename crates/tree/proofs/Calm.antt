-- A leaf that is calm: what its one pass says of the file, and that nothing but some payloads are left to walk.
use Prim.Native.Nat.{ℕ, zero, suc, ◌+◌, ◌-◌, ◌≤◌, ◌<◌}
use mathlib.Core.Path.{◌≡◌, refl, sym, ap, ◌∙◌, subst}
use mathlib.Core.Bool.{Bool, true, false}
use mathlib.Core.Logic.{◌⊎◌, inl, inr}
use mathlib.Core.Option.{Option, none, some}
use mathlib.Core.List.{List, ◌∷◌, ◌++◌, append-nil}
use native.Mathlib.Omega.{arith}
use borrow.Author.Tests.{lt-ltb}
use Rattle.number.specs.Bytes.{part}
use Rattle.record.specs.Record.{reads_of}
use Rattle.header.specs.declared.Header.{Header}
use Rattle.header.specs.Header.{usable_of}
use Rattle.cell.specs.declared.Cell as D
use Rattle.cell.specs.Split.{index_leaf, table_leaf, chain_length}
use Rattle.cell.specs.Cell.{cell_links}
use Rattle.cell.proofs.SplitLaws.{chain-none}
use Rattle.leaf.specs.Whole.{Whole}
use Rattle.page.specs.declared.Place as P
use Rattle.leaf_pass.specs.declared.Leaf as K
use Rattle.page.specs.Place.{allowed}
use Rattle.page.specs.Header.{cell_of, page_type}
use Rattle.leaf_pass.specs.Calm.{Calm}
use Rattle.dealing.specs.Good.{Mark, a_row}
use Rattle.dealing.specs.File as F
use Rattle.dealing.specs.File.{File, Place, suits, table_type, leaf_type, is_table, is_leaf, cells_of}
use Rattle.dealing.specs.Walk.{Mode, plain_tree, fault_in, row_of, leaf, page_events, payload_events, leaf_cell, leaf_events, follows, order, State, Outcome, went, refused, run}
use Rattle.dealing.specs.Spelling.{long_cells}
use Rattle.dealing.proofs.RunLaws.{run_none, then-went, then-refused}
use Rattle.dealing.proofs.WalkLaws.{rest_of, rest_all, page-leaf, leaf-end, leaf-goes, leaf-stops, row-none, row_goes, payload-reads, no-chain}
use Rattle.image.specs.Pages.{page_in, head_of, cell_in}
use Rattle.image.specs.Payload.{chain_bytes, cell_bytes}
use Rattle.image.specs.Image.{file_of}
use Rattle.image.specs.Ready.{Opened, PageAt}
use Rattle.image.proofs.Shape.{shape}
use Rattle.image.proofs.Fields.{cell_field}
use Rattle.tree.specs.Spots.{Tests, CalmAt, SoundAt}
use Rattle.tree.specs.Leaves.{leaf_rest, payloads_in}
use Rattle.tree.proofs.Tests.{fault-none, tests-page}
use Rattle.tree.proofs.Leaves.{cell-goes, rest-payload-goes, rest-payload-stops, last-plain}
use Rattle.tree.proofs.Payloads.{marked, marked-twice, still-payload, still-payloads, payloads-all}

pub not_calm : false ≡ true → ⊥
not_calm e = let o : ◌≡◌ {A = ℕ} 0 1 = cc in omega arith

-- a cell that lies whole on its page, as the file has it
module _ (b : List ℕ) (p : ℕ) (c : D.Cell) (least : 480 ≤ usable_of b) (w : Whole (page_in b p) c) where
  whole-links : cell_links (usable_of b) c ≡ 0
  whole-links = let z : c.payload - c.local ≡ 0 = omega (arith, w.local) in ap (chain_length (usable_of b)) z ∙ chain-none (usable_of b) least

  whole-bytes : cell_bytes b p c ≡ part (page_in b p) c.start c.payload
  unfolding chain_bytes
  whole-bytes =
      ap (λ n. part (page_in b p) c.start c.local ++ chain_bytes b n (c.payload - c.local) c.first) whole-links
      ∙ append-nil (part (page_in b p) c.start c.local)
      ∙ ap (part (page_in b p) c.start) w.local

  whole-reads : reads_of (cell_bytes b p c) ≡ true
  whole-reads = ap reads_of whole-bytes ∙ w.reads

-- only a table leaf is a leaf of a table
table-leaf : (k : ℕ) → (k ≡ table_leaf) ⊎ (k ≡ index_leaf) → table_type k ≡ true → k ≡ table_leaf
table-leaf k (inl e) t = e
table-leaf k (inr e) t = absurd (not_calm (sym (ap table_type e) ∙ t))

-- page p is calm
module _ {b : List ℕ} {h : Header} (p : ℕ) (x : P.Place) (place : Place) (o : Opened b h) (same : (t : ℕ) → allowed x t ≡ suits place t)
    (low : ℕ) (r : K.Leaf) (k : Calm x (page_in b p) h.usable (head_of p) low r) where
  tests : Tests (file_of b) place p (record { fault = 0; kind = r.kind; cells = r.cells; right = 0 })
  tests = tests-page p x place o same _ (sym k.page) r.kind r.cells 0 refl

  count_is : r.cells ≡ (file_of b).count p
  count_is = tests.cells_is refl

  kind_is : r.kind ≡ (file_of b).type p
  kind_is = tests.kind_is refl

  cell_is : (i : ℕ) → cell_of (page_in b p) h.usable (head_of p) i ≡ cell_in b p i
  unfolding cell_in
  cell_is i = ap (λ u. cell_of (page_in b p) u (head_of p) i) (shape o).usable_is

  whole : (i : ℕ) → i < (file_of b).count p → (i < r.from) ⊎ (r.to ≤ i) → Whole (page_in b p) (cell_in b p i)
  whole i l w = subst (Whole (page_in b p)) (cell_is i) (k.rows.whole i (omega (arith, count_is)) w)

  least : 480 ≤ usable_of b
  least = let s = shape o in omega (arith, s.used, s.usable_is)

  row_is : (i : ℕ) → (cell_of (page_in b p) h.usable (head_of p) i).row ≡ ((file_of b).cell p i).row
  row_is i = ap (λ (c : D.Cell). c.row) (cell_is i) ∙ sym (ap (λ (c : F.Cell). c.row) (cell_field b p i))

  table-type : is_table (file_of b) p ≡ true → page_type (page_in b p) (head_of p) ≡ table_leaf
  unfolding is_table file_of
  table-type t = let e : r.kind ≡ table_leaf = table-leaf r.kind k.leaf (ap table_type kind_is ∙ t) in sym kind_is ∙ e

  calm-at : CalmAt (file_of b) p low r.next r.from r.to
  calm-at = let w = k.rows in record {
    within = omega (arith, w.within.1, count_is);
    links = λ i l w. ap (λ (c : F.Cell). c.links) (cell_field b p i) ∙ whole-links b p (cell_in b p i) least (whole i l w);
    reads = λ i l w. ap (λ (c : F.Cell). c.reads) (cell_field b p i) ∙ whole-reads b p (cell_in b p i) least (whole i l w);
    short = λ i l. ap (λ (c : F.Cell). c.long) (cell_field b p i) ∙ sym (ap (λ (c : D.Cell). c.long) (cell_is i)) ∙ w.short i (omega (arith, count_is));
    rises = λ t i l. omega (arith, w.rises (table-type t) i (omega (arith, count_is)), row_is i, row_is (i + 1));
    begins = λ t l. omega (arith, w.begins (table-type t) (omega (arith, count_is)), row_is 0);
    ends = λ t l.
        w.ends (table-type t) (omega (arith, count_is)) ∙ ap (λ n. n + 1) (row_is (r.cells - 1) ∙ ap (λ n. ((file_of b).cell p (n - 1)).row) count_is);
  }

-- a calm leaf in its place
pub record CalmPage (b : List ℕ) (h : Header) (p : ℕ) (place : Place) (low : ℕ) (r : K.Leaf) : Type 0 where
  pub sound : SoundAt b h p r.kind
  pub fault_is : fault_in (file_of b) place p ≡ 0
  pub leaf-is : is_leaf (file_of b) p ≡ true
  pub count_is : r.cells ≡ (file_of b).count p
  pub calm : CalmAt (file_of b) p low r.next r.from r.to

leaf-type : (k : ℕ) → (k ≡ table_leaf) ⊎ (k ≡ index_leaf) → leaf_type k ≡ true
leaf-type k (inl e) = ap leaf_type e
leaf-type k (inr e) = ap leaf_type e

pub calm-page : {b : List ℕ} {h : Header} {p : ℕ} → PageAt b h p → (x : P.Place) (place : Place) → ((t : ℕ) → allowed x t ≡ suits place t)
    → (low : ℕ) (r : K.Leaf) → Calm x (page_in b p) h.usable (head_of p) low r → CalmPage b h p place low r
unfolding is_leaf
calm-page {b} {h} {p} at x place same low r k =
    let o = at.opened in let none = sym (tests p x place o same low r k).fault_is in record {
      sound = record { at = at; kind_is = kind_is p x place o same low r k; sound = fault-none _ _ _ none };
      fault_is = none;
      leaf-is = ap leaf_type (sym (kind_is p x place o same low r k)) ∙ leaf-type r.kind k.leaf;
      count_is = count_is p x place o same low r k;
      calm = calm-at p x place o same low r k;
    }

-- in a plain tree it is walked as a leaf
pub calm-events : {b : List ℕ} {h : Header} {p : ℕ} {place : Place} {low : ℕ} {r : K.Leaf} → CalmPage b h p place low r → (mode : Mode) (levels : ℕ) (s : State) → (levels ≡ 0 → ⊥) → mode ≡ plain_tree
    → run (file_of b).N s (page_events (file_of b) mode levels place p) ≡ run (file_of b).N s (leaf p levels ∷ leaf_events (file_of b) plain_tree p 0 (cells_of (file_of b) p))
calm-events {b} {h} {p} {place} {low} {r} k mode levels s deep m =
    let f = file_of b in
    ap (λ m. run f.N s (page_events f m levels place p)) m
    ∙ page-leaf f plain_tree levels place p s deep k.fault_is k.leaf-is
    ∙ ap (λ x. run f.N s (leaf p levels ∷ leaf_events f plain_tree p 0 x)) (sym (rest_all f p))

-- nothing on it is spelled long
pub calm-short : (f : File) (p least next from to : ℕ) → CalmAt f p least next from to → long_cells f p (f.count p) ≡ 0
unfolding long_cells
calm-short f p least next from to q = go (f.count p) (λ i l. q.short i l)
  where
    go : (n : ℕ) → ((i : ℕ) → i < n → (f.cell p i).long ≡ 0) → long_cells f p n ≡ 0
    go zero e = refl
    go (suc n) e = omega (arith, go n (λ i l. e i (omega arith)), e n (omega arith))

-- in a plain tree a cell is its row number and its payload
cell-plain : (f : File) (p i : ℕ) (s s₁ : State) → run f.N s (row_of (is_table f p) p (f.cell p i).row) ≡ went s₁
    → run f.N s (leaf_cell f plain_tree p i (f.cell p i)) ≡ run f.N s₁ (payload_events f p (f.cell p i))
cell-plain f p i s s₁ e = cell-goes f plain_tree p i s s₁ e ∙ go (run f.N s₁ (payload_events f p (f.cell p i))) refl
  where
    go : (o : Outcome) → run f.N s₁ (payload_events f p (f.cell p i)) ≡ o → run f.N s₁ (leaf_rest f plain_tree p i) ≡ run f.N s₁ (payload_events f p (f.cell p i))
    go (went s₂) k = rest-payload-goes f plain_tree p i s₁ s₂ k ∙ last-plain f plain_tree p i s₂ refl ∙ sym k
    go (refused x y) k = rest-payload-stops f plain_tree p i s₁ x y k ∙ sym k

-- so the cells of an index leaf are their payloads: one cell, then all
module _ (f : File) (p : ℕ) (index : is_table f p ≡ false) where
  index-next : (k i : ℕ) (s : State) → i < f.count p
      → ((s₁ : State) → run f.N s₁ (leaf_events f plain_tree p (i + 1) (rest_of f p (i + 1))) ≡ run f.N s₁ (payloads_in f p (i + 1) k))
      → run f.N s (leaf_events f plain_tree p i (rest_of f p i)) ≡ run f.N s (payloads_in f p i (suc k))
  unfolding payloads_in
  index-next k i s l rest = go (run f.N s (payload_events f p (f.cell p i))) refl
    where
      cell : run f.N s (leaf_cell f plain_tree p i (f.cell p i)) ≡ run f.N s (payload_events f p (f.cell p i))
      cell = cell-plain f p i s s (row-none f p (f.cell p i).row s index)

      go : (o : Outcome) → run f.N s (payload_events f p (f.cell p i)) ≡ o
          → run f.N s (leaf_events f plain_tree p i (rest_of f p i)) ≡ run f.N s (payload_events f p (f.cell p i) ++ payloads_in f p (i + 1) k)
      go (went s₁) h =
          leaf-goes f plain_tree p i s l s₁ (cell ∙ h) ∙ rest s₁ ∙ sym (then-went f.N s s₁ (payload_events f p (f.cell p i)) (payloads_in f p (i + 1) k) h)
      go (refused x y) h =
          leaf-stops f plain_tree p i s l x y (cell ∙ h) ∙ sym (then-refused f.N s x y (payload_events f p (f.cell p i)) (payloads_in f p (i + 1) k) h)

  rows-index : (k i : ℕ) (s : State) → i + k ≡ f.count p → run f.N s (leaf_events f plain_tree p i (rest_of f p i)) ≡ run f.N s (payloads_in f p i k)
  rows-index zero i s e = leaf-end f plain_tree p i s (omega arith) ∙ (unfold payloads_in in sym (run_none f.N s))
  rows-index (suc k) i s e = index-next k i s (omega arith) (λ s₁. rows-index k (i + 1) s₁ (omega arith))

-- and those of a table leaf whose rows rise are their payloads, where the first row may follow, with the last row read in the end: one cell, then all
module _ (f : File) (p least next from to : ℕ) (q : CalmAt f p least next from to) where
  -- every row comes before the next one
  row_before : is_table f p ≡ true → (k i : ℕ) → i + suc k ≡ f.count p → (f.cell p i).row < next
  row_before t zero i e =
      let j : i ≡ f.count p - 1 = omega arith in let r : (f.cell p i).row ≡ (f.cell p (f.count p - 1)).row = ap (λ n. (f.cell p n).row) j in
      omega (arith, r, q.ends t (omega arith))
  row_before t (suc k) i e = omega (arith, row_before t k (i + 1) (omega arith), q.rises t i (omega arith))

  pub first-before : is_table f p ≡ true → 0 < f.count p → (f.cell p 0).row < next
  first-before t l = row_before t (f.count p - 1) 0 (omega arith)

  -- the last row that is read
  abbrev last : ℕ
  last = next - 1

  module _ (table : is_table f p ≡ true) where
    table-next : (k i : ℕ) (s : State) → i < f.count p → follows s.last (a_row (f.cell p i).row) ≡ true
        → ((s₁ : State) → run f.N (order s₁ (some (a_row (f.cell p i).row))) (leaf_events f plain_tree p (i + 1) (rest_of f p (i + 1)))
        ≡ marked (some (a_row last)) (run f.N s₁ (payloads_in f p (i + 1) k)))
        → run f.N s (leaf_events f plain_tree p i (rest_of f p i)) ≡ marked (some (a_row last)) (run f.N s (payloads_in f p i (suc k)))
    unfolding payloads_in
    table-next k i s l h rest = go (run f.N s (payload_events f p (f.cell p i))) refl
      where
        m : Option Mark
        m = some (a_row (f.cell p i).row)

        cell : run f.N s (leaf_cell f plain_tree p i (f.cell p i)) ≡ marked m (run f.N s (payload_events f p (f.cell p i)))
        cell = cell-plain f p i s (order s m) (row_goes f p (f.cell p i).row s table h) ∙ still-payload f p (f.cell p i) s m

        go : (o : Outcome) → run f.N s (payload_events f p (f.cell p i)) ≡ o
            → run f.N s (leaf_events f plain_tree p i (rest_of f p i)) ≡ marked (some (a_row last)) (run f.N s (payload_events f p (f.cell p i) ++ payloads_in f p (i + 1) k))
        go (went s₁) z =
            leaf-goes f plain_tree p i s l (order s₁ m) (cell ∙ ap (marked m) z)
            ∙ rest s₁
            ∙ ap (marked (some (a_row last))) (sym (then-went f.N s s₁ (payload_events f p (f.cell p i)) (payloads_in f p (i + 1) k) z))
        go (refused x y) z =
            leaf-stops f plain_tree p i s l x y (cell ∙ ap (marked m) z)
            ∙ ap (marked (some (a_row last))) (sym (then-refused f.N s x y (payload_events f p (f.cell p i)) (payloads_in f p (i + 1) k) z))

    rows-table : (k i : ℕ) (s : State) → i + suc k ≡ f.count p → follows s.last (a_row (f.cell p i).row) ≡ true
        → run f.N s (leaf_events f plain_tree p i (rest_of f p i)) ≡ marked (some (a_row last)) (run f.N s (payloads_in f p i (suc k)))
    rows-table zero i s e h =
        let j : i ≡ f.count p - 1 = omega arith in let w : (f.cell p i).row ≡ (f.cell p (f.count p - 1)).row = ap (λ n. (f.cell p n).row) j in
        let r : (f.cell p i).row ≡ last = omega (arith, w, q.ends table (omega arith)) in
        table-next 0 i s (omega arith) h λ s₁.
        leaf-end f plain_tree p (i + 1) (order s₁ (some (a_row (f.cell p i).row))) (omega arith)
        ∙ ap (λ n. went (order s₁ (some (a_row n)))) r
        ∙ (unfold payloads_in in sym (ap (marked (some (a_row last))) (run_none f.N s₁)))
    rows-table (suc k) i s e h = table-next (suc k) i s (omega arith) h λ s₁.
        rows-table k (i + 1) (order s₁ (some (a_row (f.cell p i).row))) (omega arith) (lt-ltb _ _ (q.rises table i (omega arith)))
        ∙ ap (marked (some (a_row last))) (still-payloads f p (i + 1) (suc k) s₁ (some (a_row (f.cell p i).row)))
        ∙ marked-twice (some (a_row last)) (some (a_row (f.cell p i).row)) (run f.N s₁ (payloads_in f p (i + 1) (suc k)))

  -- payloads of cells before `from` and from `to` on change nothing
  calm-payload : (s : State) (i : ℕ) → i < f.count p → (i < from) ⊎ (to ≤ i) → run f.N s (payload_events f p (f.cell p i)) ≡ went s
  calm-payload s i l w =
      payload-reads f p (f.cell p i) s s (ap (run f.N s) (no-chain f p (f.cell p i).links (f.cell p i).first (q.links i l w)) ∙ run_none f.N s) (q.reads i l w)

  calm-payloads : (s : State) → run f.N s (payloads_in f p 0 (f.count p)) ≡ run f.N s (payloads_in f p from (to - from))
  calm-payloads s = payloads-all f p (f.count p) from to q.within calm-payload s

  -- a calm leaf whose first row may follow: nothing; on an index leaf the payloads; on a table leaf the payloads, and the last row was read last
  module _ (s : State) where
    all-rows : run f.N s (leaf_events f plain_tree p 0 (cells_of f p)) ≡ run f.N s (leaf_events f plain_tree p 0 (rest_of f p 0))
    all-rows = ap (λ l. run f.N s (leaf_events f plain_tree p 0 l)) (rest_all f p)

    pub quick-none : f.count p ≡ 0 → run f.N s (leaf_events f plain_tree p 0 (cells_of f p)) ≡ went s
    quick-none z = all-rows ∙ leaf-end f plain_tree p 0 s (omega arith)

    pub quick-index : is_table f p ≡ false → run f.N s (leaf_events f plain_tree p 0 (cells_of f p)) ≡ run f.N s (payloads_in f p from (to - from))
    quick-index t = all-rows ∙ rows-index f p t (f.count p) 0 s (omega arith) ∙ calm-payloads s

    module _ (some-cell : 0 < f.count p) where
      pub quick-goes : is_table f p ≡ true → follows s.last (a_row (f.cell p 0).row) ≡ true
          → run f.N s (leaf_events f plain_tree p 0 (cells_of f p)) ≡ marked (some (a_row (next - 1))) (run f.N s (payloads_in f p from (to - from)))
      quick-goes t h =
          let n : 0 + suc (f.count p - 1) ≡ f.count p = omega arith in let m : suc (f.count p - 1) ≡ f.count p = omega arith in
          all-rows
          ∙ rows-table t (f.count p - 1) 0 s n h
          ∙ ap (λ n. marked (some (a_row last)) (run f.N s (payloads_in f p 0 n))) m
          ∙ ap (marked (some (a_row last))) (calm-payloads s)

      pub quick-stops : (is_table f p ≡ true → follows s.last (a_row (f.cell p 0).row) ≡ true) → (x y : ℕ)
          → run f.N s (payloads_in f p from (to - from)) ≡ refused x y → run f.N s (leaf_events f plain_tree p 0 (cells_of f p)) ≡ refused x y
      quick-stops e x y h = go (is_table f p) refl
        where
          go : (t : Bool) → is_table f p ≡ t → run f.N s (leaf_events f plain_tree p 0 (cells_of f p)) ≡ refused x y
          go true t = quick-goes t (e t) ∙ ap (marked (some (a_row last))) h
          go false t = quick-index t ∙ h
