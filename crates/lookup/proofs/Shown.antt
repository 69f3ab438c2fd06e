-- What an answer says of any image, good or not: the cell shown is a leaf cell that carries the row number, the length shown is that of the payload
-- that is then fetched, and the length copied is the payload's.
-- Assumes nothing.
use Prim.Native.Nat.{ℕ, zero, suc, ◌+◌, ◌≤◌, ◌<◌}
use mathlib.Core.Path.{◌≡◌, refl, sym, ap, ◌∙◌, subst}
use mathlib.Core.Bool.{Bool, true, false, cond}
use mathlib.Core.Logic.{⊎_elim}
use mathlib.Core.List.{List}
use lib.Dec.{eqb, leb, ltb}
use lib.IntN.{ℤ}
use lib.ListN.{length}
use native.Mathlib.Nat.{zero-add}
use native.Mathlib.Omega.{arith}
use borrow.Author.Tests.{eqb-true, ltb-true, leb-true}
use Rattle.number.specs.Bytes.{bias_of}
use Rattle.number.proofs.Cases.{true-or-false}
use Rattle.header.specs.Header.{usable_of, header_of, header_refusal}
use Rattle.page.specs.declared.Place.TheVariants.{TablePage, PayloadPage}
use Rattle.page.specs.Place.{allowed}
use Rattle.page.specs.Fault.{page_fault}
use Rattle.page.proofs.PageLaws.{page-none}
use Rattle.dealing.specs.File.{File, Cell, Page, cells_from, cells_of, leaf_type, is_leaf, table_page, level_limit}
use Rattle.dealing.specs.Walk.{in_range, fault_in}
use Rattle.dealing.specs.Lookup.{Answer, shows, refuses, child_for, cell_for, unless, lookup_page, lookup, Followed, whole, stops, follow_cell}
use Rattle.dealing.proofs.Passed.{in-range}
use Rattle.cell.specs.Cell.{cell_links}
use Rattle.image.specs.Pages.{page_in, head_of, cell_in}
use Rattle.image.specs.Payload.{payload_of}
use Rattle.image.specs.Image.{file_of}
use Rattle.image.specs.Ready.{PageAt}
use Rattle.image.proofs.Shape.{shape}
use Rattle.image.proofs.Fields.{type-field, broken-field, cell_field}
use Rattle.payload.proofs.CopyLaws.{cell-length, payload-is}
use Rattle.lookup.specs.Answers.{found_of, lookup_of, room_for, along, cell_fetched, or_fault, page_fetched, fetched_of}
use Rattle.lookup.specs.Ready.{CellOn}
use Rattle.lookup.specs.Found as Fo
use Rattle.lookup.specs.Fetched as Fe
use Rattle.lookup.proofs.Ways.{fault-table, readable, fetchable, cell-at, page-there, Fit}
use Rattle.lookup.proofs.Theorems.{opened-image, shown}

-- ---- lookup
-- cell i of page q is a leaf cell that carries the row number x, with a payload of n bytes
pub record ShownCell (f : File) (x q i n : ℕ) : Type 0 where
  pub page : Page f q
  pub fit : fault_in f table_page q ≡ 0
  pub leaf : is_leaf f q ≡ true
  pub index : i < f.count q
  pub row : (f.cell q i).row ≡ x
  pub is-length : n ≡ (f.cell q i).length

module _ (f : File) (x q i n : ℕ) where
  -- among the cells of page p from index j on
  among : (p k j : ℕ) → j + k ≡ f.count p → Page f p → fault_in f table_page p ≡ 0 → is_leaf f p ≡ true
      → cell_for x p j (cells_from f p j k) ≡ shows q i n → ShownCell f x q i n
  unfolding cell_for cells_from
  among p zero j c h g l e = absurd (let z : ◌≡◌ {A = ℕ} 0 1 = cc in omega arith)
  among p (suc k) j c h g l e = go (among p k (suc j) (omega arith) h g l) (eqb (f.cell p j).row x) refl e
    where
      go : (cell_for x p (suc j) (cells_from f p (suc j) k) ≡ shows q i n → ShownCell f x q i n)
          → (t : Bool) → eqb (f.cell p j).row x ≡ t → cond t (shows p j (f.cell p j).length) (cell_for x p (suc j) (cells_from f p (suc j) k)) ≡ shows q i n
          → ShownCell f x q i n
      go rest true t e =
          let e₀ : p ≡ q = cc in
          let e₁ : j ≡ i = cc in
          let e₂ : n ≡ (f.cell p j).length = cc in
          subst (λ q. ShownCell f x q i n) e₀ (subst (λ i. ShownCell f x p i n) e₁ (record {
            page = h;
            fit = g;
            leaf = l;
            index = omega arith;
            row = eqb-true _ _ t;
            is-length = e₂;
          }))
      go rest false t e = rest e

  fault-none : (k p : ℕ) (a : Answer) → unless k p a ≡ shows q i n → (k ≡ 0) × (a ≡ shows q i n)
  fault-none zero p a e = (refl, e)
  fault-none (suc k) p a e = absurd (let z : ◌≡◌ {A = ℕ} 0 1 = cc in omega arith)

  below : (levels p : ℕ) → Page f p → lookup_page f levels p x ≡ shows q i n → ShownCell f x q i n
  unfolding lookup_page cells_of
  below zero p h e = absurd (let z : ◌≡◌ {A = ℕ} 0 1 = cc in omega arith)
  below (suc l) p h e =
      let w = fault-none (fault_in f table_page p) p _ e in
      ⊎_elim
      (λ (t : is_leaf f p ≡ true). among p (f.count p) 0 (zero-add (f.count p)) h w.0 t (rw t at w.1))
      (λ (t : is_leaf f p ≡ false). down (below l child) (in_range f.N child) refl (rw t at w.1))
      (true-or-false (is_leaf f p))
    where
      child : ℕ
      child = child_for x (f.right p) (cells_from f p 0 (f.count p))

      down : (Page f child → lookup_page f l child x ≡ shows q i n → ShownCell f x q i n) → (t : Bool) → in_range f.N child ≡ t → cond t (lookup_page f l child x) (refuses 20 p) ≡ shows q i n → ShownCell f x q i n
      down next true t e = next (in-range f.N child t) e
      down next false t e = absurd (let z : ◌≡◌ {A = ℕ} 0 1 = cc in omega arith)

  from-root : (root : ℕ) → lookup f root x ≡ shows q i n → ShownCell f x q i n
  unfolding lookup
  from-root root e = go (in_range f.N root) refl e
    where
      go : (t : Bool) → in_range f.N root ≡ t → cond t (lookup_page f level_limit root x) (refuses 20 0) ≡ shows q i n → ShownCell f x q i n
      go true t e = below level_limit root (in-range f.N root t) e
      go false t e = absurd (let z : ◌≡◌ {A = ℕ} 0 1 = cc in omega arith)

-- a cell that lookup shows, of any image
pub shown-cell : (b : List ℕ) (root : ℕ) (row : ℤ) (q i n : ℕ) → lookup_of b root row ≡ Fo.At q i n
    → (header_refusal b ≡ 0) × ShownCell (file_of b) (bias_of row) q i n
unfolding lookup_of
shown-cell b root row q i n e = go (eqb (header_refusal b) 0) refl e
  where
    go : (t : Bool) → eqb (header_refusal b) 0 ≡ t → cond t (found_of (lookup (file_of b) root (bias_of row))) (Fo.Refused (header_refusal b) 0) ≡ Fo.At q i n
        → (header_refusal b ≡ 0) × ShownCell (file_of b) (bias_of row) q i n
    go true t e = (eqb-true _ _ t, from-root (file_of b) (bias_of row) q i n root (shown q i n (lookup (file_of b) root (bias_of row)) e))
    go false t e = absurd (let z : ◌≡◌ {A = ℕ} 0 1 = cc in omega arith)

leaf-table : (t : ℕ) → allowed TablePage t ≡ true → leaf_type t ≡ true → t ≡ 13
unfolding allowed
leaf-table t a l =
    ⊎_elim (λ (y : eqb t 13 ≡ true). eqb-true t 13 y)
    (λ (n : eqb t 13 ≡ false).
    ⊎_elim (λ (y : eqb t 5 ≡ true). absurd (let z : ◌≡◌ {A = ℕ} 0 1 = (let e : t ≡ 5 = eqb-true t 5 y in let w = rw e at l in cc) in omega arith))
    (λ (x : eqb t 5 ≡ false). absurd (let z : ◌≡◌ {A = ℕ} 0 1 = (let w = rw (x, n) at a in cc) in omega arith)) (true-or-false (eqb t 5)))
    (true-or-false (eqb t 13))

leaf-payload : (t : ℕ) → t ≡ 13 → allowed PayloadPage t ≡ true
unfolding allowed
leaf-payload t e = rw e

-- its payload, asked for, is refused by its chain or for want of room only; else it has the length shown
pub shown-fetched : (b : List ℕ) (root : ℕ) (row : ℤ) (q i n room : ℕ) → lookup_of b root row ≡ Fo.At q i n
    → fetched_of b q i room ≡ along (follow_cell (file_of b) q ((file_of b).cell q i).links ((file_of b).cell q i).first) (room_for n room)
unfolding cell_fetched is_leaf
shown-fetched b root row q i n room e =
    let f = file_of b in
    let w = shown-cell b root row q i n e in
    let c = w.1 in
    let o = opened-image b w.0 in
    let s = shape o in
    let at : PageAt b (header_of b) q = record { opened = o; low = c.page.0; high = omega (arith, s.N-is, c.page.1) } in
    let g = (page-none TablePage (page_in b q) (usable_of b) (head_of q)).0 (sym (fault-table b q) ∙ c.fit) in
    let t : f.type q ≡ 13 = leaf-table (f.type q) (ap (allowed TablePage) (type-field b q) ∙ g.0) c.leaf in
    let a : allowed PayloadPage (f.type q) ≡ true = leaf-payload (f.type q) t in
    let fits : Fit PayloadPage at (f.type q) (f.count q) (f.right q) = record {
      tree = record { at = at; kind_is = refl; sound = broken-field b q ∙ g.1; count_is = refl };
      right_is = refl;
      none = (page-none PayloadPage (page_in b q) (usable_of b) (head_of q)).1 (ap (allowed PayloadPage) (sym (type-field b q)) ∙ a, g.1);
      suits-place = a;
    } in
    sym (page-there b q i room at (cell_fetched f q (f.cell q i) room) (cell-at at i room fits (cell_fetched f q (f.cell q i) room) c.index refl))
    ∙ ap (λ m. along (follow_cell f q (f.cell q i).links (f.cell q i).first) (room_for m room)) (sym c.is-length)

-- ---- payloads
module _ (m : ℕ) where
  passed : (t : Bool) (x : Fe.Fetched) (k q : ℕ) → cond t x (Fe.Refused k q) ≡ Fe.Copied m → (t ≡ true) × (x ≡ Fe.Copied m)
  passed true x k q e = (refl, e)
  passed false x k q e = absurd (let z : ◌≡◌ {A = ℕ} 0 1 = cc in omega arith)

  no-fault : (k q : ℕ) (x : Fe.Fetched) → or_fault k q x ≡ Fe.Copied m → (k ≡ 0) × (x ≡ Fe.Copied m)
  no-fault zero q x e = (refl, e)
  no-fault (suc k) q x e = absurd (let z : ◌≡◌ {A = ℕ} 0 1 = cc in omega arith)

  no_stop : (w : Followed) (x : Fe.Fetched) → along w x ≡ Fe.Copied m → (w ≡ whole) × (x ≡ Fe.Copied m)
  no_stop whole x e = (refl, e)
  no_stop (stops k q) x e = absurd (let z : ◌≡◌ {A = ℕ} 0 1 = cc in omega arith)

-- the length copied is that of the payload, which had room
pub copied-length : (b : List ℕ) (q i room m : ℕ) → fetched_of b q i room ≡ Fe.Copied m
    → (m ≡ length (payload_of b q i)) × (m ≡ ((file_of b).cell q i).length) × (m ≤ room)
unfolding fetched_of page_fetched cell_fetched
copied-length b q i room m e =
    let f = file_of b in
    let c = cell_in b q i in
    let t1 = passed m (eqb (header_refusal b) 0) _ _ _ e in
    let t2 = passed m (in_range f.N q) _ _ _ t1.1 in
    let t3 = no-fault m (page_fault PayloadPage (page_in b q) (usable_of b) (head_of q)) q _ t2.1 in
    let t4 = passed m (ltb i (f.count q)) _ _ _ t3.1 in
    let t5 = no_stop m (follow_cell f q (f.cell q i).links (f.cell q i).first) _ t4.1 in
    let t6 = passed m (leb (f.cell q i).length room) _ _ _ t5.1 in
    let o = opened-image b (eqb-true _ _ t1.0) in
    let s = shape o in
    let r = in-range f.N q t2.0 in
    let at : PageAt b (header_of b) q = record { opened = o; low = r.0; high = omega (arith, s.N-is) } in
    let sound : f.broken q ≡ 0 = broken-field b q ∙ ((page-none PayloadPage (page_in b q) (usable_of b) (head_of q)).0 t3.0).1 in
    let on : CellOn b (header_of b) q i c = readable at sound (ltb-true _ _ t4.0) refl in
    let k = ap (λ (x : Cell). follow_cell f q x.links x.first) (cell_field b q i) in
    let chain : follow_cell f q (cell_links (header_of b).usable c) c.first ≡ whole =
    ap (λ u. follow_cell f q (cell_links u c) c.first) s.usable_is ∙ sym k ∙ t5.0 in
    let is : (f.cell q i).length ≡ m = same_length (f.cell q i).length m t6.1 in
    let n : (f.cell q i).length ≡ c.payload = ap (λ (x : Cell). x.length) (cell_field b q i) in
    let len : length (payload_of b q i) ≡ c.payload =
    ap length (payload-is b q i) ∙ cell-length b (header_of b) q c c.payload (fetchable on (cell_links (header_of b).usable c) refl c.payload chain (omega arith)) in
    let l : (f.cell q i).length ≤ room = leb-true _ _ t6.0 in
    (omega arith, sym is, omega arith)
  where
    same_length : (x y : ℕ) → Fe.Copied x ≡ Fe.Copied y → x ≡ y
    same_length x y e = cc
