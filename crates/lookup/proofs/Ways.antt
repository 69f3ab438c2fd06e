-- The ways of lookup and of fetching a payload, as the code goes.
-- Assumes nothing.
use Prim.Native.Nat.{ℕ, zero, suc, ◌+◌, ◌-◌, ◌<◌, ◌≤◌}
use mathlib.Core.Path.{◌≡◌, refl, sym, ap, ◌∙◌, subst}
use mathlib.Core.Bool.{true, false}
use mathlib.Core.Logic.{◌⊎◌, inl, inr, ⊎_elim, ◌≢◌}
use mathlib.Core.List.{List, ◌++◌}
use lib.Dec.{eqb}
use lib.IntN.{ℤ}
use lib.ListN.{drop}
use native.Mathlib.Omega.{arith}
use borrow.Author.Tests.{eq-eqb, eqb-true, le-leb, lt-leb, lt-ltb, le-ltb}
use Rattle.number.specs.Bytes.{bias_of}
use Rattle.number.proofs.Cases.{true-or-false}
use Rattle.header.specs.declared.Header.{Header}
use Rattle.refusal.specs.declared.Rule.{Rule}
use Rattle.refusal.specs.Rule.{number_of}
use Rattle.refusal.proofs.Laws.{number-some}
use Rattle.header.specs.Header.{usable_of, pages_of, header_refusal}
use Rattle.cell.specs.declared.Cell as C
use Rattle.cell.proofs.CellLaws.{CellRead, cell-read}
use Rattle.page.specs.declared.Place.{Place}
use Rattle.page.specs.declared.Place.TheVariants.{TablePage, PayloadPage}
use Rattle.page.specs.Checked as K
use Rattle.page.specs.Header.{page_type, pointer}
use Rattle.page.specs.Place.{allowed}
use Rattle.page.specs.Fault.{page_fault, checked_of}
use Rattle.page.proofs.PageLaws.{page-none, answer-page, answer-refused}
use Rattle.dealing.specs.File.{File, Cell, cells_of, is_leaf, table_page, level_limit}
use Rattle.dealing.specs.Walk.{in_range, fault_in}
use Rattle.dealing.specs.Lookup.{shows, child_for, cell_for, lookup_page, lookup, Followed, whole, stops, follow_cell}
use Rattle.dealing.proofs.WalkLaws.{rest_of, rest_all}
use Rattle.dealing.proofs.Passed.{in-range, range-in}
use Rattle.dealing.proofs.LookupLaws.{lookup-inside, lookup-deep, lookup-fault, lookup-leaf, lookup-lost, lookup-down, cell-here, cell-on, child-here, child-on}
use Rattle.cell.specs.Cell.{cell_links}
use Rattle.image.specs.Pages.{page_in, head_of, cell_in}
use Rattle.image.specs.Payload.{cell_bytes, payload_of}
use Rattle.image.specs.Image.{file_of, file_cell}
use Rattle.image.specs.Ready.{Opened, PageAt}
use Rattle.image.proofs.Shape.{shape}
use Rattle.image.proofs.Faults.{fault-same, suits-same}
use Rattle.image.proofs.Fields.{type-field, broken-field, count-field, right-field, cell_field}
use Rattle.image.proofs.Tree.{checks, cell-reads}
use Rattle.payload.specs.Copy.{Fetchable}
use Rattle.payload.proofs.CopyLaws.{payload-is}
use Rattle.lookup.specs.Answers.{found_of, lookup_of, room_for, along, cell_fetched, or_fault, page_fetched, fetched_of}
use Rattle.lookup.specs.Ready.{TreeAt, CellOn, opening_refusal}
use Rattle.lookup.specs.Found as Fo
use Rattle.lookup.specs.Fetched as Fe

-- the cells of a page that was checked
module _ {b : List ℕ} {h : Header} {p kind count : ℕ} (t : TreeAt b h p kind count) where
  pub few-cells : count ≤ 65536
  few-cells =
      let s = shape t.at.opened in
      let a = (checks t.at t.sound).array in
      omega (arith, t.count_is, count-field b p)

  module _ (i : ℕ) (c : C.Cell) (less : i < count) (is : c ≡ cell_in b p i) where
    pub index_in : i < (file_of b).count p
    index_in = let e = t.count_is in omega arith

    pub length-few : c.payload ≤ 65536
    length-few = let r = cell-reads t.at t.sound i index_in in omega (arith, r.limit, ap (λ (c : C.Cell). c.payload) is)

    pub same : (file_of b).cell p i ≡ file_cell b p c
    same = cell_field b p i ∙ ap (file_cell b p) (sym is)

    module _ (row : ℕ) where
      pub cell-found : c.row ≡ row → cell_for row p 0 (cells_of (file_of b) p) ≡ cell_for row p i (rest_of (file_of b) p i)
          → Fo.At p i c.payload ≡ found_of (cell_for row p 0 (cells_of (file_of b) p))
      cell-found e k =
          sym (ap found_of (k ∙ cell-here (file_of b) row p i index_in (ap (λ (c : Cell). c.row) same ∙ e) ∙ ap (λ (c : Cell). shows p i c.length) same))

      pub cell-passed : c.row ≢ row → cell_for row p i (rest_of (file_of b) p i) ≡ cell_for row p (i + 1) (rest_of (file_of b) p (i + 1))
      cell-passed n = cell-on (file_of b) row p i index_in (λ e. n (sym (ap (λ (c : Cell). c.row) same) ∙ e))

      pub child-found : row ≤ c.row → child_for row ((file_of b).right p) (rest_of (file_of b) p i) ≡ c.child
      child-found l =
          let e = ap (λ (c : Cell). c.row) same in
          child-here (file_of b) row p i index_in (omega arith) ∙ ap (λ (c : Cell). c.child) same

      pub child-passed : c.row < row
          → child_for row ((file_of b).right p) (rest_of (file_of b) p i) ≡ child_for row ((file_of b).right p) (rest_of (file_of b) p (i + 1))
      child-passed l = let e = ap (λ (c : Cell). c.row) same in child-on (file_of b) row p i index_in (omega arith)

-- no page of the image
pub outside : (n p : ℕ) → in_range n p ≡ false → 1 ≤ p → p ≤ n → ⊥
outside n p e l m = let t = range-in n p l m in cc

-- a page of the image
pub page-in-range : {b : List ℕ} {h : Header} (p : ℕ) → Opened b h → in_range h.pages p ≡ true → PageAt b h p
page-in-range {b} {h} p o t = let k = in-range h.pages p t in record { opened = o; low = k.0; high = k.1 }

pub page-at : {b : List ℕ} {h : Header} (p : ℕ) → Opened b h → p ≢ 0 → p ≤ h.pages → PageAt b h p
page-at p o z l = record { opened = o; low = omega arith; high = l }

-- ---- a page checked
-- the fault of a page of a table tree, as the file has it
pub fault-table : (b : List ℕ) (p : ℕ) → fault_in (file_of b) table_page p ≡ page_fault TablePage (page_in b p) (usable_of b) (head_of p)
fault-table b p = sym (fault-same b p TablePage table_page (suits-same table_page))

module _ (place : Place) {b : List ℕ} {h : Header} {p : ℕ} (a : PageAt b h p) where
  pub refused-at : (number : ℕ) → K.Refused number ≡ checked_of place (page_in b p) h.usable (head_of p)
      → (number ≡ page_fault place (page_in b p) (usable_of b) (head_of p)) × (number ≢ 0)
  refused-at number e =
      let s = shape a.opened in
      let w = answer-refused place (page_in b p) (usable_of b) (head_of p) number
      (subst (λ u. K.Refused number ≡ checked_of place (page_in b p) u (head_of p)) s.usable_is e) in
      (w.0, λ z. w.1 (sym w.0 ∙ z))

  -- the page was found fit
  pub record Fit (kind count right : ℕ) : Type 0 where
    pub tree : TreeAt b h p kind count
    pub right_is : right ≡ (file_of b).right p
    pub none : page_fault place (page_in b p) (usable_of b) (head_of p) ≡ 0
    pub suits-place : allowed place kind ≡ true

  pub fit_at : (kind count right : ℕ) → K.Page kind count right ≡ checked_of place (page_in b p) h.usable (head_of p) → Fit kind count right
  fit_at kind count right e =
      let s = shape a.opened in
      let w = answer-page place (page_in b p) (usable_of b) (head_of p) kind count right
      (subst (λ u. K.Page kind count right ≡ checked_of place (page_in b p) u (head_of p)) s.usable_is e) in
      record {
        tree = record {
          at = a;
          kind_is = w.kind_is ∙ sym (type-field b p);
          sound = broken-field b p ∙ ((page-none place (page_in b p) (usable_of b) (head_of p)).0 w.none).1;
          count_is = w.count_is ∙ sym (count-field b p);
        };
        right_is = w.right_is ∙ sym (right-field b p);
        none = w.none;
        suits-place = ap (allowed place) w.kind_is ∙ w.suits;
      }

-- ---- lookup
pub table-types : (t : ℕ) → allowed TablePage t ≡ true → t ≢ 13 → t ≡ 5
unfolding allowed
table-types t e n =
    ⊎_elim (λ (y : eqb t 5 ≡ true). eqb-true t 5 y)
    (λ (x : eqb t 5 ≡ false). absurd (n (eqb-true t 13 (rw x at e)))) (true-or-false (eqb t 5))

pub leaf_type : (f : File) (p kind : ℕ) → kind ≡ f.type p → kind ≡ 13 → is_leaf f p ≡ true
unfolding is_leaf
leaf_type f p kind e k = rw (← e, k)

pub inner_type : (f : File) (p kind : ℕ) → kind ≡ f.type p → kind ≡ 5 → is_leaf f p ≡ false
unfolding is_leaf
inner_type f p kind e k = rw (← e, k)

module _ {b : List ℕ} {h : Header} {p : ℕ} (a : PageAt b h p) (levels row : ℕ) where
  pub found-deep : levels ≡ 0 → Fo.Refused 24 p ≡ found_of (lookup_page (file_of b) levels p row)
  found-deep z = sym (ap found_of (lookup-deep (file_of b) levels p row z))

  module _ (some : levels ≢ 0) where
    pub found-refused : (number : ℕ) → K.Refused number ≡ checked_of TablePage (page_in b p) h.usable (head_of p)
        → Fo.Refused number p ≡ found_of (lookup_page (file_of b) levels p row)
    found-refused number e =
        let w = refused-at TablePage a number e in
        let q : number ≡ fault_in (file_of b) table_page p = w.0 ∙ sym (fault-table b p) in
        ap (λ n. Fo.Refused n p) q ∙ sym (ap found_of (lookup-fault (file_of b) levels p row some (λ z. w.1 (q ∙ z))))

    module _ {kind count right : ℕ} (w : Fit TablePage a kind count right) where
      fit : fault_in (file_of b) table_page p ≡ 0
      fit = fault-table b p ∙ w.none

      pub leaf-found : (r : Fo.Found) → kind ≡ 13 → r ≡ found_of (cell_for row p 0 (cells_of (file_of b) p)) → r ≡ found_of (lookup_page (file_of b) levels p row)
      leaf-found r k e =
          e
          ∙ ap (λ l. found_of (cell_for row p 0 l)) (rest_all (file_of b) p)
          ∙ sym (ap found_of (lookup-leaf (file_of b) levels p row some fit (leaf_type (file_of b) p kind w.tree.kind_is k)))

      module _ (k : kind ≢ 13) where
        pub inner-kind : kind ≡ 5
        inner-kind = table-types kind w.suits-place k

        pub inner-tree : TreeAt b h p 5 count
        inner-tree =
            record { at = w.tree.at; kind_is = sym inner-kind ∙ w.tree.kind_is; sound = w.tree.sound; count_is = w.tree.count_is }

        module _ (child : ℕ) (is : child ≡ child_for row ((file_of b).right p) (cells_of (file_of b) p)) where
          child-is : child ≡ child_for row ((file_of b).right p) (rest_of (file_of b) p 0)
          child-is = is ∙ ap (child_for row ((file_of b).right p)) (rest_all (file_of b) p)

          not-leaf : is_leaf (file_of b) p ≡ false
          not-leaf = inner_type (file_of b) p kind w.tree.kind_is inner-kind

          pub child-lost : in_range h.pages child ≡ false → Fo.Refused 20 p ≡ found_of (lookup_page (file_of b) levels p row)
          child-lost out =
              let s = shape a.opened in
              sym (ap found_of (lookup-lost (file_of b) levels p row some fit child child-is not-leaf (λ l m. outside _ _ out l (omega (arith, s.N-is)))))

          pub child-down : (r : Fo.Found) → in_range h.pages child ≡ true → r ≡ found_of (lookup_page (file_of b) (levels - 1) child row)
              → r ≡ found_of (lookup_page (file_of b) levels p row)
          child-down r t e =
              let s = shape a.opened in
              let k = in-range h.pages child t in
              e ∙ sym (ap found_of (lookup-down (file_of b) levels p row some fit child child-is not-leaf k.0 (omega (arith, s.N-is, k.1))))

-- ---- opening an image at a page
-- what it refuses with: 1 to 11, or that the page is missing
pub opening-lost : (b : List ℕ) (p missing : ℕ) (rule : Rule) → number_of rule ≡ opening_refusal b p missing → (P : ℕ → Type 0)
    → (eqb (header_refusal b) 0 ≡ false → P (header_refusal b)) → (eqb (header_refusal b) 0 ≡ true → in_range (pages_of b) p ≡ false → P missing)
    → P (number_of rule)
opening-lost b p missing rule e P headed far = go (true-or-false (eqb (header_refusal b) 0)) (true-or-false (in_range (pages_of b) p))
  where
    go : (eqb (header_refusal b) 0 ≡ true) ⊎ (eqb (header_refusal b) 0 ≡ false) → (in_range (pages_of b) p ≡ true) ⊎ (in_range (pages_of b) p ≡ false)
        → P (number_of rule)
    go (inr y) k = subst P (sym (e ∙ rw y)) (headed y)
    go (inl y) (inr z) = subst P (sym (e ∙ rw (y, z))) (far y z)
    go (inl y) (inl z) = absurd (number-some rule (e ∙ rw (y, z)))

module _ {b : List ℕ} {h : Header} {p : ℕ} (a : PageAt b h p) where
  pub opening-passes : eqb (header_refusal b) 0 ≡ true
  opening-passes = eq-eqb (header_refusal b) 0 a.opened.passes

  pub opening-there : in_range (pages_of b) p ≡ true
  opening-there = let s = shape a.opened in range-in (pages_of b) p a.low (omega (arith, s.pages-is, a.high))

pub open-headed : (b : List ℕ) (p missing n : ℕ) → n ≡ header_refusal b → eqb (header_refusal b) 0 ≡ false → n ≡ opening_refusal b p missing
open-headed b p missing n e y = rw y e

pub open-far : {b : List ℕ} {h : Header} (p missing : ℕ) → Opened b h → in_range h.pages p ≡ false → missing ≡ opening_refusal b p missing
open-far {b} {h} p missing o out =
    let s = shape o in
    rw (eq-eqb (header_refusal b) 0 o.passes, ← s.pages-is, out)

-- ---- the answers of lookup
module _ (b : List ℕ) (root : ℕ) (row : ℤ) where
  pub lookup-refused : (rule : Rule) → number_of rule ≡ opening_refusal b root 20 → Fo.Refused (number_of rule) 0 ≡ lookup_of b root row
  unfolding lookup_of lookup file_of
  lookup-refused rule e = opening-lost b root 20 rule e (λ n. Fo.Refused n 0 ≡ lookup_of b root row) (λ y. rw y) (λ y z. rw (y, z))

  pub opened-lookup : {h : Header} → Opened b h → lookup_of b root row ≡ found_of (lookup (file_of b) root (bias_of row))
  unfolding lookup_of
  opened-lookup o = rw (eq-eqb (header_refusal b) 0 o.passes)

  pub root-down : {h : Header} → PageAt b h root → (r : Fo.Found) (x : ℕ) → x ≡ bias_of row → r ≡ found_of (lookup_page (file_of b) level_limit root x)
      → r ≡ lookup_of b root row
  root-down a r x q e =
      let s = shape a.opened in
      e ∙ ap (λ x. found_of (lookup_page (file_of b) level_limit root x)) q
      ∙ sym (opened-lookup a.opened ∙ ap found_of (lookup-inside (file_of b) root (bias_of row) a.low (omega (arith, s.N-is, a.high))))

-- ---- fetching a payload
-- a cell of a sound page can be read
pub readable : {b : List ℕ} {h : Header} {p i : ℕ} {c : C.Cell} → PageAt b h p → (file_of b).broken p ≡ 0 → i < (file_of b).count p → c ≡ cell_in b p i → CellOn b h p i c
readable {i = i} a sound index is = record { at = a; fault = (cell-reads a sound i index).no-fault; is = is }

module _ {b : List ℕ} {h : Header} {p i : ℕ} {c : C.Cell} (w : CellOn b h p i c) where
  read : CellRead (page_in b p) (usable_of b) (page_type (page_in b p) (head_of p)) (pointer (page_in b p) (head_of p) i) (cell_in b p i)
  unfolding cell_in
  read =
      let s = shape w.at.opened in
      cell-read (page_in b p) (usable_of b) (page_type (page_in b p) (head_of p)) (pointer (page_in b p) (head_of p) i) (omega (arith, s.usable_is)) w.fault

  pub cell-limit : c.payload ≤ 65536
  cell-limit = let r = read in omega (arith, r.limit, ap (λ (c : C.Cell). c.payload) w.is)

  cell_is : (file_of b).cell p i ≡ file_cell b p c
  cell_is = cell_field b p i ∙ ap (file_cell b p) (sym w.is)

  module _ (links : ℕ) (n : links ≡ cell_links h.usable c) (room : ℕ) where
    followed : (r : Followed) → follow_cell (file_of b) p links c.first ≡ r → cell_fetched (file_of b) p ((file_of b).cell p i) room ≡ along r (room_for c.payload room)
    unfolding cell_fetched
    followed r e =
        let s = shape w.at.opened in
        let k : cell_links (usable_of b) c ≡ links = ap (λ u. cell_links u c) (sym s.usable_is) ∙ sym n in
        rw (cell_is, k, e)

    pub fetch-stops : (number page : ℕ) → follow_cell (file_of b) p links c.first ≡ stops number page
        → Fe.Refused number page ≡ cell_fetched (file_of b) p ((file_of b).cell p i) room
    fetch-stops number page e = sym (followed (stops number page) e)

    module _ (e : follow_cell (file_of b) p links c.first ≡ whole) where
      pub fetch-short : room < c.payload → Fe.Refused 44 0 ≡ cell_fetched (file_of b) p ((file_of b).cell p i) room
      fetch-short l = sym (followed whole e ∙ rw (lt-leb c.payload room l))

      pub fetch-copied : c.payload ≤ room → Fe.Copied c.payload ≡ cell_fetched (file_of b) p ((file_of b).cell p i) room
      fetch-copied l = sym (followed whole e ∙ rw (le-leb c.payload room l))

      pub fetchable : c.payload ≤ room → Fetchable b h p c room
      fetchable l =
          let s = shape w.at.opened in
          let r = read in
          let e₁ = ap (λ (c : C.Cell). c.payload) w.is in
          let e₂ = ap (λ (c : C.Cell). c.local) w.is in
          let e₃ = ap (λ (c : C.Cell). c.start) w.is in
          let k : cell_links (usable_of b) c ≡ links = ap (λ u. cell_links u c) (sym s.usable_is) ∙ sym n in
          record {
            at = w.at;
            split = omega (arith, r.part);
            within = omega (arith, r.ends, r.within, s.usable_is);
            chain = ap (λ k. follow_cell (file_of b) p k c.first) k ∙ e;
            fits = l;
          }

  pub fetched-out : (out out' : List ℕ) → out' ≡ cell_bytes b p c ++ drop c.payload out → out' ≡ payload_of b p i ++ drop c.payload out
  fetched-out out out' e = e ∙ ap (λ s. s ++ drop c.payload out) (ap (cell_bytes b p) w.is ∙ sym (payload-is b p i))

module _ {b : List ℕ} {h : Header} {p : ℕ} (a : PageAt b h p) (i room : ℕ) where
  pub page-refused : (number : ℕ) → K.Refused number ≡ checked_of PayloadPage (page_in b p) h.usable (head_of p)
      → Fe.Refused number p ≡ page_fetched b p i room
  unfolding page_fetched
  page-refused number e =
      let w = refused-at PayloadPage a number e in
      rw (← w.0) (go number w.1 _)
    where
      go : (n : ℕ) → n ≢ 0 → (x : Fe.Fetched) → Fe.Refused n p ≡ or_fault n p x
      go zero z x = absurd (z refl)
      go (suc n) z x = refl

  module _ {kind count right : ℕ} (w : Fit PayloadPage a kind count right) where
    pub cell-past : count ≤ i → Fe.Refused 46 0 ≡ page_fetched b p i room
    unfolding page_fetched
    cell-past l = rw (w.none, ← w.tree.count_is, le-ltb i count l)

    pub cell-at : (r : Fe.Fetched) → i < count → r ≡ cell_fetched (file_of b) p ((file_of b).cell p i) room → r ≡ page_fetched b p i room
    unfolding page_fetched
    cell-at r l e = rw (w.none, ← w.tree.count_is, lt-ltb i count l) e

module _ (b : List ℕ) (p i room : ℕ) where
  pub fetch-refused : (rule : Rule) → number_of rule ≡ opening_refusal b p 46 → Fe.Refused (number_of rule) 0 ≡ fetched_of b p i room
  unfolding fetched_of file_of
  fetch-refused rule e = opening-lost b p 46 rule e (λ n. Fe.Refused n 0 ≡ fetched_of b p i room) (λ y. rw y) (λ y z. rw (y, z))

  pub page-there : {h : Header} → PageAt b h p → (r : Fe.Fetched) → r ≡ page_fetched b p i room → r ≡ fetched_of b p i room
  unfolding fetched_of
  page-there a r e = rw (opening-passes a, range-in (file_of b).N p a.low (let s = shape a.opened in omega (arith, s.N-is, a.high))) e
