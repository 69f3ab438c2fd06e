-- Pages that were written, as the file of an image b has them: what `Good` asks of a page is here without its bytes.
--     LeafIn, leaf-in      a table leaf: type, no fault, count, cells, payloads
--     InnerIn, inner-in    a table interior page: type, no fault, count, cells, right child
-- Assumes nothing.
use Prim.Native.Nat.{ℕ, suc, ◌+◌, ◌-◌, ◌^◌, ◌<◌, ◌≤◌}
use mathlib.Core.Path.{◌≡◌, refl, sym, ap, ◌∙◌, subst}
use mathlib.Core.Bool.{true, false, cond}
use mathlib.Core.List.{List, [], ◌∷◌, ◌++◌, map}
use mathlib.Core.Logic.{⊎_elim}
use native.Mathlib.Nat.{add-zero, zero-add}
use native.Mathlib.Omega.{arith}
use lib.Dec.{eqb}
use lib.ListN.{length, get_or, take, length-drop, take-append-drop}
use borrow.Author.Tests.{eqb-true}
use Rattle.number.specs.Bytes.{part, bias_of}
use Rattle.number.proofs.Cases.{true-or-false}
use Rattle.number.proofs.VarintReading.{Stands}
use Rattle.header.specs.Header.{usable_of}
use Rattle.cell.specs.declared.Cell as D
use Rattle.cell.specs.Split.{table_interior, table_leaf, chain_length}
use Rattle.cell.specs.Cell.{cell_links}
use Rattle.cell.proofs.SplitLaws.{chain-none, chain-holds}
use Rattle.dealing.specs.File as F
use Rattle.dealing.specs.File.{cells_from, cells_of}
use Rattle.image.specs.Pages.{page_in, head_of, cell_in}
use Rattle.image.specs.Payload.{chain_bytes, payload_of}
use Rattle.compare.specs.Values.{values_of, list_of}
use Rattle.record.specs.Record.{reads_of}
use Rattle.image.specs.Image.{file_of}
use Rattle.image.proofs.Fields.{type-field, broken-field, count-field, right-field, cell_field}
use Rattle.writing.specs.Cells.{local_of, leaf_at, child_at}
use Rattle.writing.specs.Pages.{room_for}
use Rattle.writing.specs.Rows.{Row, Child, no_row, no_child, row_cells, key_cells, leaf_page, inner_page, AllRows, AllChildren, rest_of}
use Rattle.writing.specs.Rows.{links_of, chain_of, file_row, file_child}
use Rattle.writing.specs.Groups.{Each}
use Rattle.writing.proofs.Standing.{stands_self}
use Rattle.writing.proofs.PagesSound.{page-length}
use Rattle.writing.proofs.RowsLaid.{row_place, key_place, LeafLaid, leaf-laid, InnerLaid, inner-laid}
use Rattle.writing.proofs.ChainRead.{InImage, chain-bytes}
use Rattle.writing.proofs.Members.{each_at}

-- cells one by one are the list of them
cells-from : {A : Type 0} (f : F.File) (q : ℕ) (g : A → F.Cell) (d : A) (l : List A) (i : ℕ)
    → ((j : ℕ) → j < length l → f.cell q (i + j) ≡ g (get_or l j d)) → cells_from f q i (length l) ≡ map g l
unfolding cells_from
cells-from f q g d [] i h = refl
cells-from f q g d (x ∷ l) i h =
    let e : f.cell q i ≡ g x = rw add-zero at (h 0 (omega arith)) in
    ap (λ c. c ∷ cells_from f q (suc i) (length l)) e
    ∙ ap (λ cs. g x ∷ cs)
    (cells-from f q g d l (suc i) (λ j k. let m : i + suc j ≡ suc i + j = omega arith in rw m at (h (suc j) (omega arith))))

cells-all : {A : Type 0} (f : F.File) (q : ℕ) (g : A → F.Cell) (d : A) (l : List A) → f.count q ≡ length l
    → ((j : ℕ) → j < length l → f.cell q j ≡ g (get_or l j d)) → cells_of f q ≡ map g l
unfolding cells_of
cells-all f q g d l e h =
    ap (cells_from f q 0) e ∙ cells-from f q g d l 0 (λ j k. ap (f.cell q) (zero-add j) ∙ h j k)

-- a cell of the file, by its fields and its payload
abbrev cell_as : (u : ℕ) → D.Cell → List ℕ → F.Cell
cell_as u c bytes =
    record {
      child = c.child;
      row = c.row;
      length = c.payload;
      links = cell_links u c;
      first = c.first;
      long = c.long;
      reads = reads_of bytes;
      key = list_of (values_of bytes);
    }

cell-as : (b : List ℕ) (q i : ℕ) → (file_of b).cell q i ≡ cell_as (usable_of b) (cell_in b q i) (payload_of b q i)
unfolding payload_of
cell-as b q i = cell_field b q i

-- the overflow pages of a row are in the image, side by side from its first page on
pub record ChainIn (b : List ℕ) (u : ℕ) (r : Row) : Type 0 where
  pub pages : InImage b r.first (chain_of u (links_of u r.payload) r.first (rest_of u r.payload))
  pub small : r.first + links_of u r.payload < 2 ^ 32

-- ---- leaves

pub record LeafIn (b : List ℕ) (u q : ℕ) (rows : List Row) : Type 0 where
  pub type-is : (file_of b).type q ≡ table_leaf
  pub sound : (file_of b).broken q ≡ 0
  pub count_is : (file_of b).count q ≡ length rows
  pub cell_is : (i : ℕ) → i < length rows → (file_of b).cell q i ≡ file_row u (get_or rows i no_row)
  pub cells_are : cells_of (file_of b) q ≡ map (file_row u) rows
  pub payload-is : (i : ℕ) → i < length rows → payload_of b q i ≡ (get_or rows i no_row).payload

pub record InnerIn (b : List ℕ) (q : ℕ) (cs : List Child) (right : ℕ) : Type 0 where
  pub type-is : (file_of b).type q ≡ table_interior
  pub sound : (file_of b).broken q ≡ 0
  pub count_is : (file_of b).count q ≡ length cs
  pub cell_is : (i : ℕ) → i < length cs → (file_of b).cell q i ≡ file_child (get_or cs i no_child)
  pub cells_are : cells_of (file_of b) q ≡ map file_child cs
  pub right_is : (file_of b).right q ≡ right

module _ (b : List ℕ) (u q : ℕ) (usable : usable_of b ≡ u) (least : 480 ≤ u) (most : u ≤ 65536) where
  module _ (front : List ℕ) (rows : List Row) (head-is : head_of q ≡ length front) (room : room_for (length front) table_leaf (row_cells u rows) ≤ u)
      (all : AllRows rows) (chains : Each (ChainIn b u) rows) (page : page_in b q ≡ leaf_page u front rows) where
    leaf : LeafLaid (page_in b q) u (length front) rows
    leaf =
        leaf-laid (page_in b q) u front rows least most (rw page (omega (arith, page-length u front table_leaf 0 (row_cells u rows) room))) room all
        (subst (λ p. Stands p 0 (leaf_page u front rows)) (sym page) (stands_self (leaf_page u front rows)))

    module _ (i : ℕ) (l : i < length rows) where
      abbrev r : Row
      r = get_or rows i no_row

      abbrev P : ℕ
      P = length r.payload

      abbrev L : ℕ
      L = local_of u r.payload

      cell-in : cell_in b q i ≡ leaf_at u r.number r.payload r.first (row_place u rows i)
      unfolding cell_in
      cell-in = rw (usable, head-is) (leaf.cell_is i l)

      local-in : part (page_in b q) (cell_in b q i).start (cell_in b q i).local ≡ take L r.payload
      unfolding cell_in
      local-in = rw (usable, head-is) (leaf.local-is i l)

      rest-length : length (rest_of u r.payload) ≡ P - L
      rest-length = length-drop L r.payload

      chain : ChainIn b u r
      chain = each_at (ChainIn b u) rows i no_row l chains

      rest_in : chain_bytes b (links_of u r.payload) (P - L) r.first ≡ rest_of u r.payload
      rest_in =
          ap (λ k. chain_bytes b (links_of u r.payload) k r.first) (sym rest-length)
          ∙ chain-bytes b u usable least (links_of u r.payload) r.first (rest_of u r.payload)
          (omega (arith, rest-length, chain-holds u (P - L) least)) chain.small chain.pages

      -- where all is local there is no chain, and its first page is not read
      none_in : L ≡ P → (t : ℕ) → chain_bytes b (links_of u r.payload) (P - L) t ≡ chain_bytes b (links_of u r.payload) (P - L) r.first
      unfolding chain_bytes
      none_in e t =
          let z : P - L ≡ 0 = omega arith in
          let n : links_of u r.payload ≡ 0 = ap (chain_length u) z ∙ chain-none u least in
          rw n

      first-in : chain_bytes b (links_of u r.payload) (P - L) (cond (eqb L P) 0 r.first)
          ≡ chain_bytes b (links_of u r.payload) (P - L) r.first
      first-in =
          ⊎_elim
          (λ (e : eqb L P ≡ true). none_in (eqb-true L P e) (cond (eqb L P) 0 r.first))
          (λ (e : eqb L P ≡ false). ap (λ x. chain_bytes b (links_of u r.payload) (P - L) (cond x 0 r.first)) e)
          (true-or-false (eqb L P))

      payload-in : payload_of b q i ≡ r.payload
      unfolding payload_of
      payload-in =
          ap (λ x. x ++ chain_bytes b (cell_links (usable_of b) (cell_in b q i)) ((cell_in b q i).payload - (cell_in b q i).local)
          (cell_in b q i).first) local-in
          ∙ ap (λ (c : D.Cell). take L r.payload ++ chain_bytes b (cell_links (usable_of b) c) (c.payload - c.local) c.first) cell-in
          ∙ ap (λ v. take L r.payload ++ chain_bytes b (chain_length v (P - L)) (P - L) (cond (eqb L P) 0 r.first)) usable
          ∙ ap (λ x. take L r.payload ++ x) (first-in ∙ rest_in)
          ∙ take-append-drop L r.payload

      cell-file : (file_of b).cell q i ≡ file_row u r
      cell-file =
          cell-as b q i ∙ ap (cell_as (usable_of b) (cell_in b q i)) payload-in ∙ ap (λ c. cell_as (usable_of b) c r.payload) cell-in
          ∙ ap (λ v. cell_as v (leaf_at u r.number r.payload r.first (row_place u rows i)) r.payload) usable

    count-in : (file_of b).count q ≡ length rows
    count-in = count-field b q ∙ rw head-is leaf.count_is

    pub leaf-in : LeafIn b u q rows
    leaf-in =
        record {
          type-is = type-field b q ∙ rw head-is leaf.type-is;
          sound = broken-field b q ∙ rw (usable, head-is) leaf.no-fault;
          count_is = count-in;
          cell_is = cell-file;
          cells_are = cells-all (file_of b) q (file_row u) no_row rows count-in cell-file;
          payload-is = payload-in;
        }

  -- ---- interior pages
  module _ (cs : List Child) (right : ℕ) (head-is : head_of q ≡ 0) (room : room_for 0 table_interior (key_cells cs) ≤ u) (all : AllChildren cs)
      (right-fits : right < 2 ^ 32) (page : page_in b q ≡ inner_page u cs right) where
    inner : InnerLaid (page_in b q) u cs right
    inner =
        inner-laid (page_in b q) u cs right most (rw page (omega (arith, page-length u [] table_interior right (key_cells cs) room))) room all right-fits
        (subst (λ p. Stands p 0 (inner_page u cs right)) (sym page) (stands_self (inner_page u cs right)))

    module _ (i : ℕ) (l : i < length cs) where
      abbrev c : Child
      c = get_or cs i no_child

      key_in : cell_in b q i ≡ child_at c.page c.key (key_place u cs i)
      unfolding cell_in
      key_in = rw (usable, head-is) (inner.cell_is i l)

      -- it has no payload
      key-payload : payload_of b q i ≡ []
      unfolding payload_of chain_bytes
      key-payload =
          ap (λ (x : D.Cell). part (page_in b q) x.start x.local
          ++ chain_bytes b (cell_links (usable_of b) x) (x.payload - x.local) x.first) key_in
          ∙ ap (λ v. chain_bytes b (chain_length v 0) 0 0) usable ∙ ap (λ n. chain_bytes b n 0 0) (chain-none u least)

      key-file : (file_of b).cell q i ≡ file_child c
      key-file =
          cell-as b q i ∙ ap (cell_as (usable_of b) (cell_in b q i)) key-payload ∙ ap (λ x. cell_as (usable_of b) x []) key_in
          ∙ ap (λ v. cell_as v (child_at c.page c.key (key_place u cs i)) []) usable
          ∙ ap (λ n. record {
            child = c.page;
            row = bias_of c.key;
            length = 0;
            links = n;
            first = 0;
            long = 0;
            reads = reads_of [];
            key = list_of (values_of []);
          }) (chain-none u least)

    keys_in : (file_of b).count q ≡ length cs
    keys_in = count-field b q ∙ rw head-is inner.count_is

    pub inner-in : InnerIn b q cs right
    inner-in =
        record {
          type-is = type-field b q ∙ rw head-is inner.type-is;
          sound = broken-field b q ∙ rw (usable, head-is) inner.no-fault;
          count_is = keys_in;
          cell_is = key-file;
          cells_are = cells-all (file_of b) q file_child no_child cs keys_in key-file;
          right_is = right-field b q ∙ rw head-is inner.right_is;
        }
