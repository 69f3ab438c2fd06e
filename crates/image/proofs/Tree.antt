-- Tree pages of an image: what a check of one needs, and what it gives.
use Prim.Native.Nat.{ℕ, ◌+◌, ◌-◌, ◌*◌, ◌≤◌, ◌<◌}
use mathlib.Core.Path.{◌≡◌, refl, sym, ap, ◌∙◌}
use mathlib.Core.Bool.{cond}
use mathlib.Core.List.{List}
use lib.Dec.{eqb, ltb}
use native.Mathlib.Omega.{arith}
use Rattle.header.specs.declared.Header.{Header}
use Rattle.header.specs.Header.{size_of, usable_of, page_of}
use Rattle.number.specs.Bytes.{be, biased}
use Rattle.number.specs.Varint.{varint_bits, varint_length}
use Rattle.number.proofs.Cases.{by_cond}
use Rattle.cell.specs.declared.Cell as D
use Rattle.cell.specs.Split.{index_interior, table_interior}
use Rattle.cell.specs.Cell.{child_width, refused_cell, key_cell, cell_at}
use Rattle.cell.proofs.CellLaws.{CellRead}
use Rattle.page.specs.Header.{page_type, cell_count, pointer, pointer_place, cell_of}
use Rattle.page.proofs.PageLaws.{Checks, sound-checks}
use Rattle.dealing.specs.File as F
use Rattle.image.specs.Pages.{page_in, head_of, cell_in}
use Rattle.image.specs.Image.{file_of}
use Rattle.image.specs.Ready.{Opened, PageAt}
use Rattle.image.proofs.Shape.{shape}
use Rattle.image.proofs.Fields.{type-field, broken-field, count-field, cell_field}

-- the page that is read is page p
pub page_is : {b : List ℕ} {h : Header} (p : ℕ) (q : List ℕ) → Opened b h → q ≡ page_of b h.size p → q ≡ page_in b p
page_is {b} {h} p q o e = e ∙ ap (λ z. page_of b z p) (shape o).size_is

-- a child takes four bytes, where there is one
pub width-4 : (kind : ℕ) → (child_width kind ≡ 0 → ⊥) → child_width kind ≡ 4
width-4 kind =
    by_cond (λ (n : ℕ). (n ≡ 0 → ⊥) → n ≡ 4) (eqb kind index_interior) 4 (cond (eqb kind table_interior) 4 0) (λ e n. refl)
    (λ e. by_cond (λ (n : ℕ). (n ≡ 0 → ⊥) → n ≡ 4) (eqb kind table_interior) 4 0 (λ e n. refl) (λ e n. absurd (n refl)))

-- the key of a table interior page's cell that reads
key_row : (q : List ℕ) (u at : ℕ) → (cell_at q u table_interior at).fault ≡ 0 → biased (varint_bits q (at + 4) u) ≡ (cell_at q u table_interior at).row
unfolding cell_at
key_row q u at =
    by_cond Key (ltb u (at + 4)) (refused_cell 23) (key_cell q u at) (λ e z. absurd (omega arith))
    (λ e. by_cond Key (eqb (varint_length q (at + 4) u) 0) _ _ (λ e z. absurd (omega arith)) (λ e z. refl))
  where
    Key : D.Cell → Type 0
    Key c = c.fault ≡ 0 → biased (varint_bits q (at + 4) u) ≡ c.row

module _ {b : List ℕ} {h : Header} {p : ℕ} (a : PageAt b h p) (sound : (file_of b).broken p ≡ 0) where
  pub checks : Checks (page_in b p) (usable_of b) (head_of p)
  checks = let s = shape a.opened in let e = s.usable_is in sound-checks (page_in b p) (usable_of b) (head_of p) (omega arith) (sym (broken-field b p) ∙ sound)

  -- a cell that can be read again
  pub cell-reads : (i : ℕ) → i < (file_of b).count p
      → CellRead (page_in b p) (usable_of b) ((file_of b).type p) (pointer (page_in b p) (head_of p) i) (cell_in b p i)
  unfolding file_of cell_in
  cell-reads i l = checks.read i l

  pub pointer-inside : (q : List ℕ) (u head i : ℕ) → q ≡ page_in b p → u ≡ h.usable → head ≡ head_of p → i < (file_of b).count p
      → pointer_place q head i + 2 ≤ u
  unfolding file_of
  pointer-inside q u head i e f g l = rw (e, f, g, (shape a.opened).usable_is) (let c = checks.array in omega arith)

  -- cell i of an interior page q whose header begins at `head`: its pointer, its child, and on a table page its key
  module _ (q : List ℕ) (head i : ℕ) (e : q ≡ page_in b p) (g : head ≡ head_of p) (l : i < (file_of b).count p) (inner : child_width ((file_of b).type p) ≡ 4) where
    place_is : head + 12 + 2 * i ≡ pointer_place (page_in b p) (head_of p) i
    unfolding file_of
    place_is = rw g (let w = inner in omega arith)

    pub inner-inside : head + 12 + 2 * i + 2 ≤ h.usable
    inner-inside = let k = pointer-inside (page_in b p) h.usable (head_of p) i refl refl refl l in omega (arith, place_is)

    at-is : be 2 q (head + 12 + 2 * i) ≡ pointer (page_in b p) (head_of p) i
    at-is = ap (λ x. be 2 x (head + 12 + 2 * i)) e ∙ ap (be 2 (page_in b p)) place_is

    pub inner-within : be 2 q (head + 12 + 2 * i) + 4 ≤ h.usable
    inner-within = let c = cell-reads i l in let s = shape a.opened in omega (arith, at-is, c.least, c.within, s.usable_is)

    pub inner-child : be 4 q (be 2 q (head + 12 + 2 * i)) ≡ ((file_of b).cell p i).child
    inner-child =
        ap (be 4 q) at-is
        ∙ ap (λ x. be 4 x (pointer (page_in b p) (head_of p) i)) e
        ∙ sym (ap (λ n. cond (eqb n 0) 0 (be 4 (page_in b p) (pointer (page_in b p) (head_of p) i))) inner)
        ∙ sym (cell-reads i l).child-is
        ∙ sym (ap (λ (c : F.Cell). c.child) (cell_field b p i))

    pub inner-key : (file_of b).type p ≡ table_interior → biased (varint_bits q (be 2 q (head + 12 + 2 * i) + 4) h.usable) ≡ ((file_of b).cell p i).row
    unfolding cell_in
    inner-key t =
        let k : page_type (page_in b p) (head_of p) ≡ table_interior = sym (type-field b p) ∙ t in
        ap (λ x. biased (varint_bits q (x + 4) h.usable)) at-is
        ∙ ap (λ x. biased (varint_bits x (pointer (page_in b p) (head_of p) i + 4) h.usable)) e
        ∙ ap (λ u. biased (varint_bits (page_in b p) (pointer (page_in b p) (head_of p) i + 4) u)) (shape a.opened).usable_is
        ∙ key_row (page_in b p) (usable_of b) (pointer (page_in b p) (head_of p) i) (ap (λ k. (cell_at (page_in b p) (usable_of b) k (pointer (page_in b p) (head_of p) i)).fault) (sym k) ∙ (cell-reads i l).no-fault)
        ∙ ap (λ k. (cell_at (page_in b p) (usable_of b) k (pointer (page_in b p) (head_of p) i)).row) (sym k)
        ∙ sym (ap (λ (c : F.Cell). c.row) (cell_field b p i))

  -- a leaf's cell has none
  pub leaf-child : (i : ℕ) → i < (file_of b).count p → child_width ((file_of b).type p) ≡ 0 → 0 ≡ ((file_of b).cell p i).child
  leaf-child i l z =
      sym (ap (λ n. cond (eqb n 0) 0 (be 4 (page_in b p) (pointer (page_in b p) (head_of p) i))) z)
      ∙ sym (cell-reads i l).child-is
      ∙ sym (ap (λ (c : F.Cell). c.child) (cell_field b p i))
