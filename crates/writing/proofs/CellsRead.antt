-- A cell that was written is read back, wherever it stands on a page.
--     leaf-read, leaf-local      a table leaf cell, and its local bytes
--     child-read                 a table interior cell
--     leaf-length, child-length  how many bytes each takes
-- Assumes nothing.
use Prim.Native.Nat.{ℕ, ◌+◌, ◌-◌, ◌≤◌}
use mathlib.Core.Path.{◌≡◌, refl, ap, ◌∙◌}
use mathlib.Core.Bool.{Bool, true, false, cond}
use mathlib.Core.List.{List, [], ◌++◌}
use native.Mathlib.Nat.{add-zero}
use native.Mathlib.Omega.{arith}
use lib.Dec.{ltb, eqb}
use lib.IntN.{ℤ, pos}
use lib.ListN.{length, take, replicate, length-append, length-replicate}
use lib.Seq.{length-take-le}
use borrow.Author.Tests.{ltb-true, ltb-false, le-ltb, ne_eqb}
use Rattle.number.specs.Bytes.{be, part, word_of, biased}
use Rattle.number.specs.Varint.{word_is, varint_at, varint_size, long_of, shortest}
use Rattle.number.specs.declared.Word.{Word}
use Rattle.number.proofs.Cases.{by_cond}
use Rattle.number.proofs.SignedLaws.{biased-word, word_small}
use Rattle.number.proofs.SpellingLaws.{varint-size}
use Rattle.number.proofs.VarintReading.{Stands}
use Rattle.cell.specs.declared.Cell as D
use Rattle.cell.specs.Split.{table_interior, table_leaf, payload_limit, local_size}
use Rattle.cell.specs.Cell.{refused_cell, at_least4, local_end, first_at, body_cell, payload_cell, cell_at}
use Rattle.cell.proofs.SplitLaws.{local-le}
use Rattle.writing.specs.Cells.{be_bytes, padded, local_of, link_bytes, leaf_fields, leaf_cell, child_cell, RowFits, ChildFits, leaf_start}
use Rattle.writing.specs.Cells.{leaf_at, child_at}
use Rattle.writing.proofs.Standing.{stands-front, stands-past, stands-part, be-length, be-read, shortest-length, varint-read}

-- ---- how many bytes

padded-length : (l : List ℕ) → length (padded l) ≡ length l + (4 - length l)
padded-length l = length-append l (replicate (4 - length l) 0) ∙ ap (λ k. length l + k) (length-replicate (4 - length l) 0)

-- 4 bytes more where a test fails
link-more : (b : Bool) (l : List ℕ) (x : ℕ) → length l ≡ 4 → x + length (cond b [] l) ≡ cond b x (x + 4)
link-more true l x e = add-zero x
link-more false l x e = rw e

padded-ends : (at n m : ℕ) → at + n ≡ m → at + (n + (4 - n)) ≡ at_least4 at m
padded-ends at n m e =
    by_cond (λ k. at + (n + (4 - n)) ≡ k) (ltb m (at + 4)) (at + 4) m (λ t. omega (arith, ltb-true m (at + 4) t))
    (λ t. omega (arith, ltb-false m (at + 4) t))

module _ (u : ℕ) (row : ℤ) (payload : List ℕ) (first : ℕ) (least : 480 ≤ u) where
  pub local-length : length (take (local_of u payload) payload) ≡ local_of u payload
  local-length = length-take-le (local_of u payload) payload (local-le u table_leaf (length payload) least)

  pub fields-length : length (leaf_fields u row payload first)
      ≡ varint_size (length payload) + (varint_size (word_of row) + (local_of u payload + length (link_bytes u payload first)))
  unfolding leaf_fields
  fields-length =
      simp (length-append, shortest-length (pos (length payload)), shortest-length row, local-length)

  -- its fields, and at least 4 bytes
  pub leaf-ends : (at : ℕ) → at + length (leaf_cell u row payload first)
      ≡ at_least4 at (local_end (leaf_start row payload at) (local_of u payload) (length payload))
  unfolding leaf_cell
  leaf-ends at =
      ap (λ k. at + k) (padded-length (leaf_fields u row payload first))
      ∙ padded-ends at (length (leaf_fields u row payload first)) (local_end (leaf_start row payload at) (local_of u payload) (length payload))
      (omega (
        arith,
        fields-length,
        link-more (eqb (local_of u payload) (length payload)) (be_bytes 4 first)
            (leaf_start row payload at + local_of u payload) (be-length 4 first),
      ))

  pub leaf-length : length (leaf_cell u row payload first) ≡ length (leaf_fields u row payload first) + (4 - length (leaf_fields u row payload first))
  unfolding leaf_cell
  leaf-length = padded-length (leaf_fields u row payload first)

  pub leaf-least : 4 ≤ length (leaf_cell u row payload first)
  leaf-least = omega (arith, leaf-length)

-- ---- a table leaf cell is read

body_is : (p : List ℕ) (u at P row start first e long : ℕ) → e ≡ at_least4 at (local_end start (local_size u table_leaf P) P) → e ≤ u
    → first_at p start (local_size u table_leaf P) P ≡ first
    → body_cell p u table_leaf at P row start long
    ≡ record { fault = 0; child = 0; payload = P; row = row; start = start; local = local_size u table_leaf P; first = first; end = e; long = long }
unfolding body_cell
body_is p u at P row start first e long is h f = rw (← is, le-ltb u e h, f)

-- a leaf cell by the words that its row number and its length are read as
abbrev row_body : List ℕ → (u at P next long : ℕ) → Word → D.Cell
row_body p u at P next long w =
    cond (eqb w.length 0) (refused_cell 23) (body_cell p u table_leaf at P (biased w.bits) (next + w.length) (long + long_of w))

abbrev length_body : List ℕ → (u at : ℕ) → Word → D.Cell
length_body p u at w = cond (eqb w.length 0) (refused_cell 23) (payload_cell p u table_leaf at w.bits (at + w.length) (long_of w))

-- the shortest spelling is not long
not-long : (bits : ℕ) → long_of (word_is (varint_size bits) bits) ≡ 0
not-long bits = rw (le-ltb (varint_size bits) (varint_size bits) (omega arith))

module _ (p : List ℕ) (u at P n bits m : ℕ) (c : D.Cell) (limit : P ≤ payload_limit)
    (length_is : varint_at p at u ≡ word_is n P) (some : 1 ≤ n) (row_is : varint_at p (at + n) u ≡ word_is m bits) (more : 1 ≤ m)
    (low : at ≤ u) (body : body_cell p u table_leaf at P (biased bits) (at + n + m) (long_of (word_is n P) + long_of (word_is m bits)) ≡ c) where
  payload-is : payload_cell p u table_leaf at P (at + n) (long_of (word_is n P)) ≡ c
  unfolding payload_cell
  payload-is =
      rw (le-ltb payload_limit P limit)
      (ap (row_body p u at P (at + n) (long_of (word_is n P))) row_is ∙ rw (ne_eqb m 0 (λ z. omega arith)) body)

  cell_is : cell_at p u table_leaf at ≡ c
  unfolding cell_at
  cell_is =
      rw (add-zero at, le-ltb u at low) (ap (length_body p u at) length_is ∙ rw (ne_eqb n 0 (λ z. omega arith)) payload-is)

-- wherever it stands on a page p of u usable bytes
module _ (p : List ℕ) (u : ℕ) (row : ℤ) (payload : List ℕ) (first at : ℕ) (least : 480 ≤ u) (whole : u ≤ length p) (fits : RowFits row payload first)
    (ends : at + length (leaf_cell u row payload first) ≤ u) (stands : Stands p at (leaf_cell u row payload first)) where
  abbrev P : ℕ
  P = length payload

  abbrev L : ℕ
  L = local_of u payload

  fields-end : at + length (leaf_fields u row payload first) ≤ u
  unfolding leaf_cell
  fields-end = omega (arith, padded-length (leaf_fields u row payload first))

  at_fields : Stands p at (shortest (pos P) ++ (shortest row ++ (take L payload ++ link_bytes u payload first)))
  unfolding leaf_cell leaf_fields
  at_fields = stands-front p at (leaf_fields u row payload first) (replicate (4 - length (leaf_fields u row payload first)) 0) stands

  at_row : Stands p (at + varint_size P) (shortest row ++ (take L payload ++ link_bytes u payload first))
  at_row = stands-past p at (varint_size P) (shortest (pos P)) _ (shortest-length (pos P)) at_fields

  at_local : Stands p (leaf_start row payload at) (take L payload ++ link_bytes u payload first)
  at_local = stands-past p (at + varint_size P) (varint_size (word_of row)) (shortest row) _ (shortest-length row) at_row

  at-link : Stands p (leaf_start row payload at + L) (link_bytes u payload first)
  at-link = stands-past p (leaf_start row payload at) L (take L payload) _ (local-length u row payload first least) at_local

  first-is : first_at p (leaf_start row payload at) L P ≡ cond (eqb L P) 0 first
  first-is = by-test (eqb L P) at-link
    where
      by-test : (b : Bool) → Stands p (leaf_start row payload at + L) (cond b [] (be_bytes 4 first))
          → cond b 0 (be 4 p (leaf_start row payload at + L)) ≡ cond b 0 first
      by-test true s = refl
      by-test false s = be-read 4 first p (leaf_start row payload at + L) (omega (arith, fits.link)) s

  -- the cell has no fault, and its fields and its end are those of what was written
  pub leaf-read : cell_at p u table_leaf at ≡ leaf_at u row payload first at
  leaf-read =
      let e = fields-length u row payload first least in
      let z = varint-size P in
      let w = varint-size (word_of row) in
      cell_is p u at P (varint_size P) (word_of row) (varint_size (word_of row)) (leaf_at u row payload first at) fits.limit
      (varint-read P (omega (arith, fits.limit)) p at u whole (omega (arith, e, fields-end))
      (stands-front p at (shortest (pos P)) _ at_fields)) z.0
      (varint-read (word_of row) (word_small row fits.number) p (at + varint_size P) u whole (omega (arith, e, fields-end))
      (stands-front p (at + varint_size P) (shortest row) _ at_row)) w.0
      (omega arith)
      (body_is p u at P (biased (word_of row)) (leaf_start row payload at) (cond (eqb L P) 0 first) (at + length (leaf_cell u row payload first)) _
      (leaf-ends u row payload first least at) ends first-is
      ∙ ap (made (biased (word_of row))) (omega (arith, not-long P, not-long (word_of row))) ∙ ap (λ k. made k 0) (biased-word row fits.number))
    where
      made : (k long : ℕ) → D.Cell
      made k long =
          record {
            fault = 0;
            child = 0;
            payload = P;
            row = k;
            start = leaf_start row payload at;
            local = L;
            first = cond (eqb L P) 0 first;
            end = at + length (leaf_cell u row payload first);
            long = long;
          }

  -- its local bytes are the payload's first
  pub leaf-local : part p (leaf_start row payload at) L ≡ take L payload
  leaf-local =
      stands-part p (leaf_start row payload at) L (take L payload) (local-length u row payload first least)
      (omega (arith, fields-length u row payload first least, fields-end))
      (stands-front p (leaf_start row payload at) (take L payload) _ at_local)

-- ---- a table interior cell

pub child-length : (child : ℕ) (key : ℤ) → length (child_cell child key) ≡ 4 + varint_size (word_of key)
unfolding child_cell
child-length child key = simp (length-append, be-length, shortest-length key)

module _ (p : List ℕ) (u child : ℕ) (key : ℤ) (at : ℕ) (whole : u ≤ length p) (fits : ChildFits child key)
    (ends : at + length (child_cell child key) ≤ u) (stands : Stands p at (child_cell child key)) where
  at-child : Stands p at (be_bytes 4 child ++ shortest key)
  unfolding child_cell
  at-child = stands

  key-is : varint_at p (at + 4) u ≡ word_is (varint_size (word_of key)) (word_of key)
  key-is =
      varint-read (word_of key) (word_small key fits.number) p (at + 4) u whole (omega (arith, child-length child key))
      (stands-past p at 4 (be_bytes 4 child) (shortest key) (be-length 4 child) at-child)

  child-is : be 4 p at ≡ child
  child-is = be-read 4 child p at (omega (arith, fits.page)) (stands-front p at (be_bytes 4 child) (shortest key) at-child)

  pub child-read : cell_at p u table_interior at ≡ child_at child key at
  unfolding cell_at
  child-read =
      let z = varint-size (word_of key) in
      let e : at + 4 + varint_size (word_of key) ≡ at + length (child_cell child key) = omega (arith, child-length child key) in
      rw (le-ltb u (at + 4) (omega arith))
      (ap keyed key-is
      ∙ rw (ne_eqb (varint_size (word_of key)) 0 (λ k. omega arith), child-is, biased-word key fits.number, e, not-long (word_of key)))
    where
      keyed : Word → D.Cell
      keyed w =
          cond (eqb w.length 0) (refused_cell 23)
          (record {
            fault = 0;
            child = be 4 p at;
            payload = 0;
            row = biased w.bits;
            start = 0;
            local = 0;
            first = 0;
            end = at + 4 + w.length;
            long = long_of w;
          })
