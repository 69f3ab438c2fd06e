-- The ways a cell is read, as the code goes: a law for each.
use Prim.Native.Nat.{ℕ, ◌+◌, ◌<◌, ◌≤◌}
use mathlib.Core.Path.{◌≡◌}
use mathlib.Core.List.{List}
use native.Mathlib.Nat.{pos_of_ne-zero}
use borrow.Author.Tests.{lt-ltb, le-ltb, eq-eqb, ne_eqb}
use Rattle.number.specs.Bytes.{be, biased}
use Rattle.number.specs.Varint.{varint_at, long_of}
use Rattle.number.specs.declared.Word.{Word}
use Rattle.number.proofs.VarintLaws.{varint-whole}
use Rattle.number.proofs.Cases.{cond_yes, cond_no}
use Rattle.cell.specs.declared.Cell as D
use Rattle.cell.specs.Split.{table_interior, table_leaf, payload_limit, local_size}
use Rattle.cell.specs.Cell.{child_width, child_at, refused_cell, at_least4, local_end, first_at, key_cell, body_cell, payload_cell, cell_at}

abbrev pub cell_of : (child payload row start local first end long : ℕ) → D.Cell
cell_of child payload row start local first end long =
    record { fault = 0; child = child; payload = payload; row = row; start = start; local = local; first = first; end = end; long = long }

module _ (p : List ℕ) (u type at P row start long l m e : ℕ)
    (is-l : l ≡ local_size u type P) (is_m : m ≡ local_end start l P) (is-e : e ≡ at_least4 at m) where
  end_is : e ≡ at_least4 at (local_end start (local_size u type P) P)
  end_is = rw (← is-l, ← is_m) is-e

  pub body_refused : (r : D.Cell) → u < e → r ≡ refused_cell 23 → r ≡ body_cell p u type at P row start long
  unfolding body_cell
  body_refused r h k = cond_yes _ _ _ _ (lt-ltb _ _ (rw end_is at h)) k

  pub body-read : (child first : ℕ) → e ≤ u → child ≡ child_at p type at → first ≡ first_at p start l P
      → cell_of child P row start l first e long ≡ body_cell p u type at P row start long
  unfolding body_cell
  body-read child first h c f = cond_no _ _ _ _ (le-ltb _ _ (rw end_is at h)) (rw (c, f, end_is, is-l))

-- a varint that is not short ends at or before the end
pub word-within : (p : List ℕ) (at end : ℕ) (w : Word) → w ≡ varint_at p at end → (w.length ≡ 0 → ⊥) → at + w.length ≤ end
word-within p at end w e h = rw e (varint-whole p at end (rw e at (pos_of_ne-zero h))).ends

-- a table interior page's cell, by the varint w of its key
module _ (p : List ℕ) (u at : ℕ) (w : Word) (is-w : w ≡ varint_at p (at + 4) u) where
  pub key-short : (r : D.Cell) → w.length ≡ 0 → r ≡ refused_cell 23 → r ≡ key_cell p u at
  key-short r h k = cond_yes _ _ _ _ (eq-eqb _ _ (rw is-w at h)) k

-- a cell with a payload, whose length ends at `next`
module _ (p : List ℕ) (u type at P next long : ℕ) where
  pub payload-over : (r : D.Cell) → payload_limit < P → r ≡ refused_cell 26 → r ≡ payload_cell p u type at P next long
  unfolding payload_cell
  payload-over r h k = cond_yes _ _ _ _ (lt-ltb _ _ h) k

  pub payload-index : (r : D.Cell) → P ≤ payload_limit → (type ≡ table_leaf → ⊥) → r ≡ body_cell p u type at P 0 next long
      → r ≡ payload_cell p u type at P next long
  unfolding payload_cell
  payload-index r h n k = cond_no _ _ _ _ (le-ltb _ _ h) (cond_no _ _ _ _ (ne_eqb _ _ n) k)

  module _ (h : P ≤ payload_limit) (t : type ≡ table_leaf) (w : Word) (is-w : w ≡ varint_at p next u) where
    pub row-short : (r : D.Cell) → w.length ≡ 0 → r ≡ refused_cell 23 → r ≡ payload_cell p u type at P next long
    unfolding payload_cell
    row-short r s k =
        cond_no _ _ _ _ (le-ltb _ _ h) (cond_yes _ _ _ _ (eq-eqb _ _ t) (cond_yes _ _ _ _ (eq-eqb _ _ (rw is-w at s)) k))

    pub row_read : (r : D.Cell) (row more : ℕ) → (w.length ≡ 0 → ⊥) → row ≡ biased w.bits → more ≡ long_of w
        → r ≡ body_cell p u type at P row (next + w.length) (long + more) → r ≡ payload_cell p u type at P next long
    unfolding payload_cell
    row_read r row more s e l k =
        cond_no _ _ _ _ (le-ltb _ _ h) (cond_yes _ _ _ _ (eq-eqb _ _ t) (cond_no _ _ _ _ (ne_eqb _ _ (rw is-w at s)) (rw (e, l, is-w) at k)))

-- a cell
module _ (p : List ℕ) (u type at m : ℕ) (is_m : m ≡ child_width type) where
  pub cell-past : (r : D.Cell) → u < at + m → r ≡ refused_cell 23 → r ≡ cell_at p u type at
  unfolding cell_at
  cell-past r h k = cond_yes _ _ _ _ (lt-ltb _ _ (rw is_m at h)) k

  module _ (h : at + m ≤ u) where
    pub cell-key : (r : D.Cell) → type ≡ table_interior → r ≡ key_cell p u at → r ≡ cell_at p u type at
    unfolding cell_at
    cell-key r t k = cond_no _ _ _ _ (le-ltb _ _ (rw is_m at h)) (cond_yes _ _ _ _ (eq-eqb _ _ t) k)

    module _ (n : type ≡ table_interior → ⊥) (w : Word) (is-w : w ≡ varint_at p (at + m) u) where
      word-is : w ≡ varint_at p (at + child_width type) u
      word-is = rw is_m at is-w

      pub length-short : (r : D.Cell) → w.length ≡ 0 → r ≡ refused_cell 23 → r ≡ cell_at p u type at
      unfolding cell_at
      length-short r s k =
          cond_no _ _ _ _ (le-ltb _ _ (rw is_m at h)) (cond_no _ _ _ _ (ne_eqb _ _ n) (cond_yes _ _ _ _ (eq-eqb _ _ (rw word-is at s)) k))

      pub length-read : (r : D.Cell) (long : ℕ) → (w.length ≡ 0 → ⊥) → long ≡ long_of w
          → r ≡ payload_cell p u type at w.bits (at + m + w.length) long
          → r ≡ cell_at p u type at
      unfolding cell_at
      length-read r long s l k =
          cond_no _ _ _ _ (le-ltb _ _ (rw is_m at h))
          (cond_no _ _ _ _ (ne_eqb _ _ n) (cond_no _ _ _ _ (ne_eqb _ _ (rw word-is at s)) (rw (l, word-is, is_m) at k)))
