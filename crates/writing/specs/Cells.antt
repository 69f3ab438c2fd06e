-- Cells as they are written, and what each reads as at its place.
use Rattle.std.specs.Prelude.{ℕ, zero, suc, ◌+◌, ◌-◌, ◌/◌, ◌%◌, ◌^◌, ◌<◌, ◌≤◌, cond, List, [], ◌∷◌, ◌++◌, eqb, ℤ, pos, length, take, replicate}
use Rattle.std.specs.Int.{w64}
use Rattle.std.proofs.Common.{SFits}
use Rattle.number.specs.Bytes.{word_of, bias_of}
use Rattle.number.specs.Varint.{varint_size, shortest}
use Rattle.cell.specs.Split.{table_leaf, payload_limit, local_size}
use Rattle.cell.specs.declared.Cell as D

-- n in `width` bytes, the big end first; of a number too large for them its low bytes
unfoldable pub be_bytes : (width n : ℕ) → List ℕ
be_bytes zero n = []
be_bytes (suc k) n = be_bytes k (n / 256) ++ ((n % 256) ∷ [])

-- zeros behind a cell's fields: a cell takes at least 4 bytes
abbrev pub padded : List ℕ → List ℕ
padded l = l ++ replicate (4 - length l) 0

-- how many bytes of a payload stand in its cell
abbrev pub local_of : (u : ℕ) (payload : List ℕ) → ℕ
local_of u payload = local_size u table_leaf (length payload)

-- behind them, where not all are local, the number of the chain's first page
abbrev pub link_bytes : (u : ℕ) (payload : List ℕ) (first : ℕ) → List ℕ
link_bytes u payload first = cond (eqb (local_of u payload) (length payload)) [] (be_bytes 4 first)

-- the fields of a table leaf cell: P, the row number, the local bytes, the link
unfoldable pub leaf_fields : (u : ℕ) (row : ℤ) (payload : List ℕ) (first : ℕ) → List ℕ
leaf_fields u row payload first =
    shortest (pos (length payload)) ++ (shortest row ++ (take (local_of u payload) payload ++ link_bytes u payload first))

unfoldable pub leaf_cell : (u : ℕ) (row : ℤ) (payload : List ℕ) (first : ℕ) → List ℕ
leaf_cell u row payload first = padded (leaf_fields u row payload first)

-- a table interior cell: the child, the key; never under 5 bytes
unfoldable pub child_cell : (child : ℕ) (key : ℤ) → List ℕ
child_cell child key = be_bytes 4 child ++ shortest key

-- a row that a table leaf can hold: a signed 64-bit number, a payload up to the limit, a page number of 4 bytes
pub record RowFits (row : ℤ) (payload : List ℕ) (first : ℕ) : Type 0 where
  pub number : SFits w64 row
  pub limit : length payload ≤ payload_limit
  pub link : first < 2 ^ 32

-- a child that a table interior page can name, with its key
pub record ChildFits (child : ℕ) (key : ℤ) : Type 0 where
  pub number : SFits w64 key
  pub page : child < 2 ^ 32

-- ---- what they read as, at `at`

-- where the local bytes begin
abbrev pub leaf_start : (row : ℤ) (payload : List ℕ) (at : ℕ) → ℕ
leaf_start row payload at = at + varint_size (length payload) + varint_size (word_of row)

abbrev pub leaf_at : (u : ℕ) (row : ℤ) (payload : List ℕ) (first at : ℕ) → D.Cell
leaf_at u row payload first at =
    record {
      fault = 0;
      child = 0;
      payload = length payload;
      row = bias_of row;
      start = leaf_start row payload at;
      local = local_of u payload;
      first = cond (eqb (local_of u payload) (length payload)) 0 first;
      end = at + length (leaf_cell u row payload first);
      long = 0;
    }

abbrev pub child_at : (child : ℕ) (key : ℤ) (at : ℕ) → D.Cell
child_at child key at =
    record {
      fault = 0;
      child = child;
      payload = 0;
      row = bias_of key;
      start = 0;
      local = 0;
      first = 0;
      end = at + length (child_cell child key);
      long = 0;
    }
