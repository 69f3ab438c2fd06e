-- What the parts of `local_cell` and `reads_at` say of one another.
use Rattle.std.specs.Prelude.{ℕ, ◌+◌, ◌<◌, ◌≤◌, ◌≡◌, List, length}
use Rattle.number.specs.Bytes.{byte_at, biased}
use Rattle.number.specs.Varint.{varint_at, varint_length, varint_bits, long_of}
use Rattle.cell.specs.Split.{index_leaf, table_leaf}

-- b begins with a header of h bytes, whose length takes one
pub record Headed (b : List ℕ) (h : ℕ) : Type 0 where
  pub some : 1 ≤ h
  pub small : h < 128
  pub within : h ≤ length b
  pub first : h ≡ byte_at b 0

-- a table leaf's row number stands at `from`, not spelled long
pub record RowAt (p : List ℕ) (u from start row : ℕ) : Type 0 where
  pub some : varint_length p from u ≡ 0 → ⊥
  pub short : long_of (varint_at p from u) ≡ 0
  pub ends : start ≡ from + varint_length p from u
  pub number : row ≡ biased (varint_bits p from u)

-- behind a payload's length that ends at `from` the payload begins at `start`, on a leaf of that type
pub record Begins (p : List ℕ) (u type from start row : ℕ) : Type 0 where
  pub after : from ≤ start
  pub within : start ≤ u
  pub table : type ≡ table_leaf → RowAt p u from start row
  pub index : (type ≡ table_leaf → ⊥) → (type ≡ index_leaf) × (start ≡ from) × (row ≡ 0)
