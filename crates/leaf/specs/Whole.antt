-- A leaf's cell, and one after which nothing is left to follow: no overflow chain, a record that reads, no number spelled long.
use Rattle.std.specs.Prelude.{ℕ, ◌+◌, ◌≡◌, true, List, ◌⊎◌}
use Rattle.number.specs.Bytes.{part}
use Rattle.record.specs.Record.{reads_of}
use Rattle.cell.specs.declared.Cell.{Cell}
use Rattle.cell.specs.Split.{index_leaf, table_leaf}
use Rattle.cell.specs.Cell.{cell_at}

abbrev pub LeafType : (type : ℕ) → Type 0
LeafType type = (type ≡ table_leaf) ⊎ (type ≡ index_leaf)

-- a cell c of the page p
pub record Whole (p : List ℕ) (c : Cell) : Type 0 where
  pub local : c.local ≡ c.payload
  pub short : c.long ≡ 0
  pub reads : reads_of (part p c.start c.payload) ≡ true

-- the cell at `at` has no refusal and no number spelled long; its size and row number
pub record TakenAt (p : List ℕ) (u type at size row : ℕ) : Type 0 where
  pub fault : (cell_at p u type at).fault ≡ 0
  pub short : (cell_at p u type at).long ≡ 0
  pub end : (cell_at p u type at).end ≡ at + size
  pub number : (cell_at p u type at).row ≡ row

-- and no overflow chain: its payload's place and length
pub record LocalAt (p : List ℕ) (u type at size row start length : ℕ) : Type 0 where
  pub taken : TakenAt p u type at size row
  pub local : (cell_at p u type at).local ≡ (cell_at p u type at).payload
  pub begins : (cell_at p u type at).start ≡ start
  pub payload : (cell_at p u type at).payload ≡ length
