-- What the functions over a cell's payload ask of the cell.
use Rattle.std.specs.Prelude.{ℕ, ◌+◌, ◌≤◌, List}
use Rattle.header.specs.declared.Header.{Header}
use Rattle.cell.specs.declared.Cell.{Cell}
use Rattle.image.specs.Ready.{PageAt}

-- a cell c that was read on page p, a sound page: its local bytes lie there, and it is within the limit
pub record CellAt (b : List ℕ) (h : Header) (p : ℕ) (c : Cell) : Type 0 where
  pub at : PageAt b h p
  pub split : c.local ≤ c.payload
  pub within : c.start + c.local ≤ h.usable
  pub limit : c.payload ≤ 65536
