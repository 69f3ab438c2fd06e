-- The payload of a cell that was read, and when it can be copied.
use Rattle.std.specs.Prelude.{ℕ, ◌+◌, ◌-◌, ◌≤◌, ◌≡◌, List, ◌++◌}
use Rattle.number.specs.Bytes.{part}
use Rattle.header.specs.declared.Header.{Header}
use Rattle.header.specs.Header.{usable_of}
use Rattle.cell.specs.declared.Cell.{Cell}
use Rattle.cell.specs.Split.{chain_length}
use Rattle.cell.specs.Cell.{cell_links}
use Rattle.dealing.specs.Lookup.{whole, follow_cell}
use Rattle.image.specs.Pages.{page_in}
use Rattle.image.specs.Payload.{chain_bytes}
use Rattle.image.specs.Image.{file_of}
use Rattle.image.specs.Ready.{PageAt}

-- the `rest` bytes of a payload that its chain holds, `first` being the chain's first page
abbrev pub rest_bytes : List ℕ → (rest first : ℕ) → List ℕ
rest_bytes b rest first = chain_bytes b (chain_length (usable_of b) rest) rest first

-- the chain of `rest` bytes from page `first` on, a number that some page holds, is followed to its end
abbrev pub Chained : List ℕ → (rest first : ℕ) → Type 0
Chained b rest first = (holder : ℕ) × (follow_cell (file_of b) holder (chain_length (usable_of b) rest) first ≡ whole)

-- cell c of page p has its local bytes on the page, and a whole chain; and there is room for its payload
pub record Fetchable (b : List ℕ) (h : Header) (p : ℕ) (c : Cell) (room : ℕ) : Type 0 where
  pub at : PageAt b h p
  pub split : c.local ≤ c.payload
  pub within : c.start + c.local ≤ h.usable
  pub chain : follow_cell (file_of b) p (cell_links (usable_of b) c) c.first ≡ whole
  pub fits : c.payload ≤ room
