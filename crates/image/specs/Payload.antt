-- The payload of a cell: its local bytes, then the bytes of its chain's pages in order.
use Rattle.std.specs.Prelude.{ℕ, zero, suc, ◌-◌, List, [], ◌∷◌, ◌++◌, take}
use Rattle.number.specs.Bytes.{be, part}
use Rattle.header.specs.Header.{usable_of}
use Rattle.cell.specs.declared.Cell.{Cell}
use Rattle.cell.specs.Cell.{cell_links}
use Rattle.image.specs.Pages.{page_in, cell_in}

-- an overflow page: the number of the next page, then U - 4 bytes of payload
abbrev pub next_in : List ℕ → (p : ℕ) → ℕ
next_in b p = be 4 (page_in b p) 0

abbrev pub chunk_in : List ℕ → (p : ℕ) → List ℕ
chunk_in b p = part (page_in b p) 4 (usable_of b - 4)

-- what overflow pages hold of a payload, one page after the other
unfoldable pub chunks_of : List ℕ → (pages : List ℕ) → List ℕ
chunks_of b [] = []
chunks_of b (p ∷ ps) = chunk_in b p ++ chunks_of b ps

-- the `rest` bytes that a chain of n pages from page t on holds
unfoldable pub chain_bytes : List ℕ → (n rest t : ℕ) → List ℕ
chain_bytes b zero rest t = []
chain_bytes b (suc n) rest t = take rest (chunk_in b t) ++ chain_bytes b n (rest - (usable_of b - 4)) (next_in b t)

-- the payload of a cell c of page p; that of the page's cell i
abbrev pub cell_bytes : List ℕ → (p : ℕ) → Cell → List ℕ
cell_bytes b p c =
    part (page_in b p) c.start c.local ++ chain_bytes b (cell_links (usable_of b) c) (c.payload - c.local) c.first

unfoldable pub payload_of : List ℕ → (p i : ℕ) → List ℕ
payload_of b p i = cell_bytes b p (cell_in b p i)
