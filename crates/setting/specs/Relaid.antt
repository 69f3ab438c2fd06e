-- A table leaf laid anew with one of its cells another: the page, the image, when that may be done, and what all answers are then.
-- Definitions only; dealing/specs/File.antt says how to read them.
use Rattle.std.specs.Prelude.{ℕ, zero, suc, ◌+◌, ◌-◌, ◌*◌, ◌≤◌, ◌<◌, ◌≡◌, true, cond, ◌≢◌, ◌⊎◌, List, [], ◌∷◌, ◌++◌, eqb, ℤ, length, replicate}
use Rattle.std.specs.Int.{w64}
use Rattle.std.proofs.Common.{SFits}
use Rattle.number.specs.Bytes.{byte_at, part}
use Rattle.header.specs.Header.{size_of, usable_of}
use Rattle.paging.specs.Pages.{over}
use Rattle.record.specs.Record.{reads_of}
use Rattle.cell.specs.Split.{table_leaf, max_local}
use Rattle.page.specs.Header.{page_type, cell_count, array_end, pointer, cell_of}
use Rattle.dealing.specs.Good.{Dealing}
use Rattle.dealing.specs.Spelling.{long_in}
use Rattle.image.specs.Pages.{page_in}
use Rattle.image.specs.Payload.{payload_of}
use Rattle.image.specs.Image.{file_of}
use Rattle.image.specs.Good.{TableRoot, PayloadCell, Carries}
use Rattle.altered.specs.Answers.{SameBytes, LikePlaces}
use Rattle.writing.specs.Cells.{be_bytes, leaf_cell}
use Rattle.writing.specs.Pages.{header_bytes}

-- ---- the page; its header begins at byte 0

-- the bytes of the ith cell, from its place to its end: at least 4, as they stand
abbrev pub cell_part : List ℕ → (u i : ℕ) → List ℕ
cell_part p u i = part p (pointer p 0 i) ((cell_of p u 0 i).end - pointer p 0 i)

-- the ith cell, and the k cells from the ith on, the one with index `cell` being `fresh`
abbrev pub cell_with : List ℕ → (u cell : ℕ) (fresh : List ℕ) (i : ℕ) → List ℕ
cell_with p u cell fresh i = cond (eqb i cell) fresh (cell_part p u i)

unfoldable pub cells_with : List ℕ → (u cell : ℕ) (fresh : List ℕ) (i k : ℕ) → List (List ℕ)
cells_with p u cell fresh i zero = []
cells_with p u cell fresh i (suc k) = cell_with p u cell fresh i ∷ cells_with p u cell fresh (i + 1) k

-- cells one below the other, the first the highest
unfoldable pub stacked : List (List ℕ) → List ℕ
stacked [] = []
stacked (c ∷ cs) = stacked cs ++ c

-- their pointers, the first ending at `top`
unfoldable pub stack_pointers : (top : ℕ) → List (List ℕ) → List ℕ
stack_pointers top [] = []
stack_pointers top (c ∷ cs) = be_bytes 2 (top - length c) ++ stack_pointers (top - length c) cs

-- how many bytes header, pointers and cells take
abbrev pub leaf_room : List (List ℕ) → ℕ
leaf_room cs = 8 + 2 * length cs + length (stacked cs)

-- a table leaf of u bytes: header with no freeblock and no fragment, pointers, zeros, cells up to u
unfoldable pub leaf_page : (u : ℕ) → List (List ℕ) → List ℕ
leaf_page u cs =
    header_bytes table_leaf (length cs) (u - length (stacked cs)) 0 ++ (stack_pointers u cs ++ (replicate (u - leaf_room cs) 0 ++ stacked cs))

-- ---- the image

-- the cells of a page, that with index `cell` being the row's with the record s, in shortest spelling, with no chain
abbrev pub cells_for : List ℕ → (page cell : ℕ) (row : ℤ) (s : List ℕ) → List (List ℕ)
cells_for b page cell row s =
    cells_with (page_in b page) (usable_of b) cell (leaf_cell (usable_of b) row s 0) 0 (cell_count (page_in b page) 0)

-- the image with that page laid anew; its bytes from U on stay
abbrev pub relaid : List ℕ → (page cell : ℕ) (row : ℤ) (s : List ℕ) → List ℕ
relaid b page cell row s = over b ((page - 1) * size_of b) (leaf_page (usable_of b) (cells_for b page cell row s))

-- ---- when it may be done, and what is so then

-- the record s may be set for that row: the root of a table that is not the schema's, the leaf cell that carries the number, with no chain; s reads
-- as a record, its cell needs no chain, and header, pointers and cells have room below U
pub record Settable (b : List ℕ) (d : Dealing) (root page cell : ℕ) (row : ℤ) (s : List ℕ) : Type 0 where
  pub table : TableRoot b d root
  pub other : root ≢ 1
  pub carries : Carries b d root row page cell
  pub number : SFits w64 row
  pub whole : ((file_of b).cell page cell).links ≡ 0
  pub reads : reads_of s ≡ true
  pub short : length s ≤ max_local (usable_of b) table_leaf
  pub room : leaf_room (cells_for b page cell row s) ≤ usable_of b

-- c answers as b does, but for that cell, which holds s now; d is b's good dealing
pub record Sets (b c : List ℕ) (d : Dealing) (page cell : ℕ) (s : List ℕ) : Type 0 where
  -- d is c's good dealing too, for just the names that it is b's for; verdict and ledgers are the same but for the count of long spellings, whatever
  -- roots are named and ledgers lent; lookup and the cursor under every root answer the same places and rows, with the lengths of c
  pub places : LikePlaces b c d
  -- the row's payload is s ..
  pub here : payload_of c page cell ≡ s
  pub long : ((file_of c).cell page cell).length ≡ length s
  -- .. and every other payload is what it was, and so is its length
  pub there : (page' cell' : ℕ) → PayloadCell b d page' cell' → ((page' ≡ page) × (cell' ≡ cell) → ⊥)
      → SameBytes b c page' cell' × (((file_of c).cell page' cell').length ≡ ((file_of b).cell page' cell').length)
  -- the count is lower by what the row's cell had
  pub spelled : long_in (file_of c) d + ((file_of b).cell page cell).long ≡ long_in (file_of b) d
  -- nothing but that page changes, nor do its bytes from U on
  pub size : length c ≡ length b
  pub rest : (i : ℕ) → (i < (page - 1) * size_of b) ⊎ ((page - 1) * size_of b + usable_of b ≤ i) → byte_at c i ≡ byte_at b i

-- ---- what the page no longer has
-- two images that agree outside a page, and on it in type, number of cells, the other cells' pointers and bytes, and the bytes from U on: so they may
-- differ in the whole of that cell, its pointer, freeblocks, fragments and the gap
pub record AlikeBut (b b' : List ℕ) (page cell : ℕ) : Type 0 where
  pub long : length b' ≡ length b
  pub outside : (i : ℕ) → (i < (page - 1) * size_of b) ⊎ ((page - 1) * size_of b + usable_of b ≤ i) → byte_at b' i ≡ byte_at b i
  pub type : page_type (page_in b' page) 0 ≡ page_type (page_in b page) 0
  pub count : cell_count (page_in b' page) 0 ≡ cell_count (page_in b page) 0
  pub places : (j : ℕ) → j < cell_count (page_in b page) 0 → j ≢ cell → pointer (page_in b' page) 0 j ≡ pointer (page_in b page) 0 j
  pub cells : (j : ℕ) → j < cell_count (page_in b page) 0 → j ≢ cell → (i : ℕ) → pointer (page_in b page) 0 j ≤ i
      → i < (cell_of (page_in b page) (usable_of b) 0 j).end → byte_at (page_in b' page) i ≡ byte_at (page_in b page) i

-- narrower, byte for byte: on that page they differ below U alone, and in no byte of its header, its pointers or another cell
pub record DifferInside (b b' : List ℕ) (page cell : ℕ) : Type 0 where
  pub long : length b' ≡ length b
  pub outside : (i : ℕ) → (i < (page - 1) * size_of b) ⊎ ((page - 1) * size_of b + usable_of b ≤ i) → byte_at b' i ≡ byte_at b i
  pub array : (i : ℕ) → i < array_end (page_in b page) 0 → byte_at (page_in b' page) i ≡ byte_at (page_in b page) i
  pub cells : (j : ℕ) → j < cell_count (page_in b page) 0 → j ≢ cell → (i : ℕ) → pointer (page_in b page) 0 j ≤ i
      → i < (cell_of (page_in b page) (usable_of b) 0 j).end → byte_at (page_in b' page) i ≡ byte_at (page_in b page) i
