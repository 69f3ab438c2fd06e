-- Good images: what acceptance, lookup and payloads are about, said of bytes. Nothing of the walk or of lookup is in it.
-- Definitions only; dealing/specs/File.antt says how to read them.
use Rattle.std.specs.Prelude.{ℕ, ◌-◌, ◌<◌, ◌≡◌, true, List, ◌++◌, ℤ, length, take}
use Rattle.number.specs.Bytes.{part, bias_of}
use Rattle.header.specs.Header.{header_refusal}
use Rattle.dealing.specs.File.{File, Page, is_table, HasPayload, root_kind, first_kind}
use Rattle.dealing.specs.Good.{Dealing, TreePage, Good, LeafCell, chain_pages, Linked}
use Rattle.image.specs.Pages.{page_in, cell_in}
use Rattle.image.specs.Payload.{payload_of, chunks_of}
use Rattle.image.specs.Image.{file_of}

-- the image passes refusals 1 to 11, and d is a good dealing of the file that its bytes say
pub record GoodDealing (b : List ℕ) (d : Dealing) : Type 0 where
  pub passes : header_refusal b ≡ 0
  pub good : Good (file_of b) d

-- an image is good when it passes 1 to 11 and has a good dealing
abbrev pub GoodImage : List ℕ → Type 0
GoodImage b = (d : Dealing) × GoodDealing b d

-- two dealings agree on kind, namer and step at every page of 1 to N
abbrev pub Agree : List ℕ → (d d' : Dealing) → Type 0
Agree b d d' = (p : ℕ) → Page (file_of b) p → (d.kind p ≡ d'.kind p) × (d.namer p ≡ d'.namer p) × (d.step p ≡ d'.step p)

-- a table root: a page of kind 1 and type 5 or 13
pub record TableRoot (b : List ℕ) (d : Dealing) (root : ℕ) : Type 0 where
  pub page : Page (file_of b) root
  pub kind : d.kind root ≡ root_kind
  pub table : is_table (file_of b) root ≡ true

-- a leaf cell of the root's tree that carries the row number, which has 64 bits (a file has row numbers moved up by 2^63)
pub record Carries (b : List ℕ) (d : Dealing) (root : ℕ) (row : ℤ) (page cell : ℕ) : Type 0 where
  pub leaf : LeafCell (file_of b) d root page cell
  pub number : ((file_of b).cell page cell).row ≡ bias_of row

-- a cell with a payload, on a tree page: on a leaf, or on an index page
pub record PayloadCell (b : List ℕ) (d : Dealing) (page cell : ℕ) : Type 0 where
  pub in_file : Page (file_of b) page
  pub tree : TreePage d page
  pub has : HasPayload (file_of b) page
  pub index : cell < (file_of b).count page

-- the pages of the cell's chain, in order
abbrev pub overflow_pages : List ℕ → (page cell : ℕ) → List ℕ
overflow_pages b page cell = chain_pages (file_of b) ((file_of b).cell page cell).links ((file_of b).cell page cell).first

-- its payload, of the length that the cell says, is the cell's local bytes, then what the pages of its chain hold, up to the
-- payload's length; those are overflow pages, the first named by the cell's page and each other by the one before it
pub record OnPages (b : List ℕ) (d : Dealing) (page cell : ℕ) : Type 0 where
  pub bytes : payload_of b page cell
      ≡ part (page_in b page) (cell_in b page cell).start (cell_in b page cell).local
      ++ take ((cell_in b page cell).payload - (cell_in b page cell).local) (chunks_of b (overflow_pages b page cell))
  pub length_is : length (payload_of b page cell) ≡ ((file_of b).cell page cell).length  -- P, as the cell says it
  pub linked : Linked (file_of b) d page first_kind (overflow_pages b page cell)
