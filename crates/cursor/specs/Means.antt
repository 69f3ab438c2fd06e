-- What the cursor's answers mean for a good image: nothing here speaks of how they go. dealing/specs/File.antt says how to read it.
use Rattle.std.specs.Prelude.{ℕ, ◌≤◌, ◌<◌, ◌≡◌, true, ◌≢◌, ◌⊎◌, ℤ, length}
use mathlib.Core.List.{List, [], ◌∷◌, Memᴰ as Mem}
use Rattle.dealing.specs.Good.{Dealing, LeafCell}
use Rattle.dealing.specs.Cursor.{StandsUnder}
use Rattle.record.specs.Record.{reads_of}
use Rattle.image.specs.Payload.{payload_of}
use Rattle.image.specs.Image.{file_of}
use Rattle.image.specs.Good.{Carries}
use Rattle.cursor.specs.Answers.{blank, last_page, last_index, path_of, stepped, step_of}
use Rattle.cursor.specs.Shown as Sh
use Rattle.cursor.specs.declared.Cursor as Cu
use Rattle.cursor.specs.Stepped as St

-- the row number in a cell, moved up by 2^63
abbrev pub row_in : List ℕ → (page cell : ℕ) → ℕ
row_in b page cell = ((file_of b).cell page cell).row

-- a cursor stands under a root: it is not at the end, its path stands in the image, and its first page is the root
pub record Stands (b : List ℕ) (root : ℕ) (c : Cu.Cursor) : Type 0 where
  pub some : c.levels ≢ 0
  pub path : StandsUnder (file_of b) root (path_of c)

-- an answer shows that leaf cell of the root's tree: with the length of its payload, which reads as a record, and its row number, and with a cursor that stands there
pub record ShowsCell (b : List ℕ) (d : Dealing) (root page cell : ℕ) (r : St.Stepped) : Type 0 where
  pub row : ℤ
  pub carries : Carries b d root row page cell
  pub shown : r.shown ≡ Sh.Row page cell (length (payload_of b page cell)) row
  pub reads : reads_of (payload_of b page cell) ≡ true
  pub stands : Stands b root r.cursor
  pub page_is : last_page r.cursor ≡ page
  pub cell_is : last_index r.cursor ≡ cell

-- the leaf cell of the root's tree with the least row number not below x
pub record LeastFrom (b : List ℕ) (d : Dealing) (root x page cell : ℕ) : Type 0 where
  pub leaf : LeafCell (file_of b) d root page cell
  pub from : x ≤ row_in b page cell
  pub least : (q j : ℕ) → LeafCell (file_of b) d root q j → x ≤ row_in b q j → row_in b page cell ≤ row_in b q j

-- an answer shows that cell; or it is the end, and there is none
abbrev pub NextRow : List ℕ → Dealing → (root x : ℕ) → St.Stepped → Type 0
NextRow b d root x r =
    ((page cell : ℕ) × LeastFrom b d root x page cell × ShowsCell b d root page cell r)
    ⊎ ((r ≡ stepped Sh.End blank) × ((q j : ℕ) → LeafCell (file_of b) d root q j → x ≤ row_in b q j → ⊥))

-- an answer, and then those of step after step with the cursor handed back, show these cells one by one, and then the end
abbrev pub Lists : List ℕ → Dealing → (root : ℕ) → St.Stepped → List (ℕ × ℕ) → Type 0
Lists b d root r [] = r ≡ stepped Sh.End blank
Lists b d root r (s ∷ ss) = ShowsCell b d root s.0 s.1 r × Lists b d root (step_of b r.cursor) ss

-- each row number is below all that come after it
abbrev pub Climbs : List ℕ → List (ℕ × ℕ) → Type 0
Climbs b [] = Unit {0}
Climbs b (s ∷ ss) = ((q j : ℕ) → Mem (q, j) ss → row_in b s.0 s.1 < row_in b q j) × Climbs b ss

-- these cells, each by page and index, are the leaf cells of the root's tree with a row number not below x, all of them and nothing else; row numbers rise, so that each is there once
pub record RowCells (b : List ℕ) (d : Dealing) (root x : ℕ) (ss : List (ℕ × ℕ)) : Type 0 where
  pub each : (q j : ℕ) → Mem (q, j) ss → LeafCell (file_of b) d root q j × (x ≤ row_in b q j)
  pub all : (q j : ℕ) → LeafCell (file_of b) d root q j → x ≤ row_in b q j → Mem (q, j) ss
  pub rising : Climbs b ss

-- an answer, from which the rows are listed from x on: it shows the first of them, or is the end where there are none; and stepped to the end it shows them all, with as many steps as there are cells
pub record RowsOn (b : List ℕ) (d : Dealing) (root x : ℕ) (r : St.Stepped) : Type 0 where
  pub next : NextRow b d root x r
  pub cells : List (ℕ × ℕ)
  pub are : RowCells b d root x cells
  pub lists : Lists b d root r cells
