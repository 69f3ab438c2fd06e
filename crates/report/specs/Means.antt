-- What a report means for a good image: nothing here speaks of how it goes. dealing/specs/File.antt says how to read it.
use Rattle.std.specs.Prelude.{◌≡◌, ℕ, ◌<◌, ◌≤◌, ◌≢◌, List, [], ◌∷◌, length, Float}
use mathlib.Core.List.{Memᴰ as Mem}
use Rattle.record.specs.Record.{column_at}
use Rattle.record.specs.declared.Column as Col
use Rattle.std.specs.Prelude.{Result, Ok, Err}
use Rattle.record.specs.declared.NoValue.{NoValue}
use Rattle.record.specs.declared.NoValue.TheVariants.{DoesNotRead, Missing}
use Rattle.dealing.specs.Good.{Dealing}
use Rattle.image.specs.Payload.{payload_of}
use Rattle.cursor.specs.Means.{RowCells}
use Rattle.report.specs.Summary.{summary_of, told_of, refused_of}
use Rattle.report.specs.declared.Summary as Su
use Rattle.report.specs.Reported as Re

-- the real that a column is, put before others
abbrev pub if_real : Result Col.Column NoValue → List Float → List Float
if_real (Err DoesNotRead) xs = xs
if_real (Err Missing) xs = xs
if_real (Ok Col.TheVariants.Null) xs = xs
if_real (Ok (Col.TheVariants.Int v)) xs = xs
if_real (Ok (Col.TheVariants.Real x)) xs = x ∷ xs
if_real (Ok (Col.TheVariants.Text place length)) xs = xs
if_real (Ok (Col.TheVariants.Blob place length)) xs = xs

-- the reals in a column of these cells, in their order
unfoldable pub reals_in : List ℕ → (column : ℕ) → List (ℕ × ℕ) → List Float
reals_in b column [] = []
reals_in b column (s ∷ ss) = if_real (column_at (payload_of b s.0 s.1) column) (reals_in b column ss)

-- each cell's payload has room
abbrev pub HaveRoom : List ℕ → (room : ℕ) → List (ℕ × ℕ) → Type 0
HaveRoom b room ss = (q j : ℕ) → Mem (q, j) ss → length (payload_of b q j) ≤ room

-- An answer is read by three statements: it tells that summary; it is that refusal; it is a refusal. `room` is the number of bytes lent.
pub record Reports (b : List ℕ) (d : Dealing) (root column room : ℕ) (Tells : Su.Summary → Type 0) (Is : (number page : ℕ) → Type 0) (Refuses : Type 0) : Type 0 where
  -- the leaf cells of the root's tree, each once, in rising row order
  pub rows : List (ℕ × ℕ)
  pub cells : RowCells b d root 0 rows
  -- with room for the longest payload it tells the summary of the reals in them, from left to right
  pub told : HaveRoom b room rows → Tells (summary_of (reals_in b column rows))
  -- and the count is the count itself
  pub count : (summary_of (reals_in b column rows)).count ≡ length (reals_in b column rows)
  -- it refuses for want of room for a payload, and for nothing else
  pub refused : Refuses → Is 44 0 × ((q j : ℕ) × Mem (q, j) rows × (room < length (payload_of b q j)))

abbrev pub Tells : Re.Reported → Su.Summary → Type 0
Tells r s = r ≡ told_of s

abbrev pub Is : Re.Reported → (number page : ℕ) → Type 0
Is r number page = r ≡ refused_of number page

abbrev pub Refuses : Re.Reported → Type 0
Refuses r = r.refusal ≢ 0
