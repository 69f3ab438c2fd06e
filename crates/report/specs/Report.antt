-- The report: the rows as the cursor shows them from the first, one after the other.
use Rattle.std.specs.Prelude.{ℕ, Bool, false, cond, List, [], ◌∷◌, length, ◌==◌, Float}
use Rattle.header.specs.Header.{header_refusal}
use Rattle.dealing.specs.File.{level_limit}
use Rattle.dealing.specs.Walk.{in_range}
use Rattle.dealing.specs.Cursor.{Met, cell, stop, listing}
use Rattle.image.specs.Image.{file_of}
use Rattle.report.specs.Summary.{none, add_all, told_of, refused_of}
use Rattle.report.specs.Rows.{level_of, laid_over}
use Rattle.report.specs.declared.Summary as Su
use Rattle.report.specs.Reported as Re
use Rattle.report.specs.Level as Le

-- what is met: 1 to 11, and then 20 for a root outside 1 to N, with page 0; else what stands under the root
unfoldable pub met_under : List ℕ → (root : ℕ) → List Met
met_under b root =
    cond (header_refusal b == 0) (cond (in_range (file_of b).N root) (listing (file_of b) level_limit root) (stop 20 0 ∷ [])) (stop (header_refusal b) 0 ∷ [])

-- the rows: the reals in all of them, or the first refusal; and what the room holds then
pub data Walked : Type 0 where
  whole : List Float → (room : List ℕ) → Walked
  stopped : (number page : ℕ) → (room : List ℕ) → Walked

-- a row, and what follows it
abbrev pub and_then : Le.Level → (laid : List ℕ) → Walked → Walked
and_then (Le.Real x) laid (whole xs room) = whole (x ∷ xs) room
and_then (Le.Real x) laid (stopped number page room) = stopped number page room
and_then Le.Passed laid (whole xs room) = whole xs room
and_then Le.Passed laid (stopped number page room) = stopped number page room
and_then (Le.Refused number page) laid (whole xs room) = stopped number page laid
and_then (Le.Refused number page) laid (stopped number' page' room) = stopped number page laid

unfoldable pub walked : List ℕ → (column : ℕ) → List Met → (room : List ℕ) → Walked
walked b column [] room = whole [] room
walked b column (stop number page ∷ ms) room = stopped number page room
walked b column (cell y ∷ ms) room =
    and_then (level_of b column y.page y.index (length room)) (laid_over b y.page y.index room)
    (walked b column ms (laid_over b y.page y.index room))

-- the answer, from a summary of the rows before
abbrev pub answer_from : (met : Bool) → Su.Summary → Walked → Re.Reported
answer_from met s (whole xs room) = told_of (add_all met s xs)
answer_from met s (stopped number page room) = refused_of number page

abbrev pub room_in : Walked → List ℕ
room_in (whole xs room) = room
room_in (stopped number page room) = room

unfoldable pub report_of : List ℕ → (root column : ℕ) → (room : List ℕ) → Re.Reported
report_of b root column room = answer_from false none (walked b column (met_under b root) room)

unfoldable pub room_of : List ℕ → (root column : ℕ) → (room : List ℕ) → List ℕ
room_of b root column room = room_in (walked b column (met_under b root) room)
