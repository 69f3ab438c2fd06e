-- The number that a row's column holds, as recovery, lookup and the payload tell it; and the commit that sets the row's record.
use Rattle.std.specs.Prelude.{ℕ, ◌-◌, ◌*◌, ◌≤◌, true, ◌≡◌, List, [], ◌∷◌, ℤ, length, Result, Ok, Err}
use Rattle.number.specs.Bytes.{part, bias_of}
use Rattle.header.specs.Header as H
use Rattle.record.specs.declared.NoValue.{NoValue}
use Rattle.record.specs.declared.Column as Col
use Rattle.record.specs.Record.{column_at, reads_of}
use Rattle.dealing.specs.Good.{Dealing}
use Rattle.image.specs.Payload.{payload_of}
use Rattle.image.specs.Good.{GoodDealing, Carries}
use Rattle.lookup.specs.Found as Found
use Rattle.lookup.specs.Answers.{lookup_of}
use Rattle.setting.specs.Relaid.{relaid, Settable}
use Rattle.wal.specs.State.{size_of}
use Rattle.storage.specs.Disk.{Disk, state_now, shown, Sound}
use Rattle.storage.specs.Deeds.{Deed, commit, checkpoint, restart, renew}
use Rattle.storage.specs.Lives.{Event}

-- an integer, moved up by 2^63 so that the order of ℕ is its order; 0 for what is none
abbrev pub in_column : Col.Column → ℕ
in_column Col.TheVariants.Null = 0
in_column (Col.TheVariants.Int z) = bias_of z
in_column (Col.TheVariants.Real x) = 0
in_column (Col.TheVariants.Text place n) = 0
in_column (Col.TheVariants.Blob place n) = 0

abbrev pub in_value : Result Col.Column NoValue → ℕ
in_value (Err e) = 0
in_value (Ok c) = in_column c

-- of a record
abbrev pub in_record : (column : ℕ) → List ℕ → ℕ
in_record column s = in_value (column_at s column)

-- of the row that lookup shows, 0 where it shows none
abbrev pub in_row : (column : ℕ) → List ℕ → Found.Found → ℕ
in_row column b Found.Nothing = 0
in_row column b (Found.At page cell n) = in_record column (payload_of b page cell)
in_row column b (Found.Refused number page) = 0

-- of a file
abbrev pub number_in : (root : ℕ) (row : ℤ) (column : ℕ) → List ℕ → ℕ
number_in root row column b = in_row column b (lookup_of b root row)

-- the commit that sets the record: one page, laid anew with it
abbrev pub set_record : Disk → (row : ℤ) (page cell : ℕ) (s : List ℕ) → Deed
set_record d row page cell s =
    commit (state_now d).pages (page ∷ [])
    (part (relaid (shown d) page cell row s) ((page - 1) * size_of d.log) (size_of d.log))

-- ---- a file with such a row: good by a dealing, the row's cell at its place, and any record of at most `long` bytes that reads may be set there
pub record HasRow (b : List ℕ) (deal : Dealing) (root : ℕ) (row : ℤ) (page cell long : ℕ) : Type 0 where
  pub good : GoodDealing b deal
  pub carries : Carries b deal root row page cell
  pub settable : (s : List ℕ) → length s ≤ long → reads_of s ≡ true → Settable b deal root page cell row s

-- a disk that shows one, in the page size that the file names
pub record Counter (d : Disk) (deal : Dealing) (root : ℕ) (row : ℤ) (page cell long : ℕ) : Type 0 where
  pub sound : Sound d
  pub names : H.size_of (shown d) ≡ (state_now d).size
  pub has : HasRow (shown d) deal root row page cell long

-- ---- a life whose commits set that row's record, and do not lower the number in that column
-- s may be set
pub record MaySet (d : Disk) (column page cell long : ℕ) (s : List ℕ) : Type 0 where
  pub short : length s ≤ long
  pub reads : reads_of s ≡ true
  pub no_lower : in_record column (payload_of (shown d) page cell) ≤ in_record column s

abbrev pub Sets : (row : ℤ) (column page cell long : ℕ) → Deed → Disk → Type 0
Sets row column page cell long (commit n numbers pages) d = (s : List ℕ) × (commit n numbers pages ≡ set_record d row page cell s) × MaySet d column page cell long s
Sets row column page cell long checkpoint d = Unit {0}
Sets row column page cell long (restart sequence salt1 salt2) d = Unit {0}
Sets row column page cell long (renew sequence salt1 salt2) d = Unit {0}

unfoldable pub SetsAll : (row : ℤ) (column page cell long : ℕ) → Disk → List Event → Type 0
SetsAll row column page cell long d [] = Unit {0}
SetsAll row column page cell long d (e ∷ rest) = Sets row column page cell long e.deed d × SetsAll row column page cell long e.after rest
