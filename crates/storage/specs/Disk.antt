-- A disk, and what recovery shows of it.
use Rattle.std.specs.Prelude.{ℕ, ◌≡◌, Bool, List}
use Rattle.header.specs.Header.{pages_in}
use Rattle.wal.specs.State.{size_of}
use Rattle.wal.specs.View.{pair_state, refusal_in, whole_of}
use Rattle.wal.specs.Promises.{Accepted}
use Rattle.wal.specs.State.{State}

-- the database file and its log, both lists of bytes
pub record Disk : Type 0 where
  pub image : List ℕ
  pub log : List ℕ

abbrev pub disk_is : (image log : List ℕ) → Disk
disk_is image log = record { image = image; log = log }

-- what recovery says of it: page size, frames in force, pages
abbrev pub state_now : Disk → State
state_now d = pair_state d.log d.image

-- the whole recovered file
abbrev pub shown : Disk → List ℕ
shown d = whole_of d.log d.image

-- whole recovery, given room enough, refuses nothing
abbrev pub Recovers : Disk → Type 0
Recovers d = (room : ℕ) × (refusal_in (state_now d) d.log d.image room ≡ 0)

-- what a life needs at its start, and keeps: the file can be recovered, and a log that has a header has the file's page size
pub record Sound (d : Disk) : Type 0 where
  pub recovers : Recovers d
  pub sized : (big : Bool) → Accepted big d.log → size_of d.log ≡ (state_now d).size

-- the bytes alone are a file in pages of that size: refusals 1 to 5 pass, and its own header names the size
pub record File (size : ℕ) (b : List ℕ) : Type 0 where
  pub passes : (pages_in b).refusal ≡ 0
  pub names : (pages_in b).size ≡ size
