-- The tail of a log: what a writer has to know of it, in 8 words.
use Rattle.std.specs.Prelude.{ℕ, ◌<◌, ◌≡◌, Bool, cond, List, [], ◌∷◌, ◌++◌, eqb, get_or, take}
use Rattle.number.specs.Bytes.{byte_at, be}
use Rattle.wal.specs.Sums.{Sums}
use Rattle.wal.specs.Frames.{sums_after, last_commit}
use Rattle.wal.specs.State.{big_magic, size_of, state_of}
use Rattle.wal.specs.Promises.{Accepted}
use Rattle.appending.specs.Written.{word4}

-- the words: page size; word order, 0 little-endian, 1 big-endian; two salts; two sums; frames in force; pages of the last commit in force, 0 for none
abbrev pub tail_is : (size : ℕ) (big : Bool) (salt1 salt2 : ℕ) → Sums → (frames pages : ℕ) → List ℕ
tail_is size big salt1 salt2 s frames pages = size ∷ cond big 1 0 ∷ salt1 ∷ salt2 ∷ s.0 ∷ s.1 ∷ frames ∷ pages ∷ []

-- ---- of a log
-- the word order that its magic gives
abbrev pub big_of : (log : List ℕ) → Bool
big_of log = eqb (be 4 log 0) big_magic

-- the frames in force
abbrev pub frames_of : (log : List ℕ) → ℕ
frames_of log = last_commit (big_of log) (size_of log) log

-- the sums are those carried on to the last commit in force, or the header's
unfoldable pub tail_of : (log : List ℕ) → List ℕ
tail_of log =
    tail_is (size_of log) (big_of log) (be 4 log 16) (be 4 log 20) (sums_after (big_of log) (size_of log) log (frames_of log)) (frames_of log) (state_of log).pages

-- ---- as it is read back
abbrev pub size_in : (tail : List ℕ) → ℕ
size_in tail = get_or tail 0 0

abbrev pub big_in : (tail : List ℕ) → Bool
big_in tail = eqb (get_or tail 1 0) 1

abbrev pub salts_in : (tail : List ℕ) → List ℕ
salts_in tail = word4 (get_or tail 2 0) ++ word4 (get_or tail 3 0)

abbrev pub sums_in : (tail : List ℕ) → Sums
sums_in tail = (get_or tail 4 0, get_or tail 5 0)

abbrev pub frames_in : (tail : List ℕ) → ℕ
frames_in tail = get_or tail 6 0

-- these words begin with the tail of that log, whose header is accepted
pub record IsTail (tail log : List ℕ) : Type 0 where
  pub header : Accepted (big_of log) log
  pub bytes : (i : ℕ) → byte_at log i < 256
  pub words : take 8 tail ≡ tail_of log
