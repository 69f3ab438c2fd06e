-- What a log says: the refusal, or nothing to recover, or a commit with its page size, frames in force and pages.
use Rattle.std.specs.Prelude.{ℕ, ◌-◌, Bool, true, false, cond, List, ltb, eqb, length}
use Rattle.number.specs.Bytes.{be}
use Rattle.paging.specs.Pages.{page_limit, size_fits}
use Rattle.wal.specs.Frames.{header_sums, carries, last_commit, commit_size}

-- a refusal by its number, or 0; the page size, the frames in force and the pages: all 0 where there is nothing to recover, and on refusal
pub record State : Type 0 where
  pub refusal : ℕ
  pub size : ℕ
  pub frames : ℕ
  pub pages : ℕ

-- the header: magic, version, page size, sequence, two salts, two sums
abbrev pub little_magic : ℕ
little_magic = 0x377f0682

abbrev pub big_magic : ℕ
big_magic = 0x377f0683

abbrev pub log_version : ℕ
log_version = 3007000

abbrev pub state_is : (refusal size frames pages : ℕ) → State
state_is refusal size frames pages = record { refusal = refusal; size = size; frames = frames; pages = pages }

-- nothing to recover: no refusal and no frame
abbrev pub nothing : State
nothing = state_is 0 0 0 0

abbrev pub refused : ℕ → State
refused number = state_is number 0 0 0

-- the state that the first m frames give, the last of them a commit; of none, nothing
unfoldable pub state_at : (size : ℕ) → List ℕ → (m : ℕ) → State
state_at size log m =
    cond (eqb m 0) nothing
    (cond (ltb page_limit (commit_size size log (m - 1))) (refused 42)
    (state_is 0 size m (commit_size size log (m - 1))))

-- the page size that the header names
abbrev pub size_of : List ℕ → ℕ
size_of log = be 4 log 8

-- the log in the word order that its magic gives
unfoldable pub state_in : (big : Bool) → List ℕ → State
state_in big log =
    cond (carries log 8 (header_sums big log))
    (cond (eqb (be 4 log 4) log_version)
    (cond (size_fits (size_of log)) (state_at (size_of log) log (last_commit big (size_of log) log)) (refused 41))
    (refused 40))
    nothing

-- the whole log
unfoldable pub state_of : List ℕ → State
state_of log =
    cond (ltb (length log) 32) nothing
    (cond (eqb (be 4 log 0) little_magic) (state_in false log)
    (cond (eqb (be 4 log 0) big_magic) (state_in true log) nothing))
