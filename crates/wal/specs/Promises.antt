-- The words of the theorems (proofs/Theorems.antt, proofs/Grows.antt).
use Rattle.std.specs.Prelude.{ℕ, suc, ◌≤◌, ◌<◌, ◌≡◌, Bool, true, cond, List, [], ◌++◌, length, take}
use Rattle.number.specs.Bytes.{be}
use Rattle.paging.specs.Pages.{size_fits}
use Rattle.wal.specs.Frames.{frame_at, carries, header_sums, commits, last_commit}
use Rattle.wal.specs.State.{State, little_magic, big_magic, log_version, size_of, state_at}
use Rattle.wal.specs.View.{image_state, pair_state, page_in, page_of, bytes_of, view_of, refusal_in, whole_in, whole_of}

-- the header is accepted: 32 bytes, a magic that gives the word order, right sums, version and page size
pub record Accepted (big : Bool) (log : List ℕ) : Type 0 where
  pub long : 32 ≤ length log
  pub magic : be 4 log 0 ≡ cond big big_magic little_magic
  pub sums : carries log 8 (header_sums big log) ≡ true
  pub version : be 4 log 4 ≡ log_version
  pub size : size_fits (size_of log) ≡ true

-- frame k counts, is a commit, and lies wholly before byte c
pub record CommitBy (big : Bool) (log : List ℕ) (c k : ℕ) : Type 0 where
  pub commit : commits big (size_of log) log k ≡ true
  pub before : frame_at (size_of log) (suc k) ≤ c

-- and is the last such
pub record LastCommitBy (big : Bool) (log : List ℕ) (c k : ℕ) : Type 0 where
  pub here : CommitBy big log c k
  pub last : (j : ℕ) → k < j → CommitBy big log c j → ⊥

-- `log` and `image` show the state s, its frames read from the log `source`: n, each page, its bytes, the whole file, and each refusal
pub record Shown (log image : List ℕ) (s : State) (source : List ℕ) : Type 0 where
  pub state : pair_state log image ≡ s
  pub page : (p : ℕ) → page_of log image p ≡ page_in s source image p
  pub view : (p : ℕ) → view_of log image p ≡ bytes_of source image (page_in s source image p)
  pub whole : whole_of log image ≡ whole_in s source image
  pub refusal : (room : ℕ) → refusal_in (pair_state log image) log image room ≡ refusal_in s source image room

-- ---- a log that grows (proofs/Grows.antt)
-- the header and the frames in force
abbrev pub in_force : (big : Bool) → List ℕ → List ℕ
in_force big log = take (frame_at (size_of log) (last_commit big (size_of log) log)) log

-- a stands at the beginning of b
abbrev pub Begins : (a b : List ℕ) → Type 0
Begins a b = (rest : List ℕ) × (b ≡ a ++ rest)

-- no commit of the log lowers that number, read in whatever way from the bytes of the file: it is no less than in the image alone and no less than after any commit before
pub record NeverLowers (number : List ℕ → ℕ) (big : Bool) (log image : List ℕ) : Type 0 where
  pub first : (k : ℕ) → commits big (size_of log) log k ≡ true
      → number (whole_in (image_state image) [] image) ≤ number (whole_in (state_at (size_of log) log (suc k)) log image)
  pub next : (j k : ℕ) → commits big (size_of log) log j ≡ true → commits big (size_of log) log k ≡ true → j ≤ k
      → number (whole_in (state_at (size_of log) log (suc j)) log image) ≤ number (whole_in (state_at (size_of log) log (suc k)) log image)
