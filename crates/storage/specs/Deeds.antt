-- What a writer does to a disk: when it may, what the disk is when it is completed, and what the disk may be when the power goes at any moment of it.
use Rattle.std.specs.Prelude.{ℕ, ◌-◌, ◌*◌, ◌^◌, ◌<◌, ◌≤◌, ◌≡◌, ◌⊎◌, Bool, false, List, ◌++◌, length, get_or, take, drop}
use Rattle.number.specs.Bytes.{part}
use Rattle.number.proofs.VarintReading.{Stands}
use Rattle.paging.specs.Pages.{lock_page, lock_bytes}
use Rattle.wal.specs.Frames.{frame_at, last_commit, last_frame}
use Rattle.wal.specs.State.{size_of}
use Rattle.wal.specs.Promises.{Accepted, in_force}
use Rattle.appending.specs.Written.{header_bytes}
use Rattle.appending.specs.Tail.{big_of}
use Rattle.appending.specs.Promises.{Fits, committed, torn_at}
use Rattle.storage.specs.Disk.{Disk, disk_is, state_now, shown, File}

pub data Deed : Type 0 where
  commit : (n : ℕ) (numbers pages : List ℕ) → Deed  -- the log is cut behind its last commit in force, then the frames of a commit of n pages are appended
  checkpoint : Deed  -- pages that the log holds in force are written into the image, in any order
  restart : (sequence salt1 salt2 : ℕ) → Deed  -- the log is cut to nothing, then a fresh header is written
  renew : (sequence salt1 salt2 : ℕ) → Deed  -- a fresh header is laid over the old one, in front of the old frames

-- ==== When it may be done
-- ---- commit
abbrev pub Given : (numbers : List ℕ) (p : ℕ) → Type 0
Given numbers p = (i : ℕ) × (i < length numbers) × (get_or numbers i 0 ≡ p)

pub record MayCommit (d : Disk) (n : ℕ) (numbers pages : List ℕ) : Type 0 where
  pub header : Accepted (big_of d.log) d.log
  pub fits : Fits (size_of d.log) n numbers pages
  -- a file that grows gets all of its new pages
  pub grows : (p : ℕ) → (state_now d).pages < p → p ≤ n → (p ≡ lock_page (size_of d.log) → ⊥) → Given numbers p

-- ---- checkpoint: there is a commit in force
abbrev pub MayCheckpoint : Disk → Type 0
MayCheckpoint d = (state_now d).frames ≡ 0 → ⊥

-- ---- a fresh header: the checkpoint is done, and the image is a file by itself
pub record MayRestart (d : Disk) : Type 0 where
  pub done : d.image ≡ shown d
  pub file : File (state_now d).size d.image

-- over an old header that was so written, in front of frames in force, with a salt that is another one
pub record MayRenew (d : Disk) (salt1 salt2 : ℕ) : Type 0 where
  pub checkpointed : MayRestart d
  pub old_sequence : ℕ
  pub old1 : ℕ
  pub old2 : ℕ
  pub long : 32 ≤ length d.log
  pub header : Stands d.log 0 (header_bytes (state_now d).size old_sequence old1 old2)
  pub some : last_commit false (state_now d).size d.log ≡ 0 → ⊥
  pub words : (old1 < 2 ^ 32) × (old2 < 2 ^ 32) × (salt1 < 2 ^ 32) × (salt2 < 2 ^ 32)
  pub other : (salt1 ≡ old1 → ⊥) ⊎ (salt2 ≡ old2 → ⊥)

abbrev pub May : Deed → Disk → Type 0
May (commit n numbers pages) d = MayCommit d n numbers pages
May checkpoint d = MayCheckpoint d
May (restart sequence salt1 salt2) d = MayRestart d
May (renew sequence salt1 salt2) d = MayRenew d salt1 salt2

-- ==== The disk when it is completed
-- the header of a fresh log for that disk
abbrev pub fresh_header : Disk → (sequence salt1 salt2 : ℕ) → List ℕ
fresh_header d sequence salt1 salt2 = header_bytes (state_now d).size sequence salt1 salt2

abbrev pub completed : Deed → Disk → Disk
completed (commit n numbers pages) d = disk_is d.image (committed (big_of d.log) d.log n numbers pages)
completed checkpoint d = disk_is (shown d) d.log
completed (restart sequence salt1 salt2) d = disk_is d.image (fresh_header d sequence salt1 salt2)
completed (renew sequence salt1 salt2) d = disk_is d.image (fresh_header d sequence salt1 salt2 ++ drop 32 d.log)

-- ==== What it may be when the power goes
-- ---- commit
-- no commit counts behind `base`
abbrev pub NoneBehind : (big : Bool) (base after : List ℕ) → Type 0
NoneBehind big base after = last_commit big (size_of after) after ≡ last_commit big (size_of base) base

pub data LogInCommit (big : Bool) (log : List ℕ) (n : ℕ) (numbers pages after : List ℕ) : Type 0 where
  -- not yet cut, or cut to some length that keeps what is in force
  uncut : (c : ℕ) → frame_at (size_of log) (last_commit big (size_of log) log) ≤ c → after ≡ take c log → LogInCommit big log n numbers pages after
  -- cut, and behind it the first c bytes of the frames
  torn : (c : ℕ) → after ≡ torn_at big log n numbers pages c → LogInCommit big log n numbers pages after
  -- On a disk that tears otherwise: whatever it made of what was written there, as long as no commit counts in it, which is what the sums are for;
  scattered : (x : List ℕ) → after ≡ in_force big log ++ x → NoneBehind big log after → LogInCommit big log n numbers pages after
  -- or all the frames, and such bytes behind them
  trailed : (x : List ℕ) → after ≡ committed big log n numbers pages ++ x → NoneBehind big (committed big log n numbers pages) after → LogInCommit big log n numbers pages after

-- ---- checkpoint: any bytes on the pages that frames in force hold, and behind page n; the other pages stay
pub record Stays (size : ℕ) (a b : List ℕ) (p : ℕ) : Type 0 where
  pub there : p * size ≤ length b
  pub bytes : part b ((p - 1) * size) size ≡ part a ((p - 1) * size) size

-- (the lock-byte page has no frame: it stays, or zeros are written where the image has not all of it)
pub record ImageInCheckpoint (size : ℕ) (log : List ℕ) (m n : ℕ) (a b : List ℕ) : Type 0 where
  pub others : (p : ℕ) → 1 ≤ p → p ≤ n → (p ≡ lock_page size → ⊥) → last_frame size log p m ≡ 0 → Stays size a b p
  pub lock : lock_page size ≤ n → lock_bytes size b ≡ lock_bytes size a

-- ---- a fresh header: the log as it was, or some first bytes of the header. (The log is cut to nothing at once: cut to a part of itself it would show an older
-- commit, `shows-older` in proofs/Examples.antt.)
abbrev pub LogInRestart : (log header after : List ℕ) → Type 0
LogInRestart log header after = (after ≡ log) ⊎ ((c : ℕ) × (after ≡ take c header))

-- laid over the old one: some first bytes of it, and then the old bytes
abbrev pub LogInRenew : (log header after : List ℕ) → Type 0
LogInRenew log header after = (c : ℕ) × (c ≤ 32) × (after ≡ take c header ++ drop c log)

abbrev pub Leaves : Deed → (before after : Disk) → Type 0
Leaves (commit n numbers pages) d e = (e.image ≡ d.image) × LogInCommit (big_of d.log) d.log n numbers pages e.log
Leaves checkpoint d e = (e.log ≡ d.log) × ImageInCheckpoint (state_now d).size d.log (state_now d).frames (state_now d).pages d.image e.image
Leaves (restart sequence salt1 salt2) d e = (e.image ≡ d.image) × LogInRestart d.log (fresh_header d sequence salt1 salt2) e.log
Leaves (renew sequence salt1 salt2) d e = (e.image ≡ d.image) × LogInRenew d.log (fresh_header d sequence salt1 salt2) e.log
