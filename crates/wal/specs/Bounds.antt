-- What holds of a state that is not refused. About the code alone: a law says that every such state keeps it.
use Rattle.std.specs.Prelude.{ℕ, max, ◌<◌, ◌≤◌, ◌≡◌, List, length}
use Rattle.paging.specs.Pages.{page_limit, lock_page}
use Rattle.wal.specs.Frames.{frame_at, page_number}

-- (with no frame in force the log may be shorter than a header)
pub record Bounds (log : List ℕ) (size m n : ℕ) : Type 0 where
  pub least : 512 ≤ size
  pub most : size ≤ 65536
  pub few : n ≤ page_limit
  pub within : frame_at size m ≤ max 32 (length log)
  -- no frame in force has the lock-byte page's number
  pub unlocked : (k : ℕ) → k < m → page_number size log k ≡ lock_page size → ⊥
