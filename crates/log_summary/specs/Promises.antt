-- What a summary says of recovery from that log (proofs/Theorems.antt).
use Rattle.std.specs.Prelude.{ℕ, suc, ◌<◌, ◌≤◌, ◌≡◌, Bool, true, false, List, ◌↔◌, length}
use Rattle.paging.specs.Pages.{lock_page}
use Rattle.wal.specs.Frames.{frame_at, page_number, carries, sums_after, holds, salted}
use Rattle.wal.specs.State.{State, nothing, state_is}
use Rattle.log_summary.specs.Summary.{Summary}

-- of every log: `state` is what recovery finds in it
pub record Agrees (state : State) (r : Summary) : Type 0 where
  -- recovery refuses the log with the same number
  pub refusal : state.refusal ≡ r.refusal
  -- there is nothing to recover exactly where there is no refusal and no frame in force
  pub nothing : (state ≡ nothing) ↔ ((r.refusal ≡ 0) × (r.in_force ≡ 0))
  -- else recovery has the same page size, frames and pages
  pub commit : r.refusal ≡ 0 → (r.in_force ≡ 0 → ⊥) → state ≡ state_is 0 r.page_size r.in_force r.pages
  pub within_counting : r.in_force ≤ r.counting
  pub within_frames : r.counting ≤ r.frames

-- of a log whose header is accepted, in that word order: the frames counted hold, the next one does not, and `stop` says why
pub record Stops (big : Bool) (log : List ℕ) (r : Summary) : Type 0 where
  pub counted : (k : ℕ) → k < r.counting → holds big r.page_size log k ≡ true
  pub fails : holds big r.page_size log r.counting ≡ false
  pub whole : (r.stop ≡ 0) ↔ (length log ≡ frame_at r.page_size r.counting)
  pub cut : r.stop ≡ 1 → length log < frame_at r.page_size (suc r.counting)
  pub zero_number : r.stop ≡ 2 → page_number r.page_size log r.counting ≡ 0
  pub other_salts : r.stop ≡ 3 → salted log (frame_at r.page_size r.counting) ≡ false
  pub other_sums : r.stop ≡ 4 → carries log (frame_at r.page_size r.counting) (sums_after big r.page_size log (suc r.counting)) ≡ false
  pub lock_byte : r.stop ≡ 5 → page_number r.page_size log r.counting ≡ lock_page r.page_size
  pub one : r.stop ≤ 5
