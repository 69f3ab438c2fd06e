-- What recovery of the whole file keeps at hand, a mark for each page that a frame in force holds, and what it lays down.
use Rattle.std.specs.Prelude.{ℕ, zero, suc, ◌+◌, ◌-◌, ◌*◌, ◌<◌, ◌≤◌, ◌≡◌, Bool, true, cond, not, List, ◌++◌, ltb, eqb, length, drop}
use Rattle.number.specs.Bytes.{part}
use Rattle.paging.specs.Pages.{lock_page, join_pages, over}
use Rattle.paging.specs.Bits.{bit_at}
use Rattle.wal.specs.Frames.{frame_at, page_number, last_frame}
use Rattle.wal.specs.View.{shown_at, room_refusal}

-- one of the first m frames holds page p
abbrev pub held : (size : ℕ) (log : List ℕ) (p m : ℕ) → Bool
held size log p m = not (eqb (last_frame size log p m) 0)

-- t tells of each page of 1 to n whether one of the first m frames holds it
pub record Marks (size : ℕ) (log : List ℕ) (m n : ℕ) (t : List ℕ) : Type 0 where
  pub entry : (j : ℕ) → j < n → bit_at t j ≡ held size log (suc j) m

-- and marks the lock-byte page besides
pub record Covers (size : ℕ) (log : List ℕ) (m n : ℕ) (t : List ℕ) : Type 0 where
  pub entry : (j : ℕ) → j < n → bit_at t j ≡ cond (eqb (lock_page size) (suc j)) true (held size log (suc j) m)

-- page p has its bytes in frame f, or, where f is 0, in the image
pub record InPlace (log image : List ℕ) (size f p : ℕ) : Type 0 where
  pub framed : (f ≡ 0 → ⊥) → frame_at size (f - 1) + 24 + size ≤ length log
  pub imaged : f ≡ 0 → p * size ≤ length image

-- a page's bytes laid down as page p, where it is of 1 to n
unfoldable pub lay_frame : (size n p : ℕ) (bytes out : List ℕ) → List ℕ
lay_frame size n p bytes out = cond (eqb p 0) out (cond (ltb n p) out (over out ((p - 1) * size) bytes))

-- the first m frames laid down one after the other
unfoldable pub lay_frames : (size : ℕ) (log : List ℕ) (n : ℕ) (out : List ℕ) (m : ℕ) → List ℕ
lay_frames size log n out zero = out
lay_frames size log n out (suc k) =
    lay_frame size n (page_number size log k) (part log (frame_at size k + 24) size) (lay_frames size log n out k)

-- what whole recovery of n pages answers, and what the output then holds: the pages laid over it, or what it held
pub record Laid (size : ℕ) (log image : List ℕ) (m n : ℕ) (out : List ℕ) (refusal : ℕ) (out' : List ℕ) : Type 0 where
  pub refuses : refusal ≡ room_refusal size log image m n (length out)
  pub holds : out' ≡ cond (eqb refusal 0) (join_pages (shown_at size log image m) n ++ drop (n * size) out) out
