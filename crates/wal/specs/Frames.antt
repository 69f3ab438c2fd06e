-- Frames of a log, which of them count, and the last commit. `big` is the log's word order and `size` its page size; frames are indexed from 0.
use Rattle.std.specs.Prelude.{ℕ, zero, suc, ◌+◌, ◌*◌, ◌/◌, Bool, true, cond, not, ◌&&◌, List, leb, eqb, length}
use Rattle.number.specs.Bytes.{be}
use Rattle.paging.specs.Pages.{lock_page}
use Rattle.wal.specs.Sums.{Sums, sums_over}
use Rattle.wal.specs.declared.Found.{Found}

-- where frame k begins, behind the header of 32 bytes: page number, size after commit or 0, two salts, two sums, page
unfoldable pub frame_at : (size k : ℕ) → ℕ
frame_at size k = 32 + k * (24 + size)

abbrev pub page_number : (size : ℕ) → List ℕ → (k : ℕ) → ℕ
page_number size log k = be 4 log (frame_at size k)

abbrev pub commit_size : (size : ℕ) → List ℕ → (k : ℕ) → ℕ
commit_size size log k = be 4 log (frame_at size k + 4)

-- the frame at `at`: its number is neither 0 nor the lock-byte page's, and its salts are the header's
unfoldable pub marked : (size : ℕ) → List ℕ → (at : ℕ) → Bool
marked size log at =
    not (eqb (be 4 log at) 0) && not (eqb (be 4 log at) (lock_page size)) && eqb (be 4 log (at + 8)) (be 4 log 16) && eqb (be 4 log (at + 12)) (be 4 log 20)

-- the frame at `at` has the header's salts
unfoldable pub salted : List ℕ → (at : ℕ) → Bool
salted log at = eqb (be 4 log (at + 8)) (be 4 log 16) && eqb (be 4 log (at + 12)) (be 4 log 20)

-- the frame at `at` carries the sums s
unfoldable pub carries : List ℕ → (at : ℕ) → Sums → Bool
carries log at s = eqb (be 4 log (at + 16)) s.0 && eqb (be 4 log (at + 20)) s.1

-- the sums over the header's first 24 bytes, from (0,0)
abbrev pub header_sums : (big : Bool) → List ℕ → Sums
header_sums big log = sums_over big log 0 3 (0, 0)

-- the sums carried on over a frame: its first 8 bytes and the page
abbrev pub frame_sums : (big : Bool) (size : ℕ) → List ℕ → (at : ℕ) → Sums → Sums
frame_sums big size log at s = sums_over big log (at + 24) (size / 8) (sums_over big log at 1 s)

-- the sums carried on over the header and k frames
unfoldable pub sums_after : (big : Bool) (size : ℕ) → List ℕ → (k : ℕ) → Sums
sums_after big size log zero = header_sums big log
sums_after big size log (suc k) = frame_sums big size log (frame_at size k) (sums_after big size log k)

-- frame k is whole, its number is neither 0 nor the lock-byte page's, its salts are the header's and its sums match
unfoldable pub holds : (big : Bool) (size : ℕ) → List ℕ → (k : ℕ) → Bool
holds big size log k =
    leb (frame_at size (suc k)) (length log) && marked size log (frame_at size k) && carries log (frame_at size k) (sums_after big size log (suc k))

-- the first k frames count: each holds, and all before it count
unfoldable pub counting : (big : Bool) (size : ℕ) → List ℕ → (k : ℕ) → Bool
counting big size log zero = true
counting big size log (suc k) = counting big size log k && holds big size log k

-- frame k counts and is a commit
unfoldable pub commits : (big : Bool) (size : ℕ) → List ℕ → (k : ℕ) → Bool
commits big size log k = counting big size log (suc k) && not (eqb (commit_size size log k) 0)

-- one more than the last index below n at which `test` holds, or 0 for none: the number, from 1, of the last such frame
unfoldable pub last_of : (test : ℕ → Bool) (n : ℕ) → ℕ
last_of test zero = 0
last_of test (suc k) = cond (test k) (suc k) (last_of test k)

-- the number of the last counting commit frame, or 0 for none. (A log has fewer frames than bytes.)
abbrev pub last_commit : (big : Bool) (size : ℕ) → List ℕ → ℕ
last_commit big size log = last_of (commits big size log) (length log)

-- how many frames count
abbrev pub count_of : (big : Bool) (size : ℕ) → List ℕ → ℕ
count_of big size log = last_of (λ (k : ℕ). counting big size log (suc k)) (length log)

-- what the scan finds
abbrev pub scan_of : (big : Bool) (size : ℕ) → List ℕ → Found
scan_of big size log = record { counting = count_of big size log; commit = last_commit big size log }

-- the last frame in force for page p: the number of the last of the first m frames that holds it, or 0 for none
abbrev pub last_frame : (size : ℕ) → List ℕ → (p m : ℕ) → ℕ
last_frame size log p m = last_of (λ (k : ℕ). eqb (page_number size log k) p) m
