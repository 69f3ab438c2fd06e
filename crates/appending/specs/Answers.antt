-- What the calls answer, and what the lent tail and output hold then.
use Rattle.std.specs.Prelude.{ℕ, ◌+◌, ◌-◌, ◌*◌, Bool, true, false, cond, not, List, [], ◌∷◌, ◌++◌, ltb, eqb, length, get_or, drop}
use Rattle.number.specs.Bytes.{be}
use Rattle.paging.specs.Pages.{page_limit, lock_page, size_fits}
use Rattle.wal.specs.Frames.{frame_at, carries, header_sums}
use Rattle.wal.specs.State.{little_magic, big_magic, size_of, state_of}
use Rattle.appending.specs.Written.{header_bytes, frames_from, sums_from}
use Rattle.appending.specs.Tail.{tail_is, frames_of, tail_of, size_in, big_in, salts_in, sums_in, frames_in}
use Rattle.appending.specs.Appended.{Tail, Appended}

-- the most frames that a tail tells
abbrev pub frame_limit : ℕ
frame_limit = 4294967295

-- ---- the tail of a log
-- the header has its 32 bytes, a magic that gives a word order, and its sums in that order
unfoldable pub is_headed : (log : List ℕ) → Bool
is_headed log =
    cond (ltb (length log) 32) false
    (cond (eqb (be 4 log 0) little_magic) (carries log 8 (header_sums false log))
    (cond (eqb (be 4 log 0) big_magic) (carries log 8 (header_sums true log)) false))

-- 50; 40, 41, 42 as the reader; 47; 44; or 0
unfoldable pub scan_refusal : (log : List ℕ) (words : ℕ) → ℕ
scan_refusal log words =
    cond (is_headed log)
    (cond (eqb (state_of log).refusal 0) (cond (ltb frame_limit (frames_of log)) 47 (cond (ltb words 8) 44 0)) (state_of log).refusal)
    50

abbrev pub told_is : (refusal size frames pages : ℕ) → Tail
told_is refusal size frames pages = record { refusal = refusal; page_size = size; frames = frames; pages = pages }

unfoldable pub scan_of : (log : List ℕ) (words : ℕ) → Tail
scan_of log words =
    cond (eqb (scan_refusal log words) 0) (told_is 0 (size_of log) (frames_of log) (state_of log).pages) (told_is (scan_refusal log words) 0 0 0)

-- the words past 8 are as they were, with a refusal all of them
unfoldable pub scan_tail : (log tail : List ℕ) → List ℕ
scan_tail log tail = cond (eqb (scan_refusal log (length tail)) 0) (tail_of log ++ drop 8 tail) tail

-- ---- what is to be written
abbrev pub answer_is : (refusal at length : ℕ) → Appended
answer_is refusal at length = record { refusal = refusal; at = at; length = length }

-- on refusal nothing
abbrev pub answer_or : (refusal at length : ℕ) → Appended
answer_or refusal at length = cond (eqb refusal 0) (answer_is 0 at length) (answer_is refusal 0 0)

-- ---- a fresh log
-- 41; 44; or 0
unfoldable pub begin_refusal : (size words room : ℕ) → ℕ
begin_refusal size words room = cond (size_fits size) (cond (ltb words 8) 44 (cond (ltb room 32) 44 0)) 41

-- 32 bytes at 0: the header;
unfoldable pub begin_of : (size words room : ℕ) → Appended
begin_of size words room = answer_or (begin_refusal size words room) 0 32

unfoldable pub begin_out : (size sequence salt1 salt2 words : ℕ) (out : List ℕ) → List ℕ
begin_out size sequence salt1 salt2 words out =
    cond (eqb (begin_refusal size words (length out)) 0) (header_bytes size sequence salt1 salt2 ++ drop 32 out) out

-- and its tail
unfoldable pub begin_tail : (size sequence salt1 salt2 room : ℕ) (tail : List ℕ) → List ℕ
begin_tail size sequence salt1 salt2 room tail =
    cond (eqb (begin_refusal size (length tail) room) 0) (tail_of (header_bytes size sequence salt1 salt2) ++ drop 8 tail) tail

-- ---- a commit
-- the page size is one, and the word order is 0 or 1
unfoldable pub tail_fits : (tail : List ℕ) → Bool
tail_fits tail = cond (size_fits (size_in tail)) (cond (eqb (get_or tail 1 0) 0) true (eqb (get_or tail 1 0) 1)) false

-- a page of 1 to n that a frame may hold
unfoldable pub number_fits : (size n p : ℕ) → Bool
number_fits size n p = cond (eqb p 0) false (cond (ltb n p) false (not (eqb p (lock_page size))))

unfoldable pub numbers_fit : (size n : ℕ) → List ℕ → Bool
numbers_fit size n [] = true
numbers_fit size n (p ∷ rest) = cond (number_fits size n p) (numbers_fit size n rest) false

-- some pages, each of which a frame may hold, and their bytes (so n is not 0)
unfoldable pub given_fits : (size n : ℕ) (numbers : List ℕ) (long : ℕ) → Bool
given_fits size n numbers long =
    cond (eqb (length numbers) 0) false (cond (eqb long (length numbers * size)) (numbers_fit size n numbers) false)

abbrev pub added_length : (size : ℕ) (numbers : List ℕ) → ℕ
added_length size numbers = length numbers * (24 + size)

-- 44; 41; 42; 51; 47; 44; or 0
unfoldable pub append_refusal : (tail : List ℕ) (n : ℕ) (numbers : List ℕ) (long room : ℕ) → ℕ
append_refusal tail n numbers long room =
    cond (ltb (length tail) 8) 44
    (cond (tail_fits tail)
    (cond (ltb page_limit n) 42
    (cond (given_fits (size_in tail) n numbers long)
    (cond (ltb frame_limit (frames_in tail + length numbers)) 47 (cond (ltb room (added_length (size_in tail) numbers)) 44 0))
    51))
    41)

-- behind the last commit in force: the frames, so many bytes;
unfoldable pub append_of : (tail : List ℕ) (n : ℕ) (numbers : List ℕ) (long room : ℕ) → Appended
append_of tail n numbers long room =
    answer_or (append_refusal tail n numbers long room) (frame_at (size_in tail) (frames_in tail)) (added_length (size_in tail) numbers)

unfoldable pub append_out : (tail : List ℕ) (n : ℕ) (numbers pages out : List ℕ) → List ℕ
append_out tail n numbers pages out =
    cond (eqb (append_refusal tail n numbers (length pages) (length out)) 0)
    (frames_from (big_in tail) (size_in tail) (salts_in tail) n numbers pages (sums_in tail) ++ drop (added_length (size_in tail) numbers) out) out

-- and the tail behind them
abbrev pub tail_after : (tail : List ℕ) (n : ℕ) (numbers pages : List ℕ) → List ℕ
tail_after tail n numbers pages =
    tail_is (size_in tail) (big_in tail) (get_or tail 2 0) (get_or tail 3 0) (sums_from (big_in tail) (size_in tail) n numbers pages (sums_in tail)) (frames_in tail + length numbers) n

unfoldable pub append_tail : (tail : List ℕ) (n : ℕ) (numbers pages : List ℕ) (room : ℕ) → List ℕ
append_tail tail n numbers pages room =
    cond (eqb (append_refusal tail n numbers (length pages) room) 0) (tail_after tail n numbers pages ++ drop 8 tail) tail

-- ---- about the code alone
-- the place whose bytes 16 to 24 are the sums carried on over m frames: the last of them, or the header
unfoldable pub seal_at : (size m : ℕ) → ℕ
seal_at size m = cond (eqb m 0) 8 (frame_at size (m - 1))
