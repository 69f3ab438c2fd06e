-- A journal's records: a page number, the page, a sum; one behind the other in segments, each behind a header of its own.
use Rattle.std.specs.Prelude.{ℕ, zero, suc, ◌+◌, ◌-◌, ◌*◌, ◌/◌, ◌%◌, ◌^◌, Bool, true, false, cond, not, List, [], ◌∷◌, length, ◌==◌, nat_lt}
use Rattle.number.specs.Bytes.{byte_at, be}
use Rattle.paging.specs.Pages.{lock_page}
use Rattle.journal.specs.Header.{nonce_at, most_at, pages_in, sector_of, size_of, headed}

-- the nonce and the first k of the bytes at size less 200, 400 and so on, of the page at `at`, modulo 2^32
unfoldable pub sum_of : List ℕ → (nonce at size k : ℕ) → ℕ
sum_of j nonce at size zero = nonce
sum_of j nonce at size (suc k) = (sum_of j nonce at size k + byte_at j (at + (size - 200 * suc k))) % 2 ^ 32

-- a page's sum: while the offset is above 0
abbrev pub page_sum : List ℕ → (nonce at : ℕ) → ℕ
page_sum j nonce at = sum_of j nonce at (size_of j) ((size_of j - 1) / 200)

-- where the record after the one at `at` would begin
abbrev pub after : List ℕ → (at : ℕ) → ℕ
after j at = at + (size_of j + 8)

-- a record that ends them all: a missing byte, number 0 or the lock-byte page's, or a wrong sum
unfoldable pub ends : List ℕ → (nonce at : ℕ) → Bool
ends j nonce at =
    cond (nat_lt (length j) (after j at)) true
    (cond (be 4 j at == 0) true
    (cond (be 4 j at == lock_page (size_of j)) true (not (be 4 j (at + 4 + size_of j) == page_sum j nonce (at + 4)))))

-- a record to lay down: the page's number, and where the page begins in the journal
pub record Record : Type 0 where
  pub number : ℕ
  pub place : ℕ

abbrev pub record_at : List ℕ → (at : ℕ) → Record
record_at j at = record { number = be 4 j at; place = at + 4 }

-- the record at `at` before others, unless its number is above n: then it is skipped
unfoldable pub offer : List ℕ → (at : ℕ) → List Record → List Record
offer j at rs = cond (nat_lt (pages_in j) (be 4 j at)) rs (record_at j at ∷ rs)

-- where the header behind records that end at `at` would stand: the first multiple of the sector size, counted from the journal's start
abbrev pub sector_from : List ℕ → (at : ℕ) → ℕ
sector_from j at = at + (sector_of j - at % sector_of j) % sector_of j

-- The records that are laid down from `at` on, where `left` more of a segment with that nonce are counted. Where none is left, the next header is looked
-- for; where there is none, and where a record ends them, nothing more is read. Each step goes on by a byte or more, and `fuel` is as many steps.
unfoldable pub records_from : (fuel : ℕ) → List ℕ → (nonce left at : ℕ) → List Record
records_from zero j nonce left at = []
records_from (suc fuel) j nonce left at =
    cond (left == 0)
    (cond (headed j (sector_from j at))
    (records_from fuel j (nonce_at j (sector_from j at)) (most_at j (sector_from j at)) (sector_from j at + sector_of j))
    [])
    (cond (ends j nonce at) [] (offer j at (records_from fuel j nonce (left - 1) (after j at))))

-- what is laid down from `at` on; steps for all of the journal are always enough
abbrev pub rest_from : (j : List ℕ) (nonce left at : ℕ) → List Record
rest_from j nonce left at = records_from (suc (length j)) j nonce left at

-- the journal's records that are laid down, of all segments
abbrev pub laid : List ℕ → List Record
laid j = records_from (suc (length j)) j (nonce_at j 0) (most_at j 0) (sector_of j)

-- whether one of the records carries page p, and where its page begins
unfoldable pub carries : List Record → (p : ℕ) → Bool
carries [] p = false
carries (r ∷ rs) p = cond (r.number == p) true (carries rs p)

unfoldable pub place_of : List Record → (p : ℕ) → ℕ
place_of [] p = 0
place_of (r ∷ rs) p = cond (r.number == p) r.place (place_of rs p)

-- a page stands twice among the records (45)
unfoldable pub twice : List Record → Bool
twice [] = false
twice (r ∷ rs) = cond (carries rs r.number) true (twice rs)
