-- What a journal says of itself: how far recovery reads it, and why no further. Headers, records and what ends them, `journal` says.
use Rattle.std.specs.Prelude.{ℕ, zero, suc, ◌+◌, ◌-◌, cond, List, ltb, eqb, length}
use Rattle.number.specs.Bytes.{be}
use Rattle.paging.specs.Pages.{page_limit, size_fits, lock_page}
use Rattle.journal.specs.Header.{magic_high, magic_low, count_at, nonce_at, most_at, pages_in, sector_of, size_of, headed}
use Rattle.journal.specs.Records.{after, ends, sector_from, laid, twice}

-- What a summary tells, by numbers. Header 0: there; 1 under 28 bytes, 2 wrong magic. Stop: as `header_stop` and `record_stop` have it.
pub record Summary : Type 0 where
  pub refusal : ℕ
  pub header : ℕ
  pub page_size : ℕ
  pub sector_size : ℕ
  pub pages : ℕ
  pub segments : ℕ
  pub counting : ℕ
  pub laid : ℕ
  pub stop : ℕ

pub record Tally : Type 0 where
  pub segments : ℕ
  pub counting : ℕ
  pub laid : ℕ
  pub stop : ℕ

-- Why there is no header at s: 0 it does not fit; 1 its magic is wrong; 2 its sector or page size is not the first header's, nothing else being left.
unfoldable pub header_stop : List ℕ → (s : ℕ) → ℕ
header_stop j s =
    cond (ltb (length j) (s + 28)) 0 (cond (eqb (be 4 j s) magic_high) (cond (eqb (be 4 j (s + 4)) magic_low) 2 1) 1)

-- Why the record at `at`, of the segment whose header is at s, ends them: 7 the file ends after whole records that ffffffff counts; 3 it is cut; 4 its number is 0;
-- 6 that is the lock-byte page's; 5 its sum does not match, nothing else being left. The tests stand in the order of `ends`.
unfoldable pub record_stop : List ℕ → (s at : ℕ) → ℕ
record_stop j s at =
    cond (ltb (length j) (after j at))
    (cond (eqb (count_at j s) 0xffffffff) (cond (ltb at (length j)) 3 7) 3)
    (cond (eqb (be 4 j at) 0) 4 (cond (eqb (be 4 j at) (lock_page (size_of j))) 6 5))

-- one for a record that is laid down: numbers above n are skipped
unfoldable pub layable : (n p : ℕ) → ℕ
layable n p = cond (ltb n p) 0 1

abbrev pub tally_is : (segments counting laid stop : ℕ) → Tally
tally_is segments counting laid stop = record { segments = segments; counting = counting; laid = laid; stop = stop }

-- so many more headers and records before those of t
abbrev pub plus : (segments counting laid : ℕ) → Tally → Tally
plus a b c t = tally_is (a + t.segments) (b + t.counting) (c + t.laid) t.stop

-- Headers and records from `at` on, in the steps of `records_from`: `left` more are counted of the segment whose header is at s.
unfoldable pub tally_from : (fuel : ℕ) → List ℕ → (s left at : ℕ) → Tally
tally_from zero j s left at = tally_is 0 0 0 0
tally_from (suc fuel) j s left at =
    cond (eqb left 0)
    (cond (headed j (sector_from j at))
    (plus 1 0 0 (tally_from fuel j (sector_from j at) (most_at j (sector_from j at)) (sector_from j at + sector_of j)))
    (tally_is 0 0 0 (header_stop j (sector_from j at))))
    (cond (ends j (nonce_at j s) at)
    (tally_is 0 0 0 (record_stop j s at))
    (plus 0 1 (layable (pages_in j) (be 4 j at)) (tally_from fuel j s (left - 1) (after j at))))

-- the whole journal, the first header included
unfoldable pub tally_of : List ℕ → Tally
tally_of j = plus 1 0 0 (tally_from (suc (length j)) j 0 (most_at j 0) (sector_of j))

-- there is no journal (1 under 28 bytes, 2 wrong magic), or it is refused with that number: all that follows is 0
abbrev pub untold : (refusal header : ℕ) → Summary
untold refusal header =
    record { refusal = refusal; header = header; page_size = 0; sector_size = 0; pages = 0; segments = 0; counting = 0; laid = 0; stop = 0 }

-- so many, or 4,294,967,295 for more
unfoldable pub capped : ℕ → ℕ
capped n = cond (ltb n 0xffffffff) n 0xffffffff

-- with these sizes, n and tally
abbrev pub summary_is : (refusal size sector n : ℕ) → Tally → Summary
summary_is refusal size sector n t =
    record {
      refusal = refusal;
      header = 0;
      page_size = size;
      sector_size = sector;
      pages = n;
      segments = capped t.segments;
      counting = t.counting;
      laid = t.laid;
      stop = t.stop;
    }

-- 42 n over the limit, 45 a page twice among the records laid down
unfoldable pub refusal_of : List ℕ → ℕ
refusal_of j = cond (ltb page_limit (pages_in j)) 42 (cond (twice (laid j)) 45 0)

-- the journal behind a first header that fits; with 42 and 45 all is told too
unfoldable pub told : List ℕ → Summary
told j = summary_is (refusal_of j) (size_of j) (sector_of j) (pages_in j) (tally_of j)

-- the journal whose header is there: 41 page or sector size
unfoldable pub summary_in : List ℕ → Summary
summary_in j = cond (size_fits (size_of j)) (cond (size_fits (sector_of j)) (told j) (untold 41 0)) (untold 41 0)

-- the whole journal
unfoldable pub journal_summary_of : List ℕ → Summary
journal_summary_of j =
    cond (ltb (length j) 28) (untold 0 1)
    (cond (eqb (be 4 j 0) magic_high) (cond (eqb (be 4 j 4) magic_low) (summary_in j) (untold 0 2)) (untold 0 2))
