-- What a journal makes of an image.
use Rattle.std.specs.Prelude.{ℕ, zero, suc, ◌-◌, ◌*◌, Bool, true, false, cond, not, List, ◌++◌, length, drop, ◌==◌, nat_lt}
use Rattle.number.specs.Bytes.{part}
use Rattle.paging.specs.Pages.{page_limit, lock_page, lock_bytes, join_pages, over, size_fits}
use Rattle.journal.specs.Header.{absent, pages_in, sector_of, size_of}
use Rattle.journal.specs.Records.{laid, carries, place_of, twice}
use Rattle.journal.specs.Recovered as D

-- page p comes from the record that carries it, or else from the image, cut at the journal's page size. The lock-byte page is copied from the image, or
-- is zeros.
unfoldable pub shown : (j image : List ℕ) (p : ℕ) → List ℕ
shown j image p =
    cond (p == lock_page (size_of j)) (lock_bytes (size_of j) image)
    (cond (carries (laid j) p) (part j (place_of (laid j) p) (size_of j)) (part image ((p - 1) * size_of j) (size_of j)))

-- page p stands in neither place: no record carries it, and it does not lie wholly within the image. The lock-byte page is never missed.
unfoldable pub lacks : (j image : List ℕ) (p : ℕ) → Bool
lacks j image p =
    cond (p == lock_page (size_of j)) false (cond (carries (laid j) p) false (nat_lt (length image) (p * size_of j)))

-- a page of 1 to n stands in neither place (43)
unfoldable pub missing : (j image : List ℕ) (n : ℕ) → Bool
missing j image zero = false
missing j image (suc n) = cond (missing j image n) true (lacks j image (suc n))

abbrev pub refused : (number : ℕ) → D.Recovered
refused number = record { refusal = number; pages = 0; length = 0 }

abbrev pub done : (pages length : ℕ) → D.Recovered
done n l = record { refusal = 0; pages = n; length = l }

-- with no journal the image is handed on as it is, and no pages are counted
unfoldable pub copied : (image : List ℕ) (room : ℕ) → D.Recovered
copied image room = cond (nat_lt room (length image)) (refused 44) (done 0 (length image))

-- the refusals from 45 on, and the answer
unfoldable pub restored : (j image : List ℕ) (room : ℕ) → D.Recovered
restored j image room =
    cond (twice (laid j)) (refused 45)
    (cond (missing j image (pages_in j)) (refused 43)
    (cond (nat_lt room (pages_in j * size_of j)) (refused 44) (done (pages_in j) (pages_in j * size_of j))))

-- what recovery answers, with so much room in the output
unfoldable pub recovery : (j image : List ℕ) (room : ℕ) → D.Recovered
recovery j image room =
    cond (absent j) (copied image room)
    (cond (not (size_fits (size_of j))) (refused 41)
    (cond (not (size_fits (sector_of j))) (refused 41)
    (cond (nat_lt page_limit (pages_in j)) (refused 42) (restored j image room))))

-- What the output then holds: it changes only on success, and only in the recovered length.

unfoldable pub copied_output : (image out : List ℕ) → List ℕ
copied_output image out = cond ((copied image (length out)).refusal == 0) (over out 0 image) out

unfoldable pub restored_output : (j image out : List ℕ) → List ℕ
restored_output j image out =
    cond ((restored j image (length out)).refusal == 0)
    (join_pages (shown j image) (pages_in j) ++ drop (pages_in j * size_of j) out)
    out

unfoldable pub output : (j image out : List ℕ) → List ℕ
output j image out =
    cond ((recovery j image (length out)).refusal == 0)
    (cond (absent j) (over out 0 image) (join_pages (shown j image) (pages_in j) ++ drop (pages_in j * size_of j) out))
    out
