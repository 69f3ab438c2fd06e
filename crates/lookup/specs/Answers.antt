-- The answers of lookup and of fetching a payload, for every image and every question.
use Rattle.std.specs.Prelude.{ℕ, zero, suc, cond, List, ◌++◌, eqb, leb, ltb, ℤ, drop, ⊤, Result, Ok, Err}
use Rattle.refusal.specs.declared.Refusal.{Refusal}
use Rattle.refusal.specs.Rule.{number_of}
use Rattle.number.specs.Bytes.{bias_of}
use Rattle.header.specs.Header.{usable_of, header_refusal}
use Rattle.page.specs.declared.Place.TheVariants.{PayloadPage}
use Rattle.page.specs.Fault.{page_fault}
use Rattle.dealing.specs.File.{Cell, File}
use Rattle.dealing.specs.Walk.{in_range}
use Rattle.dealing.specs.Lookup as L
use Rattle.image.specs.Pages.{page_in, head_of}
use Rattle.image.specs.Image.{file_of}
use Rattle.lookup.specs.Found as Fo
use Rattle.lookup.specs.Fetched as Fe

-- nothing; page, index from 0 and length P of the cell; the refusal's number and the page that it reports
abbrev pub found_of : L.Answer → Fo.Found
found_of L.nowhere = Fo.Nothing
found_of (L.shows page cell length) = Fo.At page cell length
found_of (L.refuses number page) = Fo.Refused number page

-- 1 to 11 report page 0; then down from the root
unfoldable pub lookup_of : List ℕ → (root : ℕ) (row : ℤ) → Fo.Found
lookup_of b root row = cond (eqb (header_refusal b) 0) (found_of (L.lookup (file_of b) root (bias_of row))) (Fo.Refused (header_refusal b) 0)

-- 27 and 20 along a chain
abbrev pub followed_of : Result ⊤ Refusal → L.Followed
followed_of (Ok _) = L.whole
followed_of (Err e) = L.stops (number_of e.rule) e.page

-- 44 reports page 0
abbrev pub room_for : (length room : ℕ) → Fe.Fetched
room_for n room = cond (leb n room) (Fe.Copied n) (Fe.Refused 44 0)

abbrev pub along : L.Followed → Fe.Fetched → Fe.Fetched
along L.whole a = a
along (L.stops number page) a = Fe.Refused number page

-- a cell of page p: its chain, then the room
unfoldable pub cell_fetched : File → (p : ℕ) → Cell → (room : ℕ) → Fe.Fetched
cell_fetched f p c room = along (L.follow_cell f p c.links c.first) (room_for c.length room)

-- 0 where the page is fit, else the refusal
abbrev pub or_fault : (fault page : ℕ) → Fe.Fetched → Fe.Fetched
or_fault zero p a = a
or_fault (suc n) p a = Fe.Refused (suc n) p

-- page p: 22, 23 and 26, a table interior page being 22; then 46 for a cell past the last
unfoldable pub page_fetched : List ℕ → (page cell room : ℕ) → Fe.Fetched
page_fetched b p i room =
    or_fault (page_fault PayloadPage (page_in b p) (usable_of b) (head_of p)) p
    (cond (ltb i ((file_of b).count p)) (cell_fetched (file_of b) p ((file_of b).cell p i) room) (Fe.Refused 46 0))

-- 1 to 11, and 46 for a page outside 1 to N, report page 0
unfoldable pub fetched_of : List ℕ → (page cell room : ℕ) → Fe.Fetched
fetched_of b p i room =
    cond (eqb (header_refusal b) 0) (cond (in_range (file_of b).N p) (page_fetched b p i room) (Fe.Refused 46 0))
    (Fe.Refused (header_refusal b) 0)

-- what the buffer holds then: the payload and what it held past that, or all that it held
abbrev pub out_of : Fe.Fetched → (payload out : List ℕ) → List ℕ
out_of (Fe.Copied n) s out = s ++ drop n out
out_of (Fe.Refused number page) s out = out
