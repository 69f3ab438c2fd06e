-- The answers of quick reading, for every image and every question. Definitions only.
use Rattle.std.specs.Prelude.{ℕ, zero, suc, cond, List, eqb, ltb, ℤ}
use Rattle.number.specs.Bytes.{bias_of}
use Rattle.header.specs.Header.{usable_of, pages_of, header_refusal}
use Rattle.page.specs.declared.Place.TheVariants.{PayloadPage}
use Rattle.page.specs.Header.{page_type, cell_count}
use Rattle.page.specs.Place.{allowed}
use Rattle.page.specs.Fault.{cell_fault}
use Rattle.dealing.specs.File.{level_limit}
use Rattle.dealing.specs.Walk.{in_range}
use Rattle.image.specs.Pages.{page_in, head_of}
use Rattle.image.specs.Image.{file_of}
use Rattle.lookup.specs.Found as Fo
use Rattle.lookup.specs.Fetched as Fe
use Rattle.lookup.specs.Answers.{cell_fetched, or_fault}
use Rattle.quick.specs.Step as St
use Rattle.quick.specs.Search.{page_step}

-- what page p said, and what `below` finds under a child, whose number is one of 1 to N (20)
abbrev pub stepped : (N p : ℕ) (below : ℕ → Fo.Found) → St.Step → Fo.Found
stepped N p below (St.Refused number) = Fo.Refused number p
stepped N p below St.Nothing = Fo.Nothing
stepped N p below (St.Cell i n) = Fo.At p i n
stepped N p below (St.Child t) = cond (in_range N t) (below t) (Fo.Refused 20 p)

-- from a page down, with so many levels left (24)
unfoldable pub find_page : List ℕ → (x levels page : ℕ) → Fo.Found
find_page b x zero p = Fo.Refused 24 p
find_page b x (suc l) p = stepped (pages_of b) p (find_page b x l) (page_step (page_in b p) (usable_of b) (head_of p) x)

-- 1 to 11, and 20 for a root outside 1 to N, report page 0
unfoldable pub find_of : List ℕ → (root : ℕ) (row : ℤ) → Fo.Found
find_of b root row =
    cond (eqb (header_refusal b) 0) (cond (in_range (pages_of b) root) (find_page b (bias_of row) level_limit root) (Fo.Refused 20 0))
    (Fo.Refused (header_refusal b) 0)

-- cell i of page p: 22 for a page whose cells have no payload, 46 for a cell past the last, 23 and 26 of the cell itself; then as payload
unfoldable pub page_quick : List ℕ → (page cell room : ℕ) → Fe.Fetched
page_quick b p i room =
    cond (allowed PayloadPage (page_type (page_in b p) (head_of p)))
    (cond (ltb i (cell_count (page_in b p) (head_of p)))
    (or_fault (cell_fault (page_in b p) (usable_of b) (head_of p) i) p (cell_fetched (file_of b) p ((file_of b).cell p i) room))
    (Fe.Refused 46 0))
    (Fe.Refused 22 p)

-- 1 to 11, and 46 for a page outside 1 to N, report page 0
unfoldable pub quick_of : List ℕ → (page cell room : ℕ) → Fe.Fetched
quick_of b p i room =
    cond (eqb (header_refusal b) 0) (cond (in_range (pages_of b) p) (page_quick b p i room) (Fe.Refused 46 0))
    (Fe.Refused (header_refusal b) 0)
