-- Refusals 1 to 11 (5 comes after 9), and what an image that passes them is: N pages of one size, of which U
-- bytes each are used. What lies past page N is no part of it.
use Rattle.std.specs.Prelude.{ℕ, ◌+◌, ◌-◌, ◌*◌, ◌/◌, ◌%◌, ◌≤◌, Bool, true, false, cond, not, ◌&&◌, List, [], ◌∷◌, eqb, ltb, length, replicate}
use Rattle.number.specs.Bytes.{byte_at, be, part}
pub use Rattle.paging.specs.Pages.{page_limit}
use Rattle.header.specs.declared.Header as D
use Rattle.header.specs.Pages.{Pages}

-- what the check of 1 to 11 answers, with the refusal's number or 0. Where it refuses, the other fields are 0
pub record Header : Type 0 where
  pub refusal : ℕ
  pub size : ℕ
  pub usable : ℕ
  pub pages : ℕ

-- "SQLite format 3" and a zero
abbrev pub magic : List ℕ
magic = 83 ∷ 81 ∷ 76 ∷ 105 ∷ 116 ∷ 101 ∷ 32 ∷ 102 ∷ 111 ∷ 114 ∷ 109 ∷ 97 ∷ 116 ∷ 32 ∷ 51 ∷ 0 ∷ []

-- the bytes from `at` on begin with these
unfoldable pub holds : List ℕ → (at : ℕ) → List ℕ → Bool
holds b at [] = true
holds b at (x ∷ xs) = cond (eqb (byte_at b at) x) (holds b (at + 1) xs) false

-- the page size that the number at 16 stands for: a power of two from 512 to 32768, or 1 for 65536; 0 where it stands for none
unfoldable pub size_for : (field : ℕ) → ℕ
size_for x =
    cond (eqb x 1) 65536
    (cond (eqb x 512) 512
    (cond (eqb x 1024) 1024
    (cond (eqb x 2048) 2048
    (cond (eqb x 4096) 4096 (cond (eqb x 8192) 8192 (cond (eqb x 16384) 16384 (cond (eqb x 32768) 32768 0)))))))

unfoldable pub size_of : List ℕ → ℕ
size_of b = size_for (be 2 b 16)

-- the pages present
unfoldable pub present_of : List ℕ → ℕ
present_of b = length b / size_of b

-- the count at 28 holds: it is not zero, and the number at 24 equals the one at 92. Else a writer that does not keep it has changed the file since, and it is stale
unfoldable pub counted : List ℕ → Bool
counted b = not (eqb (be 4 b 28) 0) && eqb (be 4 b 24) (be 4 b 92)

-- N, the count where it holds: pages are numbered 1 to N
unfoldable pub pages_of : List ℕ → ℕ
pages_of b = cond (counted b) (be 4 b 28) (present_of b)

-- U: the bytes of a page that are used, from its start on
unfoldable pub usable_of : List ℕ → ℕ
usable_of b = size_of b - byte_at b 20

-- When each is refused.

-- length under 512
abbrev pub bad1 : List ℕ → Bool
bad1 b = ltb (length b) 512

abbrev pub bad2 : List ℕ → Bool
bad2 b = not (holds b 0 magic)

abbrev pub bad3 : List ℕ → Bool
bad3 b = eqb (size_of b) 0

-- no whole number of pages
abbrev pub bad4 : List ℕ → Bool
bad4 b = not (eqb (length b % size_of b) 0)

abbrev pub bad6 : List ℕ → Bool
bad6 b = ltb (usable_of b) 480

-- bytes 21 to 23 are not 64, 32, 32
abbrev pub bad7 : List ℕ → Bool
bad7 b = not (holds b 21 (64 ∷ 32 ∷ 32 ∷ []))

abbrev pub bad_version : (version : ℕ) → Bool
bad_version v = cond (eqb v 1) false (cond (eqb v 2) false true)

-- read version
abbrev pub bad8 : List ℕ → Bool
bad8 b = bad_version (byte_at b 19)

-- fewer pages are present than a count that holds: where it does not, N is the pages present
abbrev pub bad9 : List ℕ → Bool
bad9 b = ltb (present_of b) (pages_of b)

-- N over the limit
abbrev pub bad5 : List ℕ → Bool
bad5 b = ltb page_limit (pages_of b)

-- incremental vacuum without auto-vacuum
abbrev pub bad_vacuum : (vacuum incremental : ℕ) → Bool
bad_vacuum v i = cond (eqb v 0) (not (eqb i 0)) false

-- the number at 64 is set while the one at 52 is zero
abbrev pub bad10 : List ℕ → Bool
bad10 b = bad_vacuum (be 4 b 52) (be 4 b 64)

abbrev pub bad11 : List ℕ → Bool
bad11 b = not (holds b 72 (replicate 20 0))

-- the first of 1 to 4 that refuses the image, or 0
unfoldable pub form_refusal : List ℕ → ℕ
form_refusal b = cond (bad1 b) 1 (cond (bad2 b) 2 (cond (bad3 b) 3 (cond (bad4 b) 4 0)))

-- the first of 10 and 11, or 0
abbrev pub late_refusal : List ℕ → ℕ
late_refusal b = cond (bad10 b) 10 (cond (bad11 b) 11 0)

-- the first of 9, 5, 10 and 11, or 0
abbrev pub count_refusal : List ℕ → ℕ
count_refusal b = cond (bad9 b) 9 (cond (bad5 b) 5 (late_refusal b))

-- the first of 6, 7, 8, 9, 5, 10 and 11, or 0
unfoldable pub field_refusal : List ℕ → ℕ
field_refusal b = cond (bad6 b) 6 (cond (bad7 b) 7 (cond (bad8 b) 8 (count_refusal b)))

-- the first of 1 to 11, in the order 1, 2, 3, 4, 6, 7, 8, 9, 5, 10, 11, that refuses the image, or 0
unfoldable pub header_refusal : List ℕ → ℕ
header_refusal b = cond (eqb (form_refusal b) 0) (field_refusal b) (form_refusal b)

-- what the check of 1 to 4 answers: the page size and the pages present. Where it refuses, the other fields are 0
unfoldable pub form_in : List ℕ → Pages
form_in b =
    cond (eqb (form_refusal b) 0) (record { refusal = 0; size = size_of b; pages = present_of b })
    (record { refusal = form_refusal b; size = 0; pages = 0 })

-- what the check of 1 to 11 answers
unfoldable pub header_in : List ℕ → Header
header_in b =
    cond (eqb (header_refusal b) 0) (record { refusal = 0; size = size_of b; usable = usable_of b; pages = pages_of b })
    (record { refusal = header_refusal b; size = 0; usable = 0; pages = 0 })

-- what the header of an image says that passes 1 to 11
abbrev pub header_of : List ℕ → D.Header
header_of b = record { size = size_of b; usable = usable_of b; pages = pages_of b }

-- Where recovery shows the image alone, and nowhere else: 24, 28 and 92 are not read, and 5 is about the pages present, right after 4.

-- the first of 1 to 5, or 0
unfoldable pub size_refusal : List ℕ → ℕ
size_refusal b = cond (eqb (form_refusal b) 0) (cond (ltb page_limit (present_of b)) 5 0) (form_refusal b)

-- what that check answers: its pages are the pages present
unfoldable pub pages_in : List ℕ → Pages
pages_in b =
    cond (eqb (size_refusal b) 0) (record { refusal = 0; size = size_of b; pages = present_of b })
    (record { refusal = size_refusal b; size = 0; pages = 0 })

-- page p of an image with pages of that size
unfoldable pub page_of : List ℕ → (size p : ℕ) → List ℕ
page_of b size p = part b ((p - 1) * size) size

-- page p lies within the image
pub record Within (b : List ℕ) (size p : ℕ) : Type 0 where
  pub low : 1 ≤ p
  pub inside : p * size ≤ length b
