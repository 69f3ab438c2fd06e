-- Images made by sqlite3, whole and damaged, and a few put together from their pages and empty ones; and what the definitions say of them,
-- computed: the verdict with its ledgers, lookups, payloads.
use Prim.Native.Nat.{ℕ, zero, suc, ◌+◌, ◌-◌, ◌*◌}
use mathlib.Core.Path.{◌≡◌, refl}
use mathlib.Core.List.{List, [], ◌∷◌, ◌++◌, map}
use lib.IntN.{pos, negsuc}
use lib.ListN.{take, replicate}
use Rattle.header.specs.Header.{pages_of}
use Rattle.dealing.specs.Walk.{accepted, verdict_of}
use Rattle.image.specs.Payload.{payload_of}
use Rattle.image.specs.Image.{file_of}
use Rattle.image.proofs.RealImages.{laid, patched, tables, indexes, schemas, levels, vacuums}
use Rattle.verdict.specs.Verdict.{verdict_is, kinds_at, namers_at}
use Rattle.dealing.specs.Steps.{step_by, steps_to, steps_by}
use Rattle.verdict.specs.Answer.{Answer}
use Rattle.verdict.specs.Answer.{Accepted, Refused}
use Rattle.lookup.specs.Answers.{lookup_of, fetched_of, out_of}
use Rattle.lookup.specs.Found as Fo
use Rattle.lookup.specs.Fetched as Fe
use Rattle.altered.proofs.Computing as compute

-- the verdict with ledgers of N entries, and these at exit, from zeros
abbrev pub judged : List ℕ → Answer
judged b = verdict_is b [] (pages_of b) (pages_of b) (pages_of b)

abbrev pub kinds : List ℕ → List ℕ
kinds b = kinds_at b [] (replicate (pages_of b) 0) (pages_of b) (pages_of b)

abbrev pub namers : List ℕ → List ℕ
namers b = namers_at b [] (pages_of b) (replicate (pages_of b) 0) (pages_of b)

-- ---- good images

pub record GoodCase : Type 0 where
  pub image : List ℕ
  pub pages : ℕ
  pub kinds_are : List ℕ
  pub namers_are : List ℕ
  pub long : ℕ

abbrev pub good : List ℕ → (pages : ℕ) → (kinds namers : List ℕ) → GoodCase
good b n ks ns = record { image = b; pages = n; kinds_are = ks; namers_are = ns; long = 0 }

-- one with numbers spelled long
abbrev pub spelled : List ℕ → (pages : ℕ) → (kinds namers : List ℕ) → (long : ℕ) → GoodCase
spelled b n ks ns k = record { image = b; pages = n; kinds_are = ks; namers_are = ns; long = k }

-- what the verdict answers and leaves, and what it should
abbrev pub seen : GoodCase → Answer × ℕ × List ℕ × List ℕ
seen c = (judged c.image, pages_of c.image, kinds c.image, namers c.image)

abbrev pub told : GoodCase → Answer × ℕ × List ℕ × List ℕ
told c = (Accepted c.pages c.long, c.pages, c.kinds_are, c.namers_are)

-- an interior page with no cell, only a right pointer; a table leaf with no cell; such pages one below the other, from page p on
abbrev pub only_right : (right : ℕ) → List ℕ
only_right r = 5 ∷ 0 ∷ 0 ∷ 0 ∷ 0 ∷ 2 ∷ 0 ∷ 0 ∷ 0 ∷ 0 ∷ 0 ∷ r ∷ replicate 500 0

abbrev pub empty_page : (type : ℕ) → List ℕ
empty_page t = t ∷ 0 ∷ 0 ∷ 0 ∷ 0 ∷ 2 ∷ replicate 506 0

abbrev pub empty_leaf : List ℕ
empty_leaf = empty_page 13

unfoldable pub below : (more p : ℕ) → List ℕ
below zero p = empty_leaf
below (suc n) p = only_right (suc p) ++ below n (suc p)

-- page 1 of `levels`, whose one row names root 2, for a file of so many pages
abbrev pub first : (pages : ℕ) → List ℕ
first n = patched (take 512 levels) 1 31 (n ∷ [])

-- it, and a tree of so many levels and pages
unfoldable pub tower : (n : ℕ) → List ℕ
tower n = first (suc n) ++ below (n - 1) 2

-- an empty schema and a freelist: U is 480, so that page 2, a trunk, has room for 118 leaves, all other pages
unfoldable pub leaves : (n p : ℕ) → List ℕ
leaves zero p = []
leaves (suc n) p = 0 ∷ 0 ∷ 0 ∷ p ∷ leaves n (suc p)

unfoldable pub freelist : (leaves : ℕ) → List ℕ
freelist n =
    patched (patched (patched (first 0) 1 20 (32 ∷ [])) 1 28 (0 ∷ 0 ∷ 0 ∷ (2 + n) ∷ 0 ∷ 0 ∷ 0 ∷ 2 ∷ 0 ∷ 0 ∷ 0 ∷ (1 + n) ∷ [])) 1 100
    (13 ∷ 0 ∷ 0 ∷ 0 ∷ 0 ∷ 1 ∷ 224 ∷ 0 ∷ [])
    ++ (0 ∷ 0 ∷ 0 ∷ 0 ∷ 0 ∷ 0 ∷ 0 ∷ n ∷ leaves n 3) ++ replicate (504 - 4 * n) 0
    ++ replicate (512 * n) 0

-- to unfold the images
unfoldable images : ℕ
unfolding leaves freelist below tower tables indexes schemas levels vacuums laid patched
images = 0

-- as made; column four of the view's row is null, and not 0; two trunks: page 10 names two leaves and page 4 as the next, which names none
abbrev pub good_tables : List GoodCase
good_tables =
    good tables 12 (1 ∷ 1 ∷ 1 ∷ 3 ∷ 6 ∷ 6 ∷ 6 ∷ 4 ∷ 5 ∷ 2 ∷ 3 ∷ 3 ∷ []) (0 ∷ 1 ∷ 1 ∷ 10 ∷ 2 ∷ 2 ∷ 2 ∷ 3 ∷ 8 ∷ 1 ∷ 10 ∷ 10 ∷ [])
    ∷ good (patched tables 1 380 (0 ∷ [])) 12 (1 ∷ 1 ∷ 1 ∷ 3 ∷ 6 ∷ 6 ∷ 6 ∷ 4 ∷ 5 ∷ 2 ∷ 3 ∷ 3 ∷ [])
    (0 ∷ 1 ∷ 1 ∷ 10 ∷ 2 ∷ 2 ∷ 2 ∷ 3 ∷ 8 ∷ 1 ∷ 10 ∷ 10 ∷ [])
    ∷ good (patched tables 10 3 (4 ∷ 0 ∷ 0 ∷ 0 ∷ 2 ∷ [])) 12 (1 ∷ 1 ∷ 1 ∷ 2 ∷ 6 ∷ 6 ∷ 6 ∷ 4 ∷ 5 ∷ 2 ∷ 3 ∷ 3 ∷ [])
    (0 ∷ 1 ∷ 1 ∷ 10 ∷ 2 ∷ 2 ∷ 2 ∷ 3 ∷ 8 ∷ 1 ∷ 10 ∷ 10 ∷ [])
    ∷ []

pub good_tables-accepted : map seen good_tables ≡ map told good_tables
unfolding images compute.verdicts
good_tables-accepted = refl

-- as made; page 2 has 60 fragments
abbrev pub good_others : List GoodCase
good_others =
    good indexes 10 (1 ∷ 1 ∷ 1 ∷ 1 ∷ 6 ∷ 6 ∷ 4 ∷ 6 ∷ 4 ∷ 5 ∷ []) (0 ∷ 1 ∷ 1 ∷ 1 ∷ 2 ∷ 2 ∷ 2 ∷ 2 ∷ 8 ∷ 9 ∷ [])
    ∷ good schemas 6 (1 ∷ 1 ∷ 1 ∷ 6 ∷ 1 ∷ 6 ∷ []) (0 ∷ 4 ∷ 6 ∷ 1 ∷ 6 ∷ 1 ∷ [])
    ∷ good (patched schemas 2 5 (1 ∷ 164 ∷ 60 ∷ [])) 6 (1 ∷ 1 ∷ 1 ∷ 6 ∷ 1 ∷ 6 ∷ []) (0 ∷ 4 ∷ 6 ∷ 1 ∷ 6 ∷ 1 ∷ [])
    ∷ []

pub good_others-accepted : map seen good_others ≡ map told good_others
unfolding images compute.verdicts
good_others-accepted = refl

-- an image of one page
abbrev pub one_page : (type : ℕ) → List ℕ
one_page t = patched (first 1) 1 100 (t ∷ 0 ∷ 0 ∷ 0 ∷ 0 ∷ 2 ∷ 0 ∷ 0 ∷ [])

-- a table interior page with one cell, whose key 1 is spelled in two bytes; a table leaf with one, whose payload's length 3 and row number 1 are
abbrev pub long_key : List ℕ
long_key = 5 ∷ 0 ∷ 0 ∷ 0 ∷ 1 ∷ 1 ∷ 250 ∷ 0 ∷ 0 ∷ 0 ∷ 0 ∷ 4 ∷ 1 ∷ 250 ∷ replicate 492 0 ++ (0 ∷ 0 ∷ 0 ∷ 3 ∷ 128 ∷ 1 ∷ [])

abbrev pub long_row : List ℕ
long_row = 13 ∷ 0 ∷ 0 ∷ 0 ∷ 1 ∷ 1 ∷ 249 ∷ 0 ∷ 1 ∷ 249 ∷ replicate 495 0 ++ (128 ∷ 3 ∷ 128 ∷ 1 ∷ 2 ∷ 1 ∷ 5 ∷ [])

-- one empty page; a full trunk; numbers spelled long on an interior page and on a leaf
abbrev pub good_small : List GoodCase
good_small =
    good (one_page 13) 1 (1 ∷ []) (0 ∷ [])
    ∷ good (freelist 118) 120 (1 ∷ 2 ∷ replicate 118 3) (0 ∷ 1 ∷ replicate 118 2)
    ∷ spelled (first 4 ++ long_key ++ long_row ++ empty_leaf) 4 (1 ∷ 1 ∷ 6 ∷ 6 ∷ []) (0 ∷ 1 ∷ 2 ∷ 2 ∷ []) 3
    ∷ []

pub good_small-accepted : map seen good_small ≡ map told good_small
unfolding images compute.verdicts
good_small-accepted = refl

-- the count at 28. It holds, and pages of no meaning stand behind those counted: they are no part of the file. It is zero; it is too large,
-- or too small, and the numbers at 24 and 92 differ
abbrev pub good_counts : List GoodCase
good_counts =
    good (one_page 13 ++ replicate 1024 255) 1 (1 ∷ []) (0 ∷ [])
    ∷ good (schemas ++ replicate 512 13) 6 (1 ∷ 1 ∷ 1 ∷ 6 ∷ 1 ∷ 6 ∷ []) (0 ∷ 4 ∷ 6 ∷ 1 ∷ 6 ∷ 1 ∷ [])
    ∷ good (patched schemas 1 31 (0 ∷ [])) 6 (1 ∷ 1 ∷ 1 ∷ 6 ∷ 1 ∷ 6 ∷ []) (0 ∷ 4 ∷ 6 ∷ 1 ∷ 6 ∷ 1 ∷ [])
    ∷ good (patched (patched schemas 1 24 (1 ∷ [])) 1 28 (1 ∷ [])) 6 (1 ∷ 1 ∷ 1 ∷ 6 ∷ 1 ∷ 6 ∷ []) (0 ∷ 4 ∷ 6 ∷ 1 ∷ 6 ∷ 1 ∷ [])
    ∷ good (patched (patched schemas 1 92 (1 ∷ [])) 1 31 (5 ∷ [])) 6 (1 ∷ 1 ∷ 1 ∷ 6 ∷ 1 ∷ 6 ∷ []) (0 ∷ 4 ∷ 6 ∷ 1 ∷ 6 ∷ 1 ∷ [])
    ∷ []

pub good_counts-accepted : map seen good_counts ≡ map told good_counts
unfolding images compute.verdicts
good_counts-accepted = refl

-- 20 levels
abbrev pub good_tower : List GoodCase
good_tower =
    good (tower 20) 21 (1 ∷ 1 ∷ replicate 19 6) (0 ∷ 1 ∷ 2 ∷ 3 ∷ 4 ∷ 5 ∷ 6 ∷ 7 ∷ 8 ∷ 9 ∷ 10 ∷ 11 ∷ 12 ∷ 13 ∷ 14 ∷ 15 ∷ 16 ∷ 17 ∷ 18 ∷ 19 ∷ 20 ∷ [])
    ∷ []

pub good_tower-accepted : map seen good_tower ≡ map told good_tower
unfolding images compute.verdicts
good_tower-accepted = refl

-- as made
abbrev pub good_levels : List GoodCase
good_levels =
    good levels 41 (1 ∷ 1 ∷ replicate 39 6) (0 ∷ 1 ∷ replicate 18 38 ++ replicate 17 39 ++ 2 ∷ 2 ∷ 39 ∷ 39 ∷ [])
    ∷ []

pub good_levels-accepted : map seen good_levels ≡ map told good_levels
unfolding images compute.verdicts
good_levels-accepted = refl

-- pointer maps: as made; 64 may be zero, and bytes of the map past the entries about pages up to N may be anything; one page alone, with no map
abbrev pub good_maps : List GoodCase
good_maps =
    good vacuums 11 (1 ∷ 7 ∷ 1 ∷ 1 ∷ 3 ∷ 6 ∷ 6 ∷ 4 ∷ 5 ∷ 2 ∷ 3 ∷ []) (0 ∷ 0 ∷ 1 ∷ 1 ∷ 10 ∷ 3 ∷ 3 ∷ 4 ∷ 8 ∷ 1 ∷ 10 ∷ [])
    ∷ good (patched (patched (patched vacuums 1 67 (0 ∷ [])) 2 45 (9 ∷ 8 ∷ 7 ∷ 6 ∷ 5 ∷ 4 ∷ [])) 2 510 (3 ∷ 2 ∷ [])) 11
    (1 ∷ 7 ∷ 1 ∷ 1 ∷ 3 ∷ 6 ∷ 6 ∷ 4 ∷ 5 ∷ 2 ∷ 3 ∷ []) (0 ∷ 0 ∷ 1 ∷ 1 ∷ 10 ∷ 3 ∷ 3 ∷ 4 ∷ 8 ∷ 1 ∷ 10 ∷ [])
    ∷ good (patched (one_page 13) 1 55 (1 ∷ [])) 1 (1 ∷ []) (0 ∷ [])
    ∷ []

pub good_maps-accepted : map seen good_maps ≡ map told good_maps
unfolding images compute.verdicts
good_maps-accepted = refl

-- ---- damaged images: each is a good one with a few bytes changed

pub record BadCase : Type 0 where
  pub image : List ℕ
  pub number : ℕ
  pub page : ℕ

abbrev pub bad : List ℕ → (number page : ℕ) → BadCase
bad b n p = record { image = b; number = n; page = p }

abbrev pub answer : BadCase → Answer
answer c = judged c.image

abbrev pub refusal : BadCase → Answer
refusal c = Refused c.number c.page

-- pointers, and pages named twice
abbrev pub named : List BadCase
named =
    -- 20: past the last page are the number at 32, a right pointer, an overflow page's next; a child is 0, a trunk's leaf is 0
    bad (patched tables 1 35 (13 ∷ [])) 20 1
    ∷ bad (patched tables 2 11 (13 ∷ [])) 20 2
    ∷ bad (patched tables 8 3 (13 ∷ [])) 20 8
    ∷ bad (patched tables 2 510 (0 ∷ [])) 20 2
    ∷ bad (patched tables 10 11 (0 ∷ [])) 20 10
    -- 21: a trunk's two leaves are one page; a right pointer names page 1, an overflow page itself; the second root is the first, a chain's
    -- first page is a leaf
    ∷ bad (patched tables 10 15 (11 ∷ [])) 21 11
    ∷ bad (patched tables 2 11 (1 ∷ [])) 21 1
    ∷ bad (patched tables 8 3 (8 ∷ [])) 21 8
    ∷ bad (patched tables 1 461 (2 ∷ [])) 21 2
    ∷ bad (patched indexes 2 413 (5 ∷ [])) 21 5
    -- 30: with no freelist page 4 is never named; with 0 in column four page 2 is not
    ∷ bad (patched tables 1 35 (0 ∷ 0 ∷ 0 ∷ 0 ∷ 0 ∷ [])) 30 4
    ∷ bad (patched tables 1 494 (0 ∷ [])) 30 2
    ∷ []

pub named-refused : map answer named ≡ map refusal named
unfolding images compute.verdicts
named-refused = refl

-- tree pages
abbrev pub tree_pages : List BadCase
tree_pages =
    -- 22: page 1 is an index leaf; a root is no tree page; a table's child is an index leaf, an index's child a table leaf
    bad (patched tables 1 100 (10 ∷ [])) 22 1
    ∷ bad (patched tables 2 0 (0 ∷ [])) 22 2
    ∷ bad (patched tables 5 0 (10 ∷ [])) 22 5
    ∷ bad (patched indexes 8 0 (13 ∷ [])) 22 8
    -- 23: one fragment too few; a freeblock one byte short; a cell pointer that is U; the content starts one byte late; 61 fragments
    ∷ bad (patched tables 3 7 (1 ∷ [])) 23 3
    ∷ bad (patched tables 3 144 (6 ∷ [])) 23 3
    ∷ bad (patched tables 5 8 (2 ∷ 0 ∷ [])) 23 5
    ∷ bad (patched tables 5 6 (33 ∷ [])) 23 5
    ∷ bad (patched schemas 2 5 (1 ∷ 163 ∷ 61 ∷ [])) 23 2
    -- 26: a payload of 65537 bytes, and of 2^64 - 1; one of 65536 is not over the limit, but then the page is not sound
    ∷ bad (patched tables 3 148 (132 ∷ 128 ∷ 1 ∷ [])) 26 3
    ∷ bad (patched tables 3 148 (replicate 9 255)) 26 3
    ∷ bad (patched tables 3 148 (132 ∷ 128 ∷ 0 ∷ [])) 23 3
    -- 24: a leaf at level 2, others at level 3; a leaf at level 21
    ∷ bad (patched levels 2 11 (41 ∷ [])) 24 41
    ∷ bad (tower 21) 24 22
    -- 25: a row number equal to the key before it, or to the row number before it; a key less than a row number before it; -39 after the
    -- key -39; the schema too
    ∷ bad (patched tables 6 278 (1 ∷ [])) 25 6
    ∷ bad (patched tables 3 128 (4 ∷ [])) 25 3
    ∷ bad (patched tables 2 506 (4 ∷ [])) 25 2
    ∷ bad (patched levels 38 511 (217 ∷ [])) 25 4
    ∷ bad (patched schemas 4 317 (1 ∷ [])) 25 4
    ∷ []

pub tree_pages-refused : map answer tree_pages ≡ map refusal tree_pages
unfolding images compute.verdicts
tree_pages-refused = refl

-- overflow chains, schema rows, the freelist
abbrev pub others : List BadCase
others =
    -- 27: no first page; no next page before the end; a next page at the end; in the chain of an index page's cell
    bad (patched tables 3 511 (0 ∷ [])) 27 3
    ∷ bad (patched tables 8 3 (0 ∷ [])) 27 8
    ∷ bad (patched tables 9 3 (4 ∷ [])) 27 9
    ∷ bad (patched indexes 2 413 (0 ∷ [])) 27 2
    ∷ bad (patched indexes 7 3 (1 ∷ [])) 27 7
    -- 28: column four is 1, above N, negative, a text, the integer 1 with no bytes; a record that does not read, one of four columns; a row
    -- of a leaf below page 1
    ∷ bad (patched tables 1 494 (1 ∷ [])) 28 1
    ∷ bad (patched tables 1 494 (13 ∷ [])) 28 1
    ∷ bad (patched tables 1 494 (255 ∷ [])) 28 1
    ∷ bad (patched tables 1 485 (15 ∷ [])) 28 1
    ∷ bad (patched tables 1 380 (9 ∷ [])) 28 1
    ∷ bad (patched tables 1 376 (5 ∷ [])) 28 1
    ∷ bad (patched tables 1 378 (128 ∷ 15 ∷ 8 ∷ 65 ∷ [])) 28 1
    ∷ bad (patched schemas 6 330 (7 ∷ [])) 28 6
    -- 28, records that do not read: another header length on a table leaf and on an index leaf, a blob too long on an index interior page;
    -- over a chain on a leaf and there. 27 comes before it
    ∷ bad (patched tables 3 121 (3 ∷ [])) 28 3
    ∷ bad (patched indexes 4 497 (4 ∷ [])) 28 4
    ∷ bad (patched indexes 2 421 (130 ∷ [])) 28 2
    ∷ bad (patched tables 3 153 (67 ∷ [])) 28 3
    ∷ bad (patched (patched indexes 2 356 (111 ∷ [])) 7 3 (1 ∷ [])) 27 7
    -- 29: a trunk with 127 leaves, where U/4-2 is 126; the total. With 126 leaves it is the fourth of them that is refused
    ∷ bad (patched tables 10 7 (127 ∷ [])) 29 10
    ∷ bad (patched tables 1 39 (3 ∷ [])) 29 1
    ∷ bad (patched tables 10 7 (126 ∷ [])) 20 10
    -- before the walk: more pages are counted at 28 than are present
    ∷ bad (patched tables 1 31 (13 ∷ [])) 9 0
    -- one fewer: page 12 is then past the last, and a trunk names it
    ∷ bad (patched tables 1 31 (11 ∷ [])) 20 10
    ∷ []

pub others-refused : map answer others ≡ map refusal others
unfolding images compute.verdicts
others-refused = refl

-- pointer maps
abbrev pub mapped : List BadCase
mapped =
    -- 10: 64 is set while 52 is zero
    bad (patched vacuums 1 55 (0 ∷ [])) 10 0
    -- 21: a root, the freelist's head, a trunk's leaf, an overflow chain and a child name the map
    ∷ bad (patched vacuums 1 494 (2 ∷ [])) 21 2
    ∷ bad (patched vacuums 1 35 (2 ∷ [])) 21 2
    ∷ bad (patched vacuums 10 15 (2 ∷ [])) 21 2
    ∷ bad (patched vacuums 4 511 (2 ∷ [])) 21 2
    ∷ bad (patched vacuums 3 11 (2 ∷ [])) 21 2
    -- 31: the type of a root's entry, of a trunk's; the number of a free leaf's, with its trunk; of a later overflow page's; type and
    -- number of a leaf's; the lowest, before 32
    ∷ bad (patched vacuums 2 5 (5 ∷ [])) 31 4
    ∷ bad (patched vacuums 2 35 (1 ∷ [])) 31 10
    ∷ bad (patched vacuums 2 44 (10 ∷ [])) 31 11
    ∷ bad (patched vacuums 2 34 (4 ∷ [])) 31 9
    ∷ bad (patched vacuums 2 15 (1 ∷ 0 ∷ 0 ∷ 0 ∷ 0 ∷ [])) 31 6
    ∷ bad (patched (patched vacuums 2 10 (0 ∷ 0 ∷ 0 ∷ 0 ∷ 0 ∷ 0 ∷ [])) 1 55 (3 ∷ [])) 31 5
    -- 32: a root that is not the largest; more than the largest
    ∷ bad (patched vacuums 1 55 (3 ∷ [])) 32 1
    ∷ bad (patched vacuums 1 55 (5 ∷ [])) 32 1
    ∷ []

pub mapped-refused : map answer mapped ≡ map refusal mapped
unfolding images compute.verdicts
mapped-refused = refl

-- each of these breaks one rule of good dealings and no other, so that without the rule it would be good
abbrev pub alone : List BadCase
alone =
    -- named once: a trunk has page 11 twice among its leaves
    bad (patched (patched tables 10 7 (4 ∷ [])) 10 20 (0 ∷ 0 ∷ 0 ∷ 11 ∷ [])) 21 11
    -- 22: a table's one child is an index leaf; the schema is one
    ∷ bad (first 3 ++ only_right 3 ++ empty_page 10) 22 3
    ∷ bad (one_page 10) 22 1
    -- 24: leaves at levels 2 and 3, with no row in either
    ∷ bad (first 5 ++ (5 ∷ 0 ∷ 0 ∷ 0 ∷ 1 ∷ 1 ∷ 251 ∷ 0 ∷ 0 ∷ 0 ∷ 0 ∷ 4 ∷ 1 ∷ 251 ∷ replicate 493 0 ++ (0 ∷ 0 ∷ 0 ∷ 3 ∷ 0 ∷ [])) ++ empty_leaf
    ++ only_right 5 ++ empty_leaf) 24 5
    -- 27: a chain goes on past its end, to a page that nothing else names
    ∷ bad (patched (patched (patched tables 10 7 (2 ∷ [])) 1 39 (3 ∷ [])) 9 3 (4 ∷ [])) 27 9
    -- 28: a record over a chain, on an index interior page, does not read
    ∷ bad (patched indexes 2 356 (111 ∷ [])) 28 2
    -- 29: a trunk has one leaf more than its room
    ∷ bad (freelist 119) 29 2
    ∷ []

pub alone-refused : map answer alone ≡ map refusal alone
unfolding images compute.verdicts
alone-refused = refl

-- refusals 1 to 11: this has no magic, but the file that its bytes say is that of `tables`
abbrev pub no_magic : List ℕ
no_magic = patched tables 1 0 (0 ∷ [])

pub no-magic-pages : (file_of no_magic).N ≡ 12
unfolding images compute.verdicts
no-magic-pages = refl

pub no-magic-walked : verdict_of (file_of no_magic)
    ≡ accepted (1 ∷ 1 ∷ 1 ∷ 3 ∷ 6 ∷ 6 ∷ 6 ∷ 4 ∷ 5 ∷ 2 ∷ 3 ∷ 3 ∷ []) (0 ∷ 1 ∷ 1 ∷ 10 ∷ 2 ∷ 2 ∷ 2 ∷ 3 ∷ 8 ∷ 1 ∷ 10 ∷ 10 ∷ [])
unfolding images compute.verdicts
no-magic-walked = refl

pub no-magic-refused : judged no_magic ≡ Refused 2 0
unfolding images compute.verdicts
no-magic-refused = refl

-- 12: ledgers one entry too short
pub small-ledgers : (verdict_is tables [] 11 12 12 ≡ Refused 12 0) × (verdict_is tables [] 12 11 12 ≡ Refused 12 0)
    × (verdict_is tables [] 12 12 11 ≡ Refused 12 0)
unfolding tables compute.verdicts
small-ledgers = (refl, refl, refl)

-- the steps that the namers of `tables` tell: a free leaf one past its trunk, a later overflow page one past the first
pub tables-steps : steps_by (0 ∷ 1 ∷ 1 ∷ 10 ∷ 2 ∷ 2 ∷ 2 ∷ 3 ∷ 8 ∷ 1 ∷ 10 ∷ 10 ∷ []) 12 ≡ 0 ∷ 1 ∷ 1 ∷ 2 ∷ 2 ∷ 2 ∷ 2 ∷ 2 ∷ 3 ∷ 1 ∷ 2 ∷ 2 ∷ []
unfolding steps_to step_by
tables-steps = refl

-- ---- lookups and payloads

-- the first row, rows equal to a key, a row under the right pointer; numbers between, before and after the rows
pub found : (lookup_of tables 2 (negsuc 2) ≡ Fo.At 5 0 233)
    × (lookup_of tables 2 (pos 1) ≡ Fo.At 5 1 233)
    × (lookup_of tables 2 (pos 5) ≡ Fo.At 6 1 233)
    × (lookup_of tables 2 (pos 300) ≡ Fo.At 7 1 103)
    × (lookup_of tables 2 (negsuc 3) ≡ Fo.Nothing)
    × (lookup_of tables 2 (pos 0) ≡ Fo.Nothing)
    × (lookup_of tables 2 (pos 6) ≡ Fo.Nothing)
    × (lookup_of tables 2 (pos 301) ≡ Fo.Nothing)
    × (lookup_of tables 3 (pos 1) ≡ Fo.At 3 0 1373)
    × (lookup_of tables 3 (pos 2) ≡ Fo.Nothing)
    × (lookup_of schemas 1 (pos 3) ≡ Fo.At 4 2 111)
    × (lookup_of schemas 1 (pos 4) ≡ Fo.At 6 0 164)
    × (lookup_of levels 2 (negsuc 39) ≡ Fo.At 3 0 458)
    × (lookup_of levels 2 (negsuc 22) ≡ Fo.At 20 0 458)
    × (lookup_of levels 2 (pos 5) ≡ Fo.At 41 1 7)
    × (lookup_of levels 2 (pos 0) ≡ Fo.Nothing)
    × (lookup_of indexes 2 (pos 1) ≡ Fo.Refused 22 2)
    × (lookup_of tables 13 (pos 1) ≡ Fo.Refused 20 0)
unfolding tables schemas levels indexes compute.lookups
found = (refl, refl, refl, refl, refl, refl, refl, refl, refl, refl, refl, refl, refl, refl, refl, refl, refl, refl)

-- 44: one byte too little room; 46: no such page, no such cell; 22: a table interior page; 27 and 20: the chain
pub fetched : (fetched_of tables 3 0 1373 ≡ Fe.Copied 1373)
    × (fetched_of indexes 2 1 65536 ≡ Fe.Copied 565)
    × (fetched_of tables 3 0 1372 ≡ Fe.Refused 44 0)
    × (fetched_of tables 13 0 1372 ≡ Fe.Refused 46 0)
    × (fetched_of tables 3 3 1373 ≡ Fe.Refused 46 0)
    × (fetched_of tables 2 0 1373 ≡ Fe.Refused 22 2)
    × (fetched_of (patched tables 8 3 (0 ∷ [])) 3 0 1373 ≡ Fe.Refused 27 8)
    × (fetched_of (patched tables 8 3 (13 ∷ [])) 3 0 1373 ≡ Fe.Refused 20 8)
unfolding tables indexes laid patched compute.payloads
fetched = (refl, refl, refl, refl, refl, refl, refl, refl)

-- what the buffer holds then: a text of 470, 600 and 300 letters that lay on three pages, and what it held past it; without room all that it held
pub copied : (out_of (fetched_of tables 3 0 1375) (payload_of tables 3 0) (replicate 1375 7) ≡ 3 ∷ 149 ∷ 65 ∷ replicate 470 97
    ++ replicate 600 98 ++ replicate 300 99 ++ 7 ∷ 7 ∷ [])
    × (out_of (fetched_of tables 3 0 1372) (payload_of tables 3 0) (replicate 1372 7) ≡ replicate 1372 7)
unfolding tables indexes compute.payloads
copied = (refl, refl)
