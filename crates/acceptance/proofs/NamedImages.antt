-- Images with indexes, where the caller names roots: `indexes` has the index root 4, with the keys null, 3 and 7, the index root 2, two
-- levels high with keys over
-- chains, and the table root 3 between them.
use Prim.Native.Nat.{ℕ}
use mathlib.Core.Path.{◌≡◌, refl}
use mathlib.Core.List.{List, [], ◌∷◌}
use lib.ListN.{replicate}
use Rattle.header.specs.Header.{pages_of}
use Rattle.image.proofs.RealImages.{laid, patched, indexes}
use Rattle.verdict.specs.Verdict.{verdict_is, kinds_at, namers_at}
use Rattle.verdict.specs.Answer.{Answer}
use Rattle.verdict.specs.Answer.{Accepted, Refused}
use Rattle.altered.proofs.Computing as compute

-- the verdict for these names, with ledgers of N entries; the ledgers of kinds and namers at exit, from 9s
abbrev judged_for : (b ordered : List ℕ) → Answer
judged_for b ordered = verdict_is b ordered (pages_of b) (pages_of b) (pages_of b)

abbrev kinds_for : (b ordered : List ℕ) → List ℕ
kinds_for b ordered = kinds_at b ordered (replicate (pages_of b) 9) (pages_of b) (pages_of b)

abbrev namers_for : (b ordered : List ℕ) → List ℕ
namers_for b ordered = namers_at b ordered (pages_of b) (replicate (pages_of b) 9) (pages_of b)

-- two of its keys swapped: 7 before 3
abbrev swapped : List ℕ
swapped = patched indexes 4 10 (1 ∷ 251 ∷ 1 ∷ 245 ∷ [])

-- named in any order, and more than once
pub in_order : (judged_for indexes (4 ∷ []) ≡ Accepted 10 0) × (judged_for indexes (4 ∷ 2 ∷ 4 ∷ []) ≡ Accepted 10 0)
    × (kinds_for indexes (4 ∷ []) ≡ 1 ∷ 1 ∷ 1 ∷ 1 ∷ 6 ∷ 6 ∷ 4 ∷ 6 ∷ 4 ∷ 5 ∷ [])
unfolding indexes laid patched compute.verdicts compute.orders
in_order = (refl, refl, refl)

-- 33: good with no root named, and with the other one
pub out_of_order : (judged_for swapped [] ≡ Accepted 10 0) × (judged_for swapped (2 ∷ []) ≡ Accepted 10 0)
    × (judged_for swapped (2 ∷ 4 ∷ []) ≡ Refused 33 4)
    × (kinds_for swapped (4 ∷ []) ≡ replicate 10 0) × (namers_for swapped (4 ∷ []) ≡ replicate 10 0)
unfolding indexes laid patched compute.verdicts compute.orders
out_of_order = (refl, refl, refl, refl, refl)

-- 35: the first name that is no index root: a table root, a page that is no root, 0, one past the last; it zeroes the ledgers
pub no-index-root : (judged_for indexes (4 ∷ 3 ∷ 0 ∷ []) ≡ Refused 35 3)
    × (judged_for indexes (5 ∷ []) ≡ Refused 35 5)
    × (judged_for indexes (0 ∷ []) ≡ Refused 35 0)
    × (judged_for indexes (11 ∷ []) ≡ Refused 35 11)
    × (kinds_for indexes (11 ∷ []) ≡ replicate 10 0)
unfolding indexes laid patched compute.verdicts compute.orders
no-index-root = (refl, refl, refl, refl, refl)

-- 34: a text encoding of 2, though the name is nonsense; before 12; the ledgers are untouched. With no root named it does not matter
abbrev utf16 : List ℕ
utf16 = patched indexes 1 59 (2 ∷ [])

pub other_text : (judged_for utf16 (11 ∷ []) ≡ Refused 34 0)
    × (verdict_is utf16 (4 ∷ []) 0 0 0 ≡ Refused 34 0)
    × (verdict_is indexes (4 ∷ []) 0 0 0 ≡ Refused 12 0)
    × (kinds_for utf16 (4 ∷ []) ≡ replicate 10 9)
    × (judged_for utf16 [] ≡ Accepted 10 0)
unfolding indexes laid patched compute.verdicts compute.orders
other_text = (refl, refl, refl, refl, refl)
