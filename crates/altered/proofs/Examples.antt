-- The relation is sharp: bytes that it does not name, each changed alone, change an answer. Each is computed, on an image made by sqlite3
-- and on one of three pages.
use Prim.Native.Nat.{ℕ}
use mathlib.Core.Path.{◌≡◌, refl}
use mathlib.Core.List.{List, [], ◌∷◌, ◌++◌}
use lib.IntN.{pos}
use lib.ListN.{take, replicate, get_or}
use Rattle.image.specs.Payload.{payload_of}
use Rattle.image.proofs.RealImages.{laid, patched, tables}
use Rattle.verdict.specs.Verdict.{verdict_is}
use Rattle.verdict.specs.Answer.{Answer}
use Rattle.verdict.specs.Answer.{Accepted, Refused}
use Rattle.lookup.specs.Answers.{lookup_of}
use Rattle.lookup.specs.Found as Fo
use Rattle.altered.proofs.Computing as compute

-- an empty schema; page 2 is a trunk that names page 3, a free leaf
unfoldable pub small : List ℕ
small =
    laid (laid (take 512 tables) 28 (0 ∷ 0 ∷ 0 ∷ 3 ∷ 0 ∷ 0 ∷ 0 ∷ 2 ∷ 0 ∷ 0 ∷ 0 ∷ 2 ∷ [])) 100 (13 ∷ 0 ∷ 0 ∷ 0 ∷ 0 ∷ 2 ∷ 0 ∷ 0 ∷ [])
    ++ (0 ∷ 0 ∷ 0 ∷ 0 ∷ 0 ∷ 0 ∷ 0 ∷ 1 ∷ 0 ∷ 0 ∷ 0 ∷ 3 ∷ replicate 500 0 ++ replicate 512 0)

abbrev judged : List ℕ → Answer
judged b = verdict_is b [] 3 3 3

-- the image, and one with other bytes on its free leaf, in page 1's gap and behind the trunk's leaf number
pub kept : (judged small ≡ Accepted 3 0)
    × (judged (laid (laid (laid small 1024 (10 ∷ 20 ∷ 30 ∷ [])) 120 (40 ∷ 50 ∷ [])) 524 (60 ∷ [])) ≡ Accepted 3 0)
unfolding tables laid small compute.verdicts
kept = (refl, refl)

-- a trunk: its count; its leaf number. The header: how many pages are free
pub trunk : (judged (laid small 519 (0 ∷ [])) ≡ Refused 29 1) × (judged (laid small 523 (2 ∷ [])) ≡ Refused 21 2)
    × (judged (laid small 39 (3 ∷ [])) ≡ Refused 29 1)
unfolding tables laid small compute.verdicts
trunk = (refl, refl, refl)

-- a cell's row number; the byte at the content start, where a cell begins; a freeblock's size; a cell pointer, the last before the gap
pub cells : (lookup_of tables 3 (pos 4) ≡ Fo.At 3 1 6)
    × (lookup_of (patched tables 3 120 (9 ∷ [])) 3 (pos 4) ≡ Fo.Nothing)
    × (lookup_of (patched tables 3 119 (7 ∷ [])) 3 (pos 4) ≡ Fo.Refused 23 3)
    × (lookup_of (patched tables 3 144 (8 ∷ [])) 3 (pos 4) ≡ Fo.Refused 23 3)
    × (lookup_of (patched tables 3 13 (126 ∷ [])) 3 (pos 4) ≡ Fo.Refused 23 3)
    × (lookup_of (patched tables 1 21 (63 ∷ [])) 3 (pos 4) ≡ Fo.Refused 7 0)
unfolding tables laid patched compute.lookups
cells = (refl, refl, refl, refl, refl, refl)

-- an overflow page: its first byte of the payload, and its last, at U - 1
pub overflow : (get_or (payload_of tables 3 0) 357 0 ≡ 97) × (get_or (payload_of (patched tables 8 4 (100 ∷ [])) 3 0) 357 0 ≡ 100)
    × (get_or (payload_of tables 3 0) 864 0 ≡ 98) × (get_or (payload_of (patched tables 8 511 (100 ∷ [])) 3 0) 864 0 ≡ 100)
unfolding tables laid patched compute.payloads
overflow = (refl, refl, refl, refl)
