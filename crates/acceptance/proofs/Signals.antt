-- Reports of a small image, computed: a leaf with the rows -0.5, 1.5 and a null.
use Prim.Native.Nat.{ℕ}
use mathlib.Core.Path.{◌≡◌, refl}
use mathlib.Core.Bool.{false}
use mathlib.Core.List.{List, [], ◌∷◌, ◌++◌}
use lib.Count.{count_trailing_zeros}
use lib.Ieee.{binary64, of_bits, nan_bits, add, sum, round, units, odd, size, span, climb, lt, is_nan}
use lib.ListN.{replicate}
use Rattle.dealing.specs.Cursor.{leaf_met, listing}
use Rattle.image.proofs.RealImages.{laid, patched, levels}
use Rattle.report.specs.Summary.{lesser, greater, added, add_all, told_of, refused_of}
use Rattle.report.specs.Rows.{level_of, laid_over}
use Rattle.report.specs.Report.{met_under, walked, report_of, room_of}
use Rattle.report.specs.Reported as Re
use Rattle.acceptance.proofs.Images.{first}
use Rattle.altered.proofs.Computing as compute

-- to unfold these is to unfold what a report is computed by: the walk over the leaves, and sums of doubles
unfoldable reports : ℕ
unfolding levels laid patched met_under walked listing leaf_met level_of laid_over of_bits nan_bits compute.payloads compute.columns
reports = 0

unfoldable sums : ℕ
unfolding told_of add_all added lesser greater lt is_nan add sum round units odd size span climb count_trailing_zeros
sums = 0

-- the second row's record has a header of so many bytes: 2, if it is to read
abbrev pub signal : (header : ℕ) → List ℕ
signal h =
    first 2 ++ (13 ∷ 0 ∷ 0 ∷ 0 ∷ 3 ∷ 1 ∷ 228 ∷ 0 ∷ 1 ∷ 244 ∷ 1 ∷ 232 ∷ 1 ∷ 228 ∷ [])
    ++ replicate 470 0 ++ (2 ∷ 3 ∷ 2 ∷ 0 ∷ []) ++ (10 ∷ 2 ∷ h ∷ 7 ∷ 63 ∷ 248 ∷ 0 ∷ 0 ∷ 0 ∷ 0 ∷ 0 ∷ 0 ∷ [])
    ++ (10 ∷ 1 ∷ 2 ∷ 7 ∷ 191 ∷ 224 ∷ 0 ∷ 0 ∷ 0 ∷ 0 ∷ 0 ∷ 0 ∷ [])

-- count, and least, greatest and sum by their bits
abbrev pub told : (count least greatest sum : ℕ) → Re.Reported
told n l g s = record {
  refusal = 0;
  page = 0;
  summary = record { least = of_bits binary64 l; greatest = of_bits binary64 g; sum = of_bits binary64 s; count = n };
  nan = false;
}

-- the column; one past the last; 44, 20 with page 0, 28 with its page
pub reported : (report_of (signal 2) 2 1 (replicate 10 0) ≡ told 2 0xbfe0000000000000 0x3ff8000000000000 0x3ff0000000000000)
    × (report_of (signal 2) 2 2 (replicate 10 0) ≡ told 0 0 0 0)
    × (report_of (signal 2) 2 1 (replicate 9 0) ≡ refused_of 44 0)
    × (report_of (signal 2) 3 1 (replicate 10 0) ≡ refused_of 20 0)
    × (report_of (signal 3) 2 1 (replicate 10 0) ≡ refused_of 28 2)
unfolding reports sums report_of
reported = (refl, refl, refl, refl, refl)

-- the room then: each payload over the last, the shortest on top; untouched without room; what the row that gives 28 laid stays
pub left : (room_of (signal 2) 2 1 (replicate 12 9) ≡ 2 ∷ 0 ∷ 63 ∷ 248 ∷ 0 ∷ 0 ∷ 0 ∷ 0 ∷ 0 ∷ 0 ∷ 9 ∷ 9 ∷ [])
    × (room_of (signal 2) 2 1 (replicate 9 9) ≡ replicate 9 9)
    × (room_of (signal 3) 2 1 (replicate 12 9) ≡ 3 ∷ 7 ∷ 63 ∷ 248 ∷ 0 ∷ 0 ∷ 0 ∷ 0 ∷ 0 ∷ 0 ∷ 9 ∷ 9 ∷ [])
unfolding reports room_of
left = (refl, refl, refl)
