-- What the header of small images says, computed: 512-byte pages with nothing behind the first hundred bytes, with the numbers at 24, 28 and 92 as given.
use Prim.Native.Nat.{ℕ, ◌-◌, ◌*◌, ◌/◌, ◌%◌}
use mathlib.Core.Path.{◌≡◌, refl}
use mathlib.Core.List.{List, [], ◌∷◌, ◌++◌}
use lib.ListN.{replicate}
use Rattle.number.specs.Bytes.{be}
use Rattle.header.specs.Header.{magic, holds, size_for, size_of, present_of, counted, pages_of, usable_of, form_refusal, field_refusal, header_refusal, size_refusal, pages_in, Header, header_in}

abbrev word : ℕ → List ℕ
word n = n / 16777216 ∷ n / 65536 % 256 ∷ n / 256 % 256 ∷ n % 256 ∷ []

-- read version `version`, the numbers `vacuum` at 52 and `incremental` at 64
abbrev image_with : (version vacuum incremental present change count since : ℕ) → List ℕ
image_with version vacuum incremental present change count since =
    magic
    ++ 2 ∷ 0 ∷ 1 ∷ version ∷ 0 ∷ 64 ∷ 32 ∷ 32 ∷ []
    ++ word change
    ++ word count
    ++ replicate 20 0
    ++ word vacuum
    ++ replicate 8 0
    ++ word incremental
    ++ replicate 24 0
    ++ word since
    ++ replicate (present * 512 - 96) 0

abbrev image : (present change count since : ℕ) → List ℕ
image = image_with 1 0 0

abbrev passes : (pages : ℕ) → Header
passes n = record { refusal = 0; size = 512; usable = 512; pages = n }

abbrev refused : (number : ℕ) → Header
refused n = record { refusal = n; size = 0; usable = 0; pages = 0 }

-- 24 and 92 are equal and the count is not zero: N is the count, pages past it are no part of the file, and with fewer pages than it the image is refused with 9, over the limit too
pub count-holds : (header_in (image 3 7 3 7) ≡ passes 3)
    × (header_in (image 3 7 2 7) ≡ passes 2)
    × (header_in (image 3 0 1 0) ≡ passes 1)
    × (header_in (image 3 7 4 7) ≡ refused 9)
    × (header_in (image 3 7 4097 7) ≡ refused 9)
    × (header_in (image 3 7 4294967295 7) ≡ refused 9)
unfolding header_in header_refusal form_refusal field_refusal holds pages_of present_of counted size_of size_for usable_of be
count-holds = (refl, refl, refl, refl, refl, refl)

-- the count is zero, or 24 and 92 differ: N is the pages present, whatever the count
pub count-stale : (header_in (image 3 7 0 7) ≡ passes 3)
    × (header_in (image 3 0 0 0) ≡ passes 3)
    × (header_in (image 3 7 3 6) ≡ passes 3)
    × (header_in (image 3 7 2 6) ≡ passes 3)
    × (header_in (image 3 7 4 8) ≡ passes 3)
    × (header_in (image 3 7 4097 0) ≡ passes 3)
    × (header_in (image 3 7 0 8) ≡ passes 3)
unfolding header_in header_refusal form_refusal field_refusal holds pages_of present_of counted size_of size_for usable_of be
count-stale = (refl, refl, refl, refl, refl, refl, refl)

-- 4 is about the whole length, whatever is counted; 8 comes before 9, and 9 before 10
pub order : (header_in (image 3 7 2 7 ++ 0 ∷ []) ≡ refused 4)
    × (header_in (image_with 3 0 0 3 7 4 7) ≡ refused 8)
    × (header_in (image_with 1 0 1 3 7 4 7) ≡ refused 9)
    × (header_in (image_with 1 0 1 3 7 2 7) ≡ refused 10)
unfolding header_in header_refusal form_refusal field_refusal holds pages_of present_of counted size_of size_for usable_of be
order = (refl, refl, refl, refl)

-- 10 is about 64 while 52 is zero, and about nothing else
pub vacuum : (header_in (image_with 1 0 16777216 3 7 3 7) ≡ refused 10)
    × (header_in (image_with 1 1 0 3 7 3 7) ≡ passes 3)
    × (header_in (image_with 1 1 1 3 7 3 7) ≡ passes 3)
    × (header_in (image_with 1 16777216 0 3 7 3 7) ≡ passes 3)
unfolding header_in header_refusal form_refusal field_refusal holds pages_of present_of counted size_of size_for usable_of be
vacuum = (refl, refl, refl, refl)

-- where recovery shows the image alone it has the pages present, whatever the header counts
pub alone : (pages_in (image 3 7 2 7) ≡ record { refusal = 0; size = 512; pages = 3 })
    × (pages_in (image 3 7 4 7) ≡ record { refusal = 0; size = 512; pages = 3 })
    × (pages_in (image 3 7 4097 7) ≡ record { refusal = 0; size = 512; pages = 3 })
    × (pages_in (image 3 7 2 8) ≡ record { refusal = 0; size = 512; pages = 3 })
unfolding pages_in size_refusal form_refusal holds present_of size_of size_for be
alone = (refl, refl, refl, refl)
