-- Summaries of a few reals, given by their bits, each by computing.
-- Assumes nothing.
use Rattle.std.proofs.Common.{◌≡◌, ℕ, ◌^◌, true, false, List, [], ◌∷◌, refl}
use lib.Count.{count_trailing_zeros}
use lib.Ieee.{Float, binary64, of_bits, add, sum, round, units, odd, size, span, climb, lt, is_nan}
use Rattle.report.specs.Summary.{zero_bits, lesser, greater, added, add_all, summary_of, told_of}
use Rattle.report.specs.Reported as Re

unfoldable pub reals : List ℕ → List Float
reals [] = []
reals (b ∷ bs) = of_bits binary64 b ∷ reals bs

-- what is told: the flag, then count, least, greatest and sum by their bits
abbrev Tells : List ℕ → Re.Reported → Type 0
Tells bs r = told_of (summary_of (reals bs)) ≡ r

abbrev all : (count least greatest sum : ℕ) → Re.Reported
all n l g s = record { refusal = 0; page = 0; summary = record { least = of_bits binary64 l; greatest = of_bits binary64 g; sum = of_bits binary64 s; count = n }; nan = false }

abbrev minus-zero : ℕ
minus-zero = 2 ^ 63

abbrev one : ℕ
one = 0x3ff0000000000000

pub told : Tells [] (all 0 0 0 0)
    -- from +0 on a minus zero adds nothing, and is least and greatest; of zeros the earlier stays
    × Tells (minus-zero ∷ []) (all 1 minus-zero minus-zero 0)
    × Tells (minus-zero ∷ 0 ∷ []) (all 2 minus-zero minus-zero 0)
    × Tells (0 ∷ minus-zero ∷ []) (all 2 0 0 0)
    -- 1, 2^53, 1, -2^53: each addition is rounded, from left to right
    × Tells (one ∷ 0x4340000000000000 ∷ one ∷ 0xc340000000000000 ∷ []) (all 4 0xc340000000000000 0x4340000000000000 0)
    × Tells (0x4340000000000000 ∷ 0xc340000000000000 ∷ one ∷ one ∷ []) (all 4 0xc340000000000000 0x4340000000000000 0x4000000000000000)
    -- the least subnormal twice; the greatest twice
    × Tells (1 ∷ 1 ∷ []) (all 2 1 1 2)
    × Tells (0x7fefffffffffffff ∷ 0x7fefffffffffffff ∷ []) (all 2 0x7fefffffffffffff 0x7fefffffffffffff 0x7ff0000000000000)
    -- infinities of both signs, and what follows them
    × (Tells (one ∷ 0x7ff0000000000000 ∷ 0xfff0000000000000 ∷ one ∷ [])
    (record { refusal = 0; page = 0; summary = record { least = of_bits binary64 0xfff0000000000000; greatest = of_bits binary64 0x7ff0000000000000; sum = zero_bits; count = 4 }; nan = true }))
unfolding reals told_of add_all added lesser greater lt is_nan add sum round units odd size span climb count_trailing_zeros of_bits
told = (refl, refl, refl, refl, refl, refl, refl, refl, refl)
