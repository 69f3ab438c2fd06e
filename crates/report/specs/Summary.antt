-- A summary of reals, one after the other, and what is told of it.
use Rattle.std.specs.Prelude.{ℕ, ◌+◌, ◌%◌, ◌^◌, Bool, true, false, cond, List, [], ◌∷◌, from_bits, is_nan, Float}
use Rattle.std.specs.Float.{binary64}
use Rattle.std.specs.Float.Ieee.{add, lt}
use Rattle.report.specs.declared.Summary as Su
use Rattle.report.specs.Reported as Re

-- the real whose bits are all 0: +0
abbrev pub zero_bits : Float
zero_bits = from_bits binary64 0

-- of two that compare equal the earlier stays
unfoldable pub lesser : (earlier x : Float) → Float
lesser e x = cond (lt x e) x e

unfoldable pub greater : (earlier x : Float) → Float
greater e x = cond (lt e x) x e

-- no real was met: all is zero, and from there the sum starts
abbrev pub none : Su.Summary
none = record { least = zero_bits; greatest = zero_bits; sum = zero_bits; count = 0 }

-- one real more, where some were met before or it is the first: the sum is rounded once, the count is modulo 2^64
unfoldable pub added : (met : Bool) → Su.Summary → Float → Su.Summary
added met s x =
    record {
      least = cond met (lesser s.least x) x;
      greatest = cond met (greater s.greatest x) x;
      sum = add binary64 s.sum x;
      count = (s.count + 1) % 2 ^ 64;
    }

-- all of them, from left to right
unfoldable pub add_all : (met : Bool) → Su.Summary → List Float → Su.Summary
add_all met s [] = s
add_all met s (x ∷ xs) = add_all true (added met s x) xs

abbrev pub summary_of : List Float → Su.Summary
summary_of xs = add_all false none xs

-- a sum that turned to NaN is zero bits with a flag
unfoldable pub told_of : Su.Summary → Re.Reported
told_of s =
    record {
      refusal = 0;
      page = 0;
      summary = record { least = s.least; greatest = s.greatest; sum = cond (is_nan s.sum) zero_bits s.sum; count = s.count };
      nan = is_nan s.sum;
    }

-- on a refusal the summary is all zero
abbrev pub refused_of : (number page : ℕ) → Re.Reported
refused_of number page = record { refusal = number; page = page; summary = none; nan = false }
