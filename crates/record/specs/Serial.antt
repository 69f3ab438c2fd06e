-- Serial types: what a column's value is, and how many bytes it takes. A type is a varint's 64 bits, so that a negative
-- one is 2^63 or more.
use Rattle.std.specs.Prelude.{ℕ, ◌-◌, ◌/◌, ◌%◌, ◌^◌, Bool, true, false, cond, List, ltb, leb, eqb, pos}
use Rattle.std.specs.Float.{binary64}
use Rattle.std.specs.Float.Ieee.{nan_bits, of_bits}
use Rattle.number.specs.Bytes.{be, signed_be}
use Rattle.record.specs.declared.Column.{Column}
use Rattle.record.specs.declared.Column.TheVariants.{Null, Int, Real, Text, Blob}

-- 10, 11 and any negative are refused
unfoldable pub refused : (type : ℕ) → Bool
refused t = cond (ltb t 10) false (cond (ltb t 12) true (leb (2 ^ 63) t))

-- the bytes of a value: 0 none; 1 to 6 1, 2, 3, 4, 6, 8; 7 8; 8 and 9 none; N from 12 up, even (N-12)/2, odd (N-13)/2
unfoldable pub size_of : (type : ℕ) → ℕ
size_of t =
    cond (ltb t 5) t
    (cond (eqb t 5) 6
    (cond (ltb t 8) 8
    (cond (ltb t 12) 0
    (cond (eqb (t % 2) 0) ((t - 12) / 2) ((t - 13) / 2)))))

-- a float of these 64 bits; a NaN reads as null
unfoldable pub real_of : (bits : ℕ) → Column
real_of bits = cond (nan_bits binary64 bits) Null (Real (of_bits binary64 bits))

-- the value of a type that is not refused, whose bytes start at `place`
unfoldable pub value_of : List ℕ → (type place : ℕ) → Column
value_of b t place =
    cond (eqb t 0) Null
    (cond (ltb t 7) (Int (signed_be (size_of t) b place))
    (cond (eqb t 7) (real_of (be 8 b place))
    (cond (eqb t 8) (Int (pos 0))
    (cond (eqb t 9) (Int (pos 1))
    (cond (eqb (t % 2) 0) (Blob place (size_of t))
    (Text place (size_of t)))))))
