-- The public order of records: null, then numbers, then text by bytes, then blobs by bytes, a prefix first; then the next
-- column. An integer and a real are compared by their exact values: every number is told in whole units of 2^-1074, of which each integer and
-- each finite real is a whole number.
use Rattle.std.specs.Prelude.{ℕ, zero, suc, ◌+◌, ◌-◌, ◌*◌, ◌/◌, ◌%◌, ◌^◌, Bool, true, false, cond, List, [], ◌∷◌, eqb, ltb, ℤ, pos, negsuc, neg_ℤ}

pub data Value : Type 0 where
  null : Value
  number : (units : ℤ) → Value
  text : (bytes : List ℕ) → Value
  blob : (bytes : List ℕ) → Value

-- ---- numbers in units

-- the smallest real above zero is one unit, and 1 is this many. (Not an abbrev: no proof is to compute with it.)
unfoldable pub unit : ℕ
unit = 2 ^ 1074

abbrev pub integer_units : ℤ → ℤ
integer_units (pos n) = pos (n * unit)
integer_units (negsuc n) = neg_ℤ (pos (suc n * unit))

-- a real without its sign: 11 bits of exponent x, 52 bits of fraction t. By the same formula an infinity, x = 2047, is 2^1024 and so lies beyond
-- every integer and every other real.
abbrev pub magnitude : (x t : ℕ) → ℕ
magnitude zero t = t
magnitude (suc x) t = (2 ^ 52 + t) * 2 ^ x

abbrev pub magnitude_of : (bits : ℕ) → ℕ
magnitude_of u = magnitude (u / 2 ^ 52) (u % 2 ^ 52)

-- a real of 64 bits that is no NaN; from 2^63 on the sign is set. Minus zero is zero.
abbrev pub real_units : (bits : ℕ) → ℤ
real_units u = cond (ltb u (2 ^ 63)) (pos (magnitude_of u)) (neg_ℤ (pos (magnitude_of (u - 2 ^ 63))))

-- ---- how two things compare

pub data Order : Type 0 where
  less same more : Order

-- by the first, and where that finds them the same by the second
abbrev pub or_else : Order → Order → Order
or_else less o = less
or_else same o = o
or_else more o = more

abbrev pub is_less : Order → Bool
is_less less = true
is_less same = false
is_less more = false

-- the same two, the other way round
abbrev pub turned : Order → Order
turned less = more
turned same = same
turned more = less

abbrev pub of_nat : (a b : ℕ) → Order
of_nat a b = cond (ltb a b) less (cond (eqb a b) same more)

abbrev pub of_int : ℤ → ℤ → Order
of_int (pos a) (pos b) = of_nat a b
of_int (pos a) (negsuc b) = more
of_int (negsuc a) (pos b) = less
of_int (negsuc a) (negsuc b) = of_nat b a

-- two lists, entry by entry: the one that ends first, equal so far, is the lesser
unfoldable pub of_lists : {A : Type 0} → (A → A → Order) → List A → List A → Order
of_lists c [] [] = same
of_lists c [] (y ∷ b) = less
of_lists c (x ∷ a) [] = more
of_lists c (x ∷ a) (y ∷ b) = or_else (c x y) (of_lists c a b)

abbrev pub of_bytes : List ℕ → List ℕ → Order
of_bytes = of_lists of_nat

-- null, numbers, text, blobs
abbrev pub rank : Value → ℕ
rank null = 0
rank (number z) = 1
rank (text s) = 2
rank (blob s) = 3

-- a value's number, and its bytes; of the other kinds 0 and none
abbrev pub number_of : Value → ℤ
number_of null = pos 0
number_of (number z) = z
number_of (text s) = pos 0
number_of (blob s) = pos 0

abbrev pub bytes_of : Value → List ℕ
bytes_of null = []
bytes_of (number z) = []
bytes_of (text s) = s
bytes_of (blob s) = s

abbrev pub of_values : Value → Value → Order
of_values v w = or_else (of_nat (rank v) (rank w)) (or_else (of_int (number_of v) (number_of w)) (of_bytes (bytes_of v) (bytes_of w)))

-- column by column; a record that ends first, equal so far, is the lesser
abbrev pub of_records : List Value → List Value → Order
of_records = of_lists of_values
