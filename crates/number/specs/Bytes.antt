-- Bytes of a list, and the numbers they spell. Numbers are big-endian.
use Rattle.std.specs.Prelude.{ℕ, zero, suc, ◌+◌, ◌-◌, ◌*◌, ◌%◌, ◌^◌, cond, List, take, drop, ℤ, pos, negsuc, nat_lt, slice_index}

-- the byte at a place; past the end 0
abbrev pub byte_at : List ℕ → ℕ → ℕ
byte_at b i = slice_index b i

-- the n bytes from `at` on
abbrev pub part : List ℕ → (at n : ℕ) → List ℕ
part b at n = take n (drop at b)

-- the unsigned number in the `width` bytes at `at`, the big end first
unfoldable pub be : (width : ℕ) → List ℕ → ℕ → ℕ
be zero b at = 0
be (suc k) b at = be k b at * 256 + byte_at b (at + k)

-- u read as two's complement, half being half of the width's numbers
abbrev pub signed_of : (half u : ℕ) → ℤ
signed_of half u = cond (nat_lt u half) (pos u) (negsuc (half - 1 + half - u))

-- half of the numbers that `width` bytes have: 2^(8 * width - 1)
abbrev pub half_of : (width : ℕ) → ℕ
half_of width = 2 ^ (8 * width - 1)

-- the signed number in the `width` bytes at `at`
abbrev pub signed_be : (width : ℕ) → List ℕ → ℕ → ℤ
signed_be width b at = signed_of (half_of width) (be width b at)

-- a signed 64-bit number as the unsigned one with the same bits
abbrev pub word_of : ℤ → ℕ
word_of (pos n) = n
word_of (negsuc n) = 2 ^ 64 - 1 - n

-- a signed 64-bit number moved up by 2^63, so that the order of ℕ is the signed order
abbrev pub bias_of : ℤ → ℕ
bias_of (pos n) = n + 2 ^ 63
bias_of (negsuc n) = 2 ^ 63 - 1 - n

-- the same of its 64 bits
abbrev pub biased : (bits : ℕ) → ℕ
biased bits = (bits + 2 ^ 63) % 2 ^ 64
