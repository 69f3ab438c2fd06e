-- Checksums of a log: words in one of two orders, and two sums carried on modulo 2^32.
use Rattle.std.specs.Prelude.{ℕ, zero, suc, ◌+◌, ◌*◌, ◌%◌, ◌^◌, Bool, true, false, cond, List}
use Rattle.number.specs.Bytes.{byte_at, be}
use Rattle.wal.specs.declared.Order.{Order}
use Rattle.wal.specs.declared.Order.TheVariants.{Little, Big}

-- the unsigned number in the `width` bytes at `at`, the little end first
unfoldable pub le : (width : ℕ) → List ℕ → (at : ℕ) → ℕ
le zero b at = 0
le (suc k) b at = le k b (at + 1) * 256 + byte_at b at

-- whether words are big-endian
abbrev pub is_big : Order → Bool
is_big Little = false
is_big Big = true

-- the checksum word at `at`; `big`: words are big-endian
abbrev pub word_at : (big : Bool) → List ℕ → (at : ℕ) → ℕ
word_at big b at = cond big (be 4 b at) (le 4 b at)

-- the two sums s0 and s1
abbrev pub Sums : Type 0
Sums = ℕ × ℕ

abbrev pub mixed : (s a t : ℕ) → ℕ
mixed s a t = (s + a + t) % 2 ^ 32

-- for each word pair s0 = s0+a+s1, then s1 = s1+b+s0
abbrev pub summed : Sums → (a b : ℕ) → Sums
summed s a b = (mixed s.0 a s.1, mixed s.1 b (mixed s.0 a s.1))

-- the sums carried on from s over the first `pairs` word pairs from `at` on
unfoldable pub sums_over : (big : Bool) → List ℕ → (at pairs : ℕ) → Sums → Sums
sums_over big b at zero s = s
sums_over big b at (suc i) s = summed (sums_over big b at i s) (word_at big b (at + 8 * i)) (word_at big b (at + 8 * i + 4))
