-- One mark a page: bit i is bit i % 8, from the lowest, of byte i / 8.
use Rattle.std.specs.Prelude.{ℕ, zero, suc, ◌*◌, ◌/◌, ◌%◌, ◌^◌, ◌<◌, ◌≡◌, Bool, true, false, cond, not, List, eqb, ltb, length, get_or}

-- bit k of the byte b
abbrev pub bit : (b k : ℕ) → ℕ
bit b k = b / 2 ^ k % 2

unfoldable pub bit_at : (m : List ℕ) (i : ℕ) → Bool
bit_at m i = not (eqb (bit (get_or m (i / 8) 0) (i % 8)) 0)

-- m' is m with bit i set
pub record Put (m : List ℕ) (i : ℕ) (m' : List ℕ) : Type 0 where
  pub same : length m' ≡ length m
  pub bits : (q : ℕ) → bit_at m' q ≡ cond (eqb q i) true (bit_at m q)

-- no mark is set
pub record Clear (m : List ℕ) : Type 0 where
  pub none : (i : ℕ) → bit_at m i ≡ false

-- m' is m with page p marked, where p is of 1 to n: the mark of page p is bit p - 1
pub record Noted (n : ℕ) (m : List ℕ) (p : ℕ) (m' : List ℕ) : Type 0 where
  pub same : length m' ≡ length m
  pub entry : (i : ℕ) → i < n → bit_at m' i ≡ cond (eqb p (suc i)) true (bit_at m i)

-- some page of 1 to n has no mark and does not lie within an image of `long` bytes
unfoldable pub lacks : (m : List ℕ) (long size n : ℕ) → Bool
lacks m long size zero = false
lacks m long size (suc k) = cond (lacks m long size k) true (cond (bit_at m k) false (ltb long (suc k * size)))
