-- Adler-32, over bytes or larger numbers.
use Rattle.std.specs.Prelude.{ℕ, ◌+◌, ◌*◌, ◌%◌, List, [], ◌∷◌}

-- the sum of a list that goes on from `low` and `high`
unfoldable pub adler_from : (low high : ℕ) → List ℕ → ℕ
adler_from low high [] = high * 65536 + low
adler_from low high (x ∷ xs) = adler_from ((low + x) % 65521) ((high + (low + x) % 65521) % 65521) xs

abbrev pub adler : List ℕ → ℕ
adler = adler_from 1 0
