-- A proposal beside n pages' ledgers: whether it is theirs, or else where it differs first.
use Rattle.std.specs.Prelude.{ℕ, zero, suc, ◌+◌, ◌*◌, Bool, true, false, cond, List, [], ◌∷◌, eqb, length, Option, None, Some}
use Rattle.number.specs.Bytes.{part}
use Rattle.wire.specs.Wire.{frame, entry_of}

unfoldable pub same : List ℕ → List ℕ → Bool
same [] [] = true
same [] (y ∷ m) = false
same (x ∷ l) [] = false
same (x ∷ l) (y ∷ m) = cond (eqb x y) (same l m) false

-- the whole length, and what stands in front
unfoldable pub framed : (w : List ℕ) (n : ℕ) → Bool
framed w n = cond (eqb (length w) (5 + n * 9)) (same (part w 0 5) (frame n)) false

-- page i + 1 has the ledgers' entry
unfoldable pub agrees : (w kinds namers steps : List ℕ) (i : ℕ) → Bool
agrees w ks ns ss i = same (part w (5 + i * 9) 9) (entry_of ks ns ss (suc i))

-- of k pages from page i + 1 on the lowest that has not; 0 where all have
unfoldable pub differs : (w kinds namers steps : List ℕ) (i k : ℕ) → ℕ
differs w ks ns ss i zero = 0
differs w ks ns ss i (suc k) = cond (agrees w ks ns ss i) (differs w ks ns ss (suc i) k) (suc i)

abbrev pub comparison : (page : ℕ) → Option ℕ
comparison zero = None
comparison (suc p) = Some (suc p)

-- the page that differs first, 0 where the length, the length in front or the version is wrong
unfoldable pub compared_of : (w : List ℕ) (n : ℕ) (kinds namers steps : List ℕ) → Option ℕ
compared_of w n ks ns ss = cond (framed w n) (comparison (differs w ks ns ss 0 n)) (Some 0)
