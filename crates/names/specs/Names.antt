-- The text encoding, which order asks for.
use Rattle.std.specs.Prelude.{ℕ, Bool, false, not, List, [], ◌∷◌, eqb}
use Rattle.number.specs.Bytes.{be}

-- 34: some root is named, and the text encoding, the number at 56, is not 1 (UTF-8)
unfoldable pub bad34 : (ordered b : List ℕ) → Bool
bad34 [] b = false
bad34 (r ∷ rs) b = not (eqb (be 4 b 56) 1)
