-- Sizes of values side by side.
use Prim.Native.Nat.{ℕ, zero, suc, ◌+◌, ◌<◌, ◌≤◌}
use mathlib.Core.Path.{◌≡◌}
use mathlib.Core.List.{List, [], ◌∷◌}
use lib.ListN.{length, get_or, take}
use native.Mathlib.Omega.{arith}
use Rattle.record.specs.Serial.{size_of}
use Rattle.record.specs.Record.{sizes}

-- the first k values, the one after them, and the whole
pub sizes-next : (ts : List ℕ) (k : ℕ) → k < length ts → sizes (take (suc k) ts) ≡ sizes (take k ts) + size_of (get_or ts k 0)
unfolding sizes
sizes-next [] k p = absurd (omega arith)
sizes-next (t ∷ ts) zero p = omega arith
sizes-next (t ∷ ts) (suc k) p = omega (arith, sizes-next ts k (omega arith))

pub sizes-mono : (ts : List ℕ) (k m : ℕ) → k ≤ m → sizes (take k ts) ≤ sizes (take m ts)
unfolding sizes
sizes-mono [] zero zero p = omega arith
sizes-mono [] zero (suc m) p = omega arith
sizes-mono [] (suc k) zero p = omega arith
sizes-mono [] (suc k) (suc m) p = omega arith
sizes-mono (t ∷ ts) zero m p = omega arith
sizes-mono (t ∷ ts) (suc k) zero p = absurd (omega arith)
sizes-mono (t ∷ ts) (suc k) (suc m) p = omega (arith, sizes-mono ts k m (omega arith))

pub sizes-part : (ts : List ℕ) (k : ℕ) → sizes (take k ts) ≤ sizes ts
unfolding sizes
sizes-part [] zero = omega arith
sizes-part [] (suc k) = omega arith
sizes-part (t ∷ ts) zero = omega arith
sizes-part (t ∷ ts) (suc k) = omega (arith, sizes-part ts k)
