-- What one pass over a record finds, for the functions of this crate: the number of columns, and the type and place of column i, if that is there.
use Rattle.std.specs.Prelude.{ℕ, cond, List, ltb, eqb, length, Option, Some, None}
use Rattle.record.specs.Record.{Types, broken, types, header_of, types_of, type_at, place_at}
use Rattle.record.specs.declared.Scanned.{Scanned}
use Rattle.record.specs.declared.Spot.{Spot}

abbrev pub if_present : {A : Type 0} → (i : ℕ) → List ℕ → A → Option A
if_present i ts x = cond (eqb i 0) None (cond (ltb (length ts) i) None (Some x))

abbrev pub spot_at : (h : ℕ) → List ℕ → (i : ℕ) → Spot
spot_at h ts i = record { kind = type_at ts i; place = place_at h ts i }

abbrev pub summary : (i h : ℕ) → Types → Option Scanned
summary i h broken = None
summary i h (types ts) = Some (record { count = length ts; found = if_present i ts (spot_at h ts i) })

unfoldable pub scan_of : List ℕ → (i : ℕ) → Option Scanned
scan_of b i = summary i (header_of b) (types_of b)
