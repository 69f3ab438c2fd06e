-- A record: a varint H, the header length, itself included; then serial types that fill H exactly; then values that
-- fill the rest exactly. What breaks any of this does not read. Columns count from 1.
use Rattle.std.specs.Prelude.{ℕ, zero, suc, ◌+◌, ◌-◌, Bool, true, false, cond, List, [], ◌∷◌, ltb, eqb, length, get_or, take, Option, Some, None, Result, Ok, Err}
use Rattle.number.specs.Varint.{varint_length, varint_bits}
use Rattle.record.specs.Serial.{refused, size_of, value_of}
use Rattle.record.specs.declared.Column.{Column}
use Rattle.record.specs.declared.NoValue.{NoValue}
use Rattle.record.specs.declared.NoValue.TheVariants.{DoesNotRead, Missing}

-- serial types in order, or what does not read
pub data Types : Type 0 where
  broken : Types
  types : List ℕ → Types

abbrev pub first : ℕ → Types → Types
first t broken = broken
first t (types ts) = types (t ∷ ts)

-- the serial types from `at` to the header's end h exactly; a varint that runs past h is short. At most `left` steps.
unfoldable pub types_from : (left : ℕ) → List ℕ → (h at : ℕ) → Types
types_from zero b h at = broken
types_from (suc left) b h at =
    cond (eqb at h) (types [])
    (cond (eqb (varint_length b at h) 0) broken
    (cond (refused (varint_bits b at h)) broken
    (first (varint_bits b at h) (types_from left b h (at + varint_length b at h)))))

-- each type takes at least one of the h - at bytes, and one step more sees the end
abbrev pub types_at : List ℕ → (h at : ℕ) → Types
types_at b h at = types_from (suc (h - at)) b h at

-- the bytes of all values of these types
unfoldable pub sizes : List ℕ → ℕ
sizes [] = 0
sizes (t ∷ ts) = size_of t + sizes ts

-- types whose values, from h on, fill the rest exactly
abbrev pub filling : List ℕ → (h : ℕ) → Types → Types
filling b h broken = broken
filling b h (types ts) = cond (eqb (h + sizes ts) (length b)) (types ts) broken

-- H, and the bytes that spell it
abbrev pub header_of : List ℕ → ℕ
header_of b = varint_bits b 0 (length b)

abbrev pub own_of : List ℕ → ℕ
own_of b = varint_length b 0 (length b)

-- the serial types of a record that reads. (An H below its own bytes leaves no way to end at H, and one past the record's end none to fill the rest.)
unfoldable pub types_of : List ℕ → Types
types_of b = cond (eqb (own_of b) 0) broken (filling b (header_of b) (types_at b (header_of b) (own_of b)))

-- whether the record reads
abbrev pub reads : Types → Bool
reads broken = false
reads (types ts) = true

unfoldable pub reads_of : List ℕ → Bool
reads_of b = reads (types_of b)

-- the number of columns, if it reads
abbrev pub count_of : Types → Option ℕ
count_of broken = None
count_of (types ts) = Some (length ts)

unfoldable pub columns_of : List ℕ → Option ℕ
columns_of b = count_of (types_of b)

-- column i's type, and its place: where the values before it end
abbrev pub type_at : List ℕ → (i : ℕ) → ℕ
type_at ts i = get_or ts (i - 1) 0

abbrev pub place_at : (h : ℕ) → List ℕ → (i : ℕ) → ℕ
place_at h ts i = h + sizes (take (i - 1) ts)

-- column i; 0 or one past the last is missing
abbrev pub column_of : List ℕ → (i : ℕ) → Types → Result Column NoValue
column_of b i broken = Err DoesNotRead
column_of b i (types ts) =
    cond (eqb i 0) (Err Missing)
    (cond (ltb (length ts) i) (Err Missing)
    (Ok (value_of b (type_at ts i) (place_at (header_of b) ts i))))

unfoldable pub column_at : List ℕ → (i : ℕ) → Result Column NoValue
column_at b i = column_of b i (types_of b)
