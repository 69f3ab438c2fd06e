-- Words for the laws of proofs/Laws.antt: what it is for ts to be the serial types of a record b, as a statement and not as a computation
-- (`reads-exactly`: these are what `types_of` gives), and where a text or a blob lies.
use Rattle.std.specs.Prelude.{ℕ, ◌+◌, ◌<◌, ◌≡◌, false, List, [], ◌∷◌, ◌⊎◌, length, Ok}
use Rattle.number.specs.Varint.{varint_length, varint_bits}
use Rattle.record.specs.Serial.{refused}
use Rattle.record.specs.Record.{sizes, header_of, own_of, column_at}
use Rattle.record.specs.declared.Column.TheVariants.{Text, Blob}

-- varints that end at or before h and are types not refused, side by side from `at` to h
unfoldable pub Spelled : List ℕ → (h at : ℕ) → List ℕ → Type 0
Spelled b h at [] = at ≡ h
Spelled b h at (t ∷ ts) = (0 < varint_length b at h) × (varint_bits b at h ≡ t) × (refused t ≡ false) × Spelled b h (at + varint_length b at h) ts

pub record Layout (b : List ℕ) (ts : List ℕ) : Type 0 where
  pub header : 0 < own_of b
  pub types : Spelled b (header_of b) (own_of b) ts
  pub values : header_of b + sizes ts ≡ length b

-- column i is a text or a blob of `size` bytes at `place`
abbrev pub Lies : List ℕ → (i place size : ℕ) → Type 0
Lies b i place size = (column_at b i ≡ Ok (Text place size)) ⊎ (column_at b i ≡ Ok (Blob place size))
