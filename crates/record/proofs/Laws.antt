-- What holds of every record. `columns_of b` is what `column_count` answers, `column_at b i` what `column_at` answers.
use Prim.Native.Nat.{ℕ, suc, ◌+◌, ◌-◌, ◌<◌, ◌≤◌}
use mathlib.Core.Path.{◌≡◌, refl, sym, ap, ◌∙◌, subst}
use mathlib.Core.Bool.{Bool, true, false, not}
use mathlib.Core.List.{List, []}
use mathlib.Core.Logic.{◌≢◌, ◌⊎◌, ◌↔◌}
use lib.Dec.{T}
use lib.Ieee.{Float, binary64, of_bits, to_bits, is_nan}
use lib.Ieee.Bits.{to_bits-of_bits, nan_bits_is}
use lib.ListN.{length}
use native.Mathlib.Omega.{arith}
use Rattle.number.proofs.BeLaws.{be-bound}
use Rattle.number.specs.Bytes.{byte_at, be}
use Rattle.number.specs.Varint.{varint_at, word_from}
use Rattle.record.proofs.ColumnLaws.{lies_within}
use Rattle.record.proofs.LayoutLaws.{reads-layout, layout-reads, spelled-within, same-types}
use Rattle.record.proofs.ShownLaws.{alike-by, missing-by, Shown, shown, value-kept, Placed, placed}
use Rattle.record.proofs.SizesLaws.{sizes-next, sizes-mono}
use Rattle.record.specs.Layout.{Layout, Lies}
use Rattle.record.specs.Record.{Types, broken, types, header_of, own_of, types_of, type_at, place_at, reads, reads_of, count_of, columns_of, column_at}
use Rattle.record.specs.Serial.{size_of}
use Rattle.record.specs.declared.Column.TheVariants.{Real}
use Rattle.record.specs.declared.NoValue.TheVariants.{DoesNotRead, Missing}
use Rattle.std.specs.Prelude.{Some, None, Ok, Err}

-- ---- which records read

-- exactly those with a header, types that fill it exactly and values that fill the rest exactly
pub reads-exactly : (b : List ℕ) (ts : List ℕ) → (types_of b ≡ types ts) ↔ Layout b ts
reads-exactly b ts = (reads-layout b ts, layout-reads b ts)

-- so H is at least its own bytes and at most the record's
pub header-within : (b : List ℕ) (ts : List ℕ) → types_of b ≡ types ts → (own_of b ≤ header_of b) × (header_of b ≤ length b)
header-within b ts e =
    let l = reads-layout b ts e in
    (spelled-within b (header_of b) (own_of b) ts l.types, omega (arith, l.values))

-- and an empty one does not read
pub empty-broken : columns_of [] ≡ None
unfolding columns_of types_of varint_at word_from
empty-broken = refl

-- `reads_of` says whether there is a number of columns
pub reads_none : (b : List ℕ) → columns_of b ≡ None → false ≡ reads_of b
unfolding columns_of reads_of
reads_none b e = go (types_of b) e
  where
    go : (t : Types) → count_of t ≡ None → false ≡ reads t
    go broken e = refl
    go (types ts) e = absurd (let z : ◌≡◌ {A = ℕ} 0 1 = cc in omega arith)

pub reads-count : (b : List ℕ) (n : ℕ) → columns_of b ≡ Some n → true ≡ reads_of b
unfolding columns_of reads_of
reads-count b n e = go (types_of b) e
  where
    go : (t : Types) → count_of t ≡ Some n → true ≡ reads t
    go broken e = absurd (let z : ◌≡◌ {A = ℕ} 0 1 = cc in omega arith)
    go (types ts) e = refl

module _ (b : List ℕ) (i : ℕ) where
  -- whichever column is asked for
  pub reads-alike : (column_at b i ≡ Err DoesNotRead) ↔ (columns_of b ≡ None)
  unfolding column_at columns_of
  reads-alike = alike-by b i (types_of b)

  pub reads-column : reads_of b ≡ true → column_at b i ≢ Err DoesNotRead
  reads-column r e = let w = reads_none b (reads-alike.0 e) ∙ r in absurd (let z : ◌≡◌ {A = ℕ} 0 1 = cc in omega arith)

  -- columns count from 1 to the number told
  pub missing-exactly : (n : ℕ) → columns_of b ≡ Some n → (column_at b i ≡ Err Missing) ↔ ((i ≡ 0) ⊎ (n < i))
  unfolding column_at columns_of
  missing-exactly n e = missing-by b i n (types_of b) e

-- ---- where values lie

-- a text or a blob lies behind the header and within the record
pub lies-in-record : (b : List ℕ) (i place size : ℕ) → Lies b i place size → (header_of b ≤ place) × (place + size ≤ length b)
lies-in-record b i place size l =
    let p = placed b i place size l in
    omega (arith, p.1.place_is, p.1.size_is, lies_within b p.0 i p.1.reads p.1.some p.1.last)

-- the values of two columns, of whatever type, lie apart and in order
pub places-in-order : (h : ℕ) (ts : List ℕ) (i j : ℕ) → 0 < i → i < j → j ≤ length ts → place_at h ts i + size_of (type_at ts i) ≤ place_at h ts j
places-in-order h ts i j s l m =
    omega (arith, sizes-next ts (i - 1) (omega arith), sizes-mono ts (suc (i - 1)) (j - 1) (omega arith))

-- so do two texts or blobs
pub in_order : (b : List ℕ) (i j place size place' size' : ℕ) → i < j → Lies b i place size → Lies b j place' size' → place + size ≤ place'
in_order b i j place size place' size' l p q =
    let x = placed b i place size p in
    let y = placed b j place' size' q in
    let e : y.0 ≡ x.0 = same-types _ _ (sym y.1.reads ∙ x.1.reads) in
    let z = subst (Placed b j place' size') e y.1 in
    omega (arith, x.1.place_is, x.1.size_is, z.place_is, places-in-order (header_of b) x.0 i j x.1.some l z.last)

-- ---- reals

-- a real has the bits that stand at its place, and is no NaN
pub real-bits : (b : List ℕ) (ts : List ℕ) (i : ℕ) (x : Float) → ((k : ℕ) → byte_at b k < 256) → types_of b ≡ types ts → column_at b i ≡ Ok (Real x)
    → (type_at ts i ≡ 7) × (to_bits binary64 x ≡ be 8 b (place_at (header_of b) ts i)) × (is_nan x ≡ false)
real-bits b ts i x bytes r e =
    let s = shown b i (Real x) e in
    let same : s.0 ≡ ts = same-types _ _ (sym s.1.reads ∙ r) in
    let v = subst (Shown b i (Real x)) same s.1 in
    let p = place_at (header_of b) ts i in
    let k = value-kept b (type_at ts i) p x (sym v.value) in
    let nan : is_nan (of_bits binary64 (be 8 b p)) ≡ false = sym (nan_bits_is binary64 (be 8 b p)) ∙ k.2 in (
      k.0,
      ap (to_bits binary64) k.1 ∙ to_bits-of_bits binary64 (be 8 b p) (be-bound 8 b p bytes) (subst (λ (n : Bool). T (not n)) (sym nan) tt),
      ap is_nan k.1 ∙ nan,
    )
