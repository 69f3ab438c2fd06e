-- What a column that is shown says of the record: the types behind it, its own type and its place.
use Prim.Native.Nat.{ℕ, ◌%◌, ◌<◌, ◌≤◌}
use mathlib.Core.Path.{◌≡◌, refl, sym, ap, ◌∙◌, subst}
use mathlib.Core.Bool.{false}
use mathlib.Core.List.{List}
use mathlib.Core.Logic.{◌⊎◌, inl, inr, ⊎_elim, ◌↔◌}
use lib.Dec.{eqb, ltb}
use lib.Ieee.{Float, binary64, nan_bits, of_bits}
use lib.ListN.{length}
use native.Mathlib.Omega.{arith}
use borrow.Author.Tests.{eqb-true, eqb-false, ltb-true, ltb-false, eq-eqb, ne_eqb, lt-ltb}
use Rattle.number.specs.Bytes.{be}
use Rattle.number.proofs.Cases.{by_cond}
use Rattle.record.specs.Layout.{Lies}
use Rattle.record.specs.Record.{Types, broken, types, header_of, types_of, type_at, place_at, count_of, column_of, column_at}
use Rattle.record.specs.Serial.{size_of, real_of, value_of}
use Rattle.record.specs.declared.Column.{Column}
use Rattle.record.specs.declared.Column.TheVariants.{Null, Int, Real, Text, Blob}
use Rattle.record.specs.declared.NoValue.{NoValue}
use Rattle.record.specs.declared.NoValue.TheVariants.{DoesNotRead, Missing}
use Rattle.std.specs.Prelude.{Some, None, Result, Ok, Err}

module _ (b : List ℕ) (i : ℕ) where
  -- every column of what does not read, and none of what reads, says so
  pub alike-by : (r : Types) → (column_of b i r ≡ Err DoesNotRead) ↔ (count_of r ≡ None)
  alike-by broken = ((λ e. refl), (λ e. refl))
  alike-by (types ts) = (
    by_cond (λ (c : Result Column NoValue). c ≡ Err DoesNotRead → Some (length ts) ≡ None) (eqb i 0) _ _
        (λ z e. absurd (let z : ◌≡◌ {A = ℕ} 0 1 = cc in omega arith))
        (λ z.
        by_cond (λ (c : Result Column NoValue). c ≡ Err DoesNotRead → Some (length ts) ≡ None)
        (ltb (length ts) i) _ _
        (λ l e. absurd (let z : ◌≡◌ {A = ℕ} 0 1 = cc in omega arith))
        (λ l e. absurd (let z : ◌≡◌ {A = ℕ} 0 1 = cc in omega arith))),
    (λ e. absurd (let z : ◌≡◌ {A = ℕ} 0 1 = cc in omega arith)),
  )

  missing-of : (ts : List ℕ) → (column_of b i (types ts) ≡ Err Missing) ↔ ((i ≡ 0) ⊎ (length ts < i))
  missing-of ts = (
    by_cond (λ (c : Result Column NoValue). c ≡ Err Missing → (i ≡ 0) ⊎ (length ts < i)) (eqb i 0) _ _
        (λ z e. inl (eqb-true i 0 z))
        (λ z.
        by_cond (λ (c : Result Column NoValue). c ≡ Err Missing → (i ≡ 0) ⊎ (length ts < i)) (ltb (length ts) i) _ _
        (λ l e. inr (ltb-true (length ts) i l))
        (λ l e. absurd (let z : ◌≡◌ {A = ℕ} 0 1 = cc in omega arith))),
    ⊎_elim
        (λ (z : i ≡ 0). simp (eq-eqb i 0 z))
        (λ (l : length ts < i). simp (ne_eqb i 0 (λ z. omega arith), lt-ltb (length ts) i l)),
  )

  pub missing-by : (n : ℕ) (r : Types) → count_of r ≡ Some n → (column_of b i r ≡ Err Missing) ↔ ((i ≡ 0) ⊎ (n < i))
  missing-by n broken e = absurd (let z : ◌≡◌ {A = ℕ} 0 1 = cc in omega arith)
  missing-by n (types ts) e = let k : length ts ≡ n = cc in
      subst (λ (m : ℕ). (column_of b i (types ts) ≡ Err Missing) ↔ ((i ≡ 0) ⊎ (m < i))) k (missing-of ts)

-- column i, shown as v
pub record Shown (b : List ℕ) (i : ℕ) (v : Column) (ts : List ℕ) : Type 0 where
  pub reads : types_of b ≡ types ts
  pub some : 0 < i
  pub last : i ≤ length ts
  pub value : v ≡ value_of b (type_at ts i) (place_at (header_of b) ts i)

module _ (b : List ℕ) (i : ℕ) (v : Column) where
  shown_by : (r : Types) → types_of b ≡ r → column_of b i r ≡ Ok v → (ts : List ℕ) × Shown b i v ts
  shown_by broken r = λ e. absurd (let z : ◌≡◌ {A = ℕ} 0 1 = cc in omega arith)
  shown_by (types ts) r =
      by_cond (λ (c : Result Column NoValue). c ≡ Ok v → (ts : List ℕ) × Shown b i v ts) (eqb i 0) _ _
      (λ z e. absurd (let z : ◌≡◌ {A = ℕ} 0 1 = cc in omega arith))
      (λ z.
      by_cond (λ (c : Result Column NoValue). c ≡ Ok v → (ts : List ℕ) × Shown b i v ts) (ltb (length ts) i) _ _
      (λ l e. absurd (let z : ◌≡◌ {A = ℕ} 0 1 = cc in omega arith))
      (λ l e. (ts, record { reads = r; some = omega (arith, eqb-false i 0 z); last = ltb-false (length ts) i l; value = cc })))

  pub shown : column_at b i ≡ Ok v → (ts : List ℕ) × Shown b i v ts
  unfolding column_at
  shown e = shown_by (types_of b) refl e

-- a text's or a blob's place and length, or else those given
abbrev pub place_or : Column → ℕ → ℕ
place_or Null d = d
place_or (Int z) d = d
place_or (Real x) d = d
place_or (Text place size) d = place
place_or (Blob place size) d = place

abbrev pub size_or : Column → ℕ → ℕ
size_or Null d = d
size_or (Int z) d = d
size_or (Real x) d = d
size_or (Text place size) d = size
size_or (Blob place size) d = size

module _ (b : List ℕ) (t place : ℕ) where
  abbrev pub LiesAt : Column → Type 0
  LiesAt c = (place_or c place ≡ place) × (size_or c (size_of t) ≡ size_of t)

  real-lies : (bits : ℕ) → LiesAt (real_of bits)
  unfolding real_of
  real-lies bits = by_cond LiesAt (nan_bits binary64 bits) _ _ (λ e. (refl, refl)) (λ e. (refl, refl))

  -- where it lies is its place, and its length its type's size
  pub value-lies : LiesAt (value_of b t place)
  unfolding value_of
  value-lies =
      by_cond LiesAt (eqb t 0) _ _ (λ e. (refl, refl)) (λ e.
      by_cond LiesAt (ltb t 7) _ _ (λ e. (refl, refl)) (λ e.
      by_cond LiesAt (eqb t 7) _ _ (λ e. real-lies (be 8 b place)) (λ e.
      by_cond LiesAt (eqb t 8) _ _ (λ e. (refl, refl)) (λ e.
      by_cond LiesAt (eqb t 9) _ _ (λ e. (refl, refl)) (λ e.
      by_cond LiesAt (eqb (t % 2) 0) _ _ (λ e. (refl, refl)) (λ e. (refl, refl)))))))

  -- a real is one of type 7, of these bits, which are no NaN's
  abbrev pub Kept : Column → Type 0
  Kept c = (x : Float) → c ≡ Real x → (t ≡ 7) × (x ≡ of_bits binary64 (be 8 b place)) × (nan_bits binary64 (be 8 b place) ≡ false)

  real-kept : t ≡ 7 → Kept (real_of (be 8 b place))
  unfolding real_of
  real-kept s =
      by_cond Kept (nan_bits binary64 (be 8 b place)) _ _
      (λ n x e. absurd (let z : ◌≡◌ {A = ℕ} 0 1 = cc in omega arith))
      (λ n x e. (s, (cc), n))

  pub value-kept : Kept (value_of b t place)
  unfolding value_of
  value-kept =
      by_cond Kept (eqb t 0) _ _ (λ e x q. absurd (let z : ◌≡◌ {A = ℕ} 0 1 = cc in omega arith)) (λ e.
      by_cond Kept (ltb t 7) _ _ (λ e x q. absurd (let z : ◌≡◌ {A = ℕ} 0 1 = cc in omega arith)) (λ e.
      by_cond Kept (eqb t 7) _ _ (λ e. real-kept (eqb-true t 7 e)) (λ e.
      by_cond Kept (eqb t 8) _ _ (λ e x q. absurd (let z : ◌≡◌ {A = ℕ} 0 1 = cc in omega arith)) (λ e.
      by_cond Kept (eqb t 9) _ _ (λ e x q. absurd (let z : ◌≡◌ {A = ℕ} 0 1 = cc in omega arith)) (λ e.
      by_cond Kept (eqb (t % 2) 0) _ _
      (λ e x q. absurd (let z : ◌≡◌ {A = ℕ} 0 1 = cc in omega arith))
      (λ e x q. absurd (let z : ◌≡◌ {A = ℕ} 0 1 = cc in omega arith)))))))

-- a text or a blob as the types have it
pub record Placed (b : List ℕ) (i place size : ℕ) (ts : List ℕ) : Type 0 where
  pub reads : types_of b ≡ types ts
  pub some : 0 < i
  pub last : i ≤ length ts
  pub place_is : place ≡ place_at (header_of b) ts i
  pub size_is : size ≡ size_of (type_at ts i)

module _ (b : List ℕ) (i place size : ℕ) where
  placed_by : (v : Column) → ((d : ℕ) → place_or v d ≡ place) → ((d : ℕ) → size_or v d ≡ size) → column_at b i ≡ Ok v
      → (ts : List ℕ) × Placed b i place size ts
  placed_by v p q e =
      let s = shown b i v e in
      let l = value-lies b (type_at s.0 i) (place_at (header_of b) s.0 i) in (
        s.0,
        record {
          reads = s.1.reads;
          some = s.1.some;
          last = s.1.last;
          place_is = sym (p _) ∙ ap (λ (c : Column). place_or c (place_at (header_of b) s.0 i)) s.1.value ∙ l.0;
          size_is = sym (q _) ∙ ap (λ (c : Column). size_or c (size_of (type_at s.0 i))) s.1.value ∙ l.1;
        },
      )

  pub placed : Lies b i place size → (ts : List ℕ) × Placed b i place size ts
  placed = ⊎_elim (placed_by (Text place size) (λ d. refl) (λ d. refl)) (placed_by (Blob place size) (λ d. refl) (λ d. refl))
