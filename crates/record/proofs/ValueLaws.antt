-- A column's value by its serial type.
use Prim.Native.Nat.{ℕ, ◌%◌, ◌≤◌, ◌<◌}
use mathlib.Core.Path.{◌≡◌, refl, sym, ap, ◌∙◌}
use mathlib.Core.List.{List}
use lib.IntN.{ℤ}
use borrow.Author.Tests.{le-ltb, lt-ltb, eq-eqb, ne_eqb}
use native.Mathlib.Omega.{arith}
use Rattle.number.proofs.Cases.{lt-or-ge}
use Rattle.number.specs.Bytes.{be, signed_be}
use mathlib.Core.Logic.{⊎_elim}
use Rattle.record.specs.Serial.{size_of, real_of, value_of}
use Rattle.record.specs.declared.Column.{Column}
use Rattle.record.specs.declared.Column.TheVariants.{Int, Text, Blob}

-- integers take 1 to 8 bytes
pub int-size : (t : ℕ) → (t ≡ 0 → ⊥) → t < 7 → (1 ≤ size_of t) × (size_of t ≤ 8)
unfolding size_of
int-size t z l =
    ⊎_elim
    (λ (p : t < 5). simp (lt-ltb t 5 p) (omega (arith, z)))
    (λ (p : 5 ≤ t).
    ⊎_elim
    (λ (q : t < 6). let e : t ≡ 5 = omega arith in simp (le-ltb t 5 p, eq-eqb t 5 e) (omega arith))
    (λ (q : 6 ≤ t). simp (le-ltb t 5 p, ne_eqb t 5 (λ e. omega arith), lt-ltb t 8 (omega arith)) (omega arith))
    (lt-or-ge t 6))
    (lt-or-ge t 5)

-- floats take 8
pub real-size : (t : ℕ) → t ≡ 7 → size_of t ≡ 8
unfolding size_of
real-size t e = rw e refl

module _ (b : List ℕ) (t place : ℕ) where
  pub value-int : (size : ℕ) (v : ℤ) → size ≡ size_of t → (t ≡ 0 → ⊥) → t < 7 → v ≡ signed_be size b place → Int v ≡ value_of b t place
  unfolding value_of
  value-int size v e z l s =
      ap Int (s ∙ ap (λ (w : ℕ). signed_be w b place) e) ∙ sym (simp (ne_eqb t 0 z, lt-ltb t 7 l))

  pub value-real : (c : Column) (u : ℕ) → t ≡ 7 → c ≡ real_of u → u ≡ be 8 b place → c ≡ value_of b t place
  unfolding value_of
  value-real c u e r s = r ∙ ap real_of s ∙ sym (rw e refl)

  module _ (size : ℕ) (e : size ≡ size_of t) (z : t ≡ 0 → ⊥) (l : 7 ≤ t) (seven : t ≡ 7 → ⊥) (eight : t ≡ 8 → ⊥) (nine : t ≡ 9 → ⊥) where
    pub value-blob : t % 2 ≡ 0 → Blob place size ≡ value_of b t place
    unfolding value_of
    value-blob k =
        ap (Blob place) e
        ∙ sym (simp (ne_eqb t 0 z, le-ltb t 7 l, ne_eqb t 7 seven, ne_eqb t 8 eight, ne_eqb t 9 nine, eq-eqb (t % 2) 0 k))

    pub value-text : (t % 2 ≡ 0 → ⊥) → Text place size ≡ value_of b t place
    unfolding value_of
    value-text k =
        ap (Text place) e
        ∙ sym (simp (ne_eqb t 0 z, le-ltb t 7 l, ne_eqb t 7 seven, ne_eqb t 8 eight, ne_eqb t 9 nine, ne_eqb (t % 2) 0 k))
