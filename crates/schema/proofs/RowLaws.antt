-- Each way out of the functions over a schema row.
use Prim.Native.Nat.{ℕ, zero, suc, ◌<◌, ◌≤◌, ◌^◌}
use mathlib.Core.Path.{◌≡◌, refl, sym, ap, ◌∙◌}
use mathlib.Core.Bool.{true, false}
use mathlib.Core.List.{List}
use native.Mathlib.Omega.{arith}
use lib.Dec.{leb}
use lib.IntN.{ℤ, pos, negsuc, nat_abs}
use mathlib.Core.Logic.{⊎_elim}
use borrow.Author.Tests.{le-leb, lt-leb, ne_eqb, eq-eqb}
use Rattle.number.proofs.Cases.{lt-or-ge}
use Rattle.std.specs.Int.{FitsUnsignedBits}
use Rattle.std.specs.Prelude.{Option, Some, None, Result, Ok, Err}
use Rattle.dealing.specs.File.{integer}
use Rattle.image.specs.Schema.{column_is, value_is, column4_of}
use Rattle.record.specs.Record.{columns_of, column_at}
use Rattle.record.specs.declared.Column as Col
use Rattle.record.specs.declared.NoValue.{NoValue}
use Rattle.refusal.specs.declared.Rule.{Rule}
use Rattle.refusal.specs.declared.Rule.TheVariants.{BadRecord}
use Rattle.schema.specs.Row.{row_is}

-- an integer that is read as 32 bits without a sign
module _ (n r : ℕ) where
  pub root_none : (v : ℤ) → FitsUnsignedBits 32 v → r ≡ nat_abs v → r ≡ 0 → Ok None ≡ row_is n (integer v)
  unfolding row_is
  root_none (pos zero) f e z = refl
  root_none (pos (suc k)) f e z = absurd (omega arith)
  root_none (negsuc k) f e z = absurd f

  pub root-one : (v : ℤ) → FitsUnsignedBits 32 v → r ≡ nat_abs v → (r ≡ 0 → ⊥) → r < 2 → Err BadRecord ≡ row_is n (integer v)
  unfolding row_is
  root-one (pos zero) f e z l = absurd (z e)
  root-one (pos (suc zero)) f e z l = refl
  root-one (pos (suc (suc k))) f e z l = absurd (omega arith)
  root-one (negsuc k) f e z l = absurd f

  pub root-far : (v : ℤ) → FitsUnsignedBits 32 v → r ≡ nat_abs v → 2 ≤ r → n < r → Err BadRecord ≡ row_is n (integer v)
  unfolding row_is
  root-far (pos zero) f e z l = absurd (omega arith)
  root-far (pos (suc zero)) f e z l = absurd (omega arith)
  root-far (pos (suc (suc k))) f e z l = let g : leb (suc (suc k)) n ≡ false = lt-leb (suc (suc k)) n (omega arith) in rw g refl
  root-far (negsuc k) f e z l = absurd f

  pub root_names : (v : ℤ) → FitsUnsignedBits 32 v → r ≡ nat_abs v → 2 ≤ r → r ≤ n → Ok (Some r) ≡ row_is n (integer v)
  unfolding row_is
  root_names (pos zero) f e z l = absurd (omega arith)
  root_names (pos (suc zero)) f e z l = absurd (omega arith)
  root_names (pos (suc (suc k))) f e z l =
      let g : leb (suc (suc k)) n ≡ true = le-leb (suc (suc k)) n (omega arith) in rw g (ap (λ (x : ℕ). Ok (Some x)) e)
  root_names (negsuc k) f e z l = absurd f

module _ (n : ℕ) where
  -- one that is not
  pub root-wide : n < 2 ^ 32 → (v : ℤ) → (FitsUnsignedBits 32 v → ⊥) → Err BadRecord ≡ row_is n (integer v)
  unfolding row_is
  root-wide s (pos zero) f = absurd (f (omega arith))
  root-wide s (pos (suc zero)) f = refl
  root-wide s (pos (suc (suc k))) f =
      ⊎_elim
      (λ (l : n < suc (suc k)). let g : leb (suc (suc k)) n ≡ false = lt-leb (suc (suc k)) n l in rw g refl)
      (λ (l : suc (suc k) ≤ n). absurd (f (omega arith)))
      (lt-or-ge n (suc (suc k)))
  root-wide s (negsuc k) f = refl

  -- column four
  pub null-names : (v : Col.Column) → v ≡ Col.TheVariants.Null → Ok None ≡ row_is n (column_is v)
  unfolding row_is
  null-names v e = rw e refl

  pub other-unfit : (v : Col.Column) → (v ≡ Col.TheVariants.Null → ⊥) → ((x : ℤ) → v ≡ Col.TheVariants.Int x → ⊥) → Err BadRecord ≡ row_is n (column_is v)
  unfolding row_is
  other-unfit Col.TheVariants.Null a b = absurd (a refl)
  other-unfit (Col.TheVariants.Int v) a b = absurd (b v refl)
  other-unfit (Col.TheVariants.Real x) a b = refl
  other-unfit (Col.TheVariants.Text p l) a b = refl
  other-unfit (Col.TheVariants.Blob p l) a b = refl

  -- the record by its number of columns and its fourth
  module _ (r : List ℕ) where
    pub unread-unfit : None ≡ columns_of r → Err BadRecord ≡ row_is n (column4_of r)
    unfolding row_is column4_of
    unread-unfit e = rw (← e) refl

    pub not-five-unfit : (count : ℕ) → Some count ≡ columns_of r → (count ≡ 5 → ⊥) → Err BadRecord ≡ row_is n (column4_of r)
    unfolding row_is column4_of
    not-five-unfit count e h = rw (← e, ne_eqb count 5 h) refl

    module _ (count : ℕ) (is-count : Some count ≡ columns_of r) (five : count ≡ 5) where
      column4-is : column4_of r ≡ value_is (column_at r 4)
      unfolding column4_of
      column4-is = rw (← is-count, eq-eqb count 5 five) refl

      missing : (v : Result Col.Column NoValue) → ((c : Col.Column) → v ≡ Ok c → ⊥) → Err BadRecord ≡ row_is n (value_is v)
      unfolding row_is
      missing (Err d) h = refl
      missing (Ok c) h = absurd (h c refl)

      pub missing-unfit : (v : Result Col.Column NoValue) → v ≡ column_at r 4 → ((c : Col.Column) → v ≡ Ok c → ⊥) → Err BadRecord ≡ row_is n (column4_of r)
      missing-unfit v e h = missing v h ∙ ap (λ (x : Result Col.Column NoValue). row_is n (value_is x)) e ∙ sym (ap (row_is n) column4-is)

      pub column-decides : (v : Result Col.Column NoValue) (c : Col.Column) (w : Result (Option ℕ) Rule) → v ≡ column_at r 4 → v ≡ Ok c → w ≡ row_is n (column_is c)
          → w ≡ row_is n (column4_of r)
      column-decides v c w e f g = g ∙ ap (λ (x : Result Col.Column NoValue). row_is n (value_is x)) (sym f ∙ e) ∙ sym (ap (row_is n) column4-is)

      pub integer-names : (v : Result Col.Column NoValue) (c : Col.Column) (x : ℤ) (w : Result (Option ℕ) Rule) → v ≡ column_at r 4 → v ≡ Ok c → c ≡ Col.TheVariants.Int x
          → w ≡ row_is n (integer x) → w ≡ row_is n (column4_of r)
      integer-names v c x w e f g k = column-decides v c w e f (k ∙ ap (λ (y : Col.Column). row_is n (column_is y)) (sym g))
