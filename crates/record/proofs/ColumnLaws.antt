-- From what the pass over a record found to the number of columns and to a column.
use Prim.Native.Nat.{ℕ, suc, ◌+◌, ◌-◌, ◌<◌, ◌≤◌}
use mathlib.Core.Path.{◌≡◌, refl, ◌∙◌, subst}
use mathlib.Core.List.{List}
use lib.ListN.{length}
use native.Mathlib.Omega.{arith}
use borrow.Author.Tests.{eqb-false, ltb-false}
use lib.Dec.{eqb, ltb}
use mathlib.Core.Bool.{Bool, true, false, cond}
use Rattle.number.proofs.Cases.{by_cond}
use Rattle.record.proofs.LayoutLaws.{reads-layout}
use Rattle.record.proofs.SizesLaws.{sizes-next, sizes-part}
use Rattle.record.specs.Serial.{size_of, value_of}
use Rattle.record.specs.Record.{Types, broken, types, header_of, types_of, type_at, place_at, reads, reads_of, count_of, columns_of, column_of, column_at}
use Rattle.record.specs.Scan.{summary, scan_of, if_present, spot_at}
use Rattle.record.specs.declared.Column.{Column}
use Rattle.record.specs.declared.NoValue.{NoValue}
use Rattle.record.specs.declared.NoValue.TheVariants.{DoesNotRead, Missing}
use Rattle.record.specs.declared.Scanned.{Scanned}
use Rattle.record.specs.declared.Spot.{Spot}
use Rattle.std.specs.Prelude.{Option, Some, None, Result, Ok, Err, is_some}

-- the value of a column lies within the record
pub lies_within : (b : List ℕ) (ts : List ℕ) (i : ℕ) → types_of b ≡ types ts → 0 < i → i ≤ length ts
    → place_at (header_of b) ts i + size_of (type_at ts i) ≤ length b
lies_within b ts i e p q =
    omega (arith, (reads-layout b ts e).values, sizes-next ts (i - 1) (omega arith), sizes-part ts (suc (i - 1)))

-- from what one pass found to the answers
abbrev pub counted : Option Scanned → Option ℕ
counted None = None
counted (Some s) = Some s.count

abbrev pub shown_at : List ℕ → Option Spot → Result Column NoValue
shown_at b None = Err Missing
shown_at b (Some s) = Ok (value_of b s.kind s.place)

abbrev pub asked : List ℕ → Option Scanned → Result Column NoValue
asked b None = Err DoesNotRead
asked b (Some s) = shown_at b s.found

some-reads : (r : Types) → is_some (count_of r) ≡ reads r
some-reads broken = refl
some-reads (types ts) = refl

pub reads-is : (b : List ℕ) → is_some (columns_of b) ≡ reads_of b
unfolding columns_of reads_of
reads-is b = some-reads (types_of b)

asked-cond : (t u : Bool) (b : List ℕ) (p : Spot)
    → shown_at b (cond t None (cond u None (Some p))) ≡ cond t (Err Missing) (cond u (Err Missing) (Ok (value_of b p.kind p.place)))
asked-cond true u b p = refl
asked-cond false true b p = refl
asked-cond false false b p = refl

module _ (b : List ℕ) (i : ℕ) where
  count-by : (r : Types) → counted (summary i (header_of b) r) ≡ count_of r
  count-by broken = refl
  count-by (types ts) = refl

  pub counted-is : counted (scan_of b i) ≡ columns_of b
  unfolding scan_of columns_of
  counted-is = count-by (types_of b)

  asked-by : (r : Types) → asked b (summary i (header_of b) r) ≡ column_of b i r
  asked-by broken = refl
  asked-by (types ts) = asked-cond (eqb i 0) (ltb (length ts) i) b (spot_at (header_of b) ts i)

  pub asked-is : asked b (scan_of b i) ≡ column_at b i
  unfolding scan_of column_at
  asked-is = asked-by (types_of b)

  Fits : Spot → Type 0
  Fits p = p.place + size_of p.kind ≤ length b

  fits-found : (ts : List ℕ) (p : Spot) → types_of b ≡ types ts → if_present i ts (spot_at (header_of b) ts i) ≡ Some p → Fits p
  unfolding Fits
  fits-found ts p r =
      by_cond (λ (o : Option Spot). o ≡ Some p → Fits p) (eqb i 0) _ _
      (λ z e. absurd (let y : ◌≡◌ {A = ℕ} 0 1 = cc in omega arith))
      (λ z.
      by_cond (λ (o : Option Spot). o ≡ Some p → Fits p) (ltb (length ts) i) _ _
      (λ l e. absurd (let y : ◌≡◌ {A = ℕ} 0 1 = cc in omega arith))
      (λ l e.
      let q : spot_at (header_of b) ts i ≡ p = cc in
      subst Fits q (lies_within b ts i r (omega (arith, eqb-false i 0 z)) (ltb-false (length ts) i l))))

  fits-by : (r : Types) (s : Scanned) (p : Spot) → types_of b ≡ r → summary i (header_of b) r ≡ Some s → s.found ≡ Some p → Fits p
  fits-by broken s p r e f = absurd (let y : ◌≡◌ {A = ℕ} 0 1 = cc in omega arith)
  fits-by (types ts) s p r e f = let q : if_present i ts (spot_at (header_of b) ts i) ≡ s.found = cc in fits-found ts p r (q ∙ f)

  -- the value of a column that was found lies within the record
  pub spot_fits : (s : Scanned) (p : Spot) → scan_of b i ≡ Some s → s.found ≡ Some p → p.place + size_of p.kind ≤ length b
  unfolding scan_of Fits
  spot_fits s p e f = fits-by (types_of b) s p refl e f
