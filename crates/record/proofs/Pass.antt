-- The pass over a list of serial types as the code makes it, type by type, and what it finds, told of the types all at once.
use Prim.Native.Nat.{ℕ, suc, ◌+◌, ◌-◌, ◌<◌, ◌≤◌}
use mathlib.Core.Path.{◌≡◌, refl, ◌∙◌}
use mathlib.Core.Bool.{Bool, true, false, cond}
use mathlib.Core.List.{List, [], ◌∷◌}
use mathlib.Core.Logic.{⊎_elim}
use lib.Dec.{eqb, ltb}
use lib.ListN.{length, get_or, take}
use native.Mathlib.Nat.{zero-add, add-zero}
use native.Mathlib.Omega.{arith}
use borrow.Author.Tests.{eq-eqb, ne_eqb, lt-ltb, le-ltb}
use Rattle.number.proofs.Cases.{lt-or-ge}
use Rattle.record.specs.Serial.{size_of}
use Rattle.record.specs.Record.{Types, broken, types, sizes, filling}
use Rattle.record.specs.Scan.{summary}
use Rattle.record.specs.declared.Scanned.{Scanned}
use Rattle.record.specs.declared.Spot.{Spot}
use Rattle.std.specs.Prelude.{Option, Some, None}

-- the pass from the types ts on, whose values begin at `place`: n columns were met, and found is what is told of column i so far
unfoldable pub scan_over : List ℕ → (i place n : ℕ) → Option Spot → List ℕ → Option Scanned
scan_over b i place n found [] = cond (eqb place (length b)) (Some (record { count = n; found = found })) None
scan_over b i place n found (t ∷ ts) =
    scan_over b i (place + size_of t) (n + 1) (cond (eqb (n + 1) i) (Some (record { kind = t; place = place })) found) ts

abbrev pub scan_from : List ℕ → (i place n : ℕ) → Option Spot → Types → Option Scanned
scan_from b i place n found broken = None
scan_from b i place n found (types ts) = scan_over b i place n found ts

module _ (b : List ℕ) (i : ℕ) where
  -- values that have run past the end
  pub over : (place n : ℕ) (found : Option Spot) (ts : List ℕ) → length b < place → scan_over b i place n found ts ≡ None
  unfolding scan_over
  over place n found [] p = simp (ne_eqb place (length b) (λ e. omega arith))
  over place n found (t ∷ ts) p = over (place + size_of t) (n + 1) _ ts (omega arith)

  pub from-over : (place n : ℕ) (found : Option Spot) (r : Types) → length b < place → scan_from b i place n found r ≡ None
  from-over place n found broken p = refl
  from-over place n found (types ts) p = over place n found ts p

-- the answer, once the values' end is known
told : List ℕ → (end n : ℕ) → Option Spot → Option Scanned
told b end n found = cond (eqb end (length b)) (Some (record { count = n; found = found })) None

module _ (b : List ℕ) (i : ℕ) where
  -- column i is behind
  past : (place n : ℕ) (found : Option Spot) (ts : List ℕ) → i ≤ n → scan_over b i place n found ts ≡ told b (place + sizes ts) (n + length ts) found
  unfolding scan_over sizes told
  past place n found [] p = simp add-zero
  past place n found (t ∷ ts) p =
      let e : place + size_of t + sizes ts ≡ place + (size_of t + sizes ts) = omega arith in
      let k : n + 1 + length ts ≡ n + suc (length ts) = omega arith in
      simp (ne_eqb (n + 1) i (λ q. omega arith)) (past (place + size_of t) (n + 1) found ts (omega arith) ∙ rw (e, k))

  -- column i is still to come, if there is one
  ahead : (place n : ℕ) (ts : List ℕ) → n < i
      → scan_over b i place n None ts
      ≡ told b (place + sizes ts) (n + length ts)
      (cond (ltb (n + length ts) i) None (Some (record { kind = get_or ts (i - (n + 1)) 0; place = place + sizes (take (i - (n + 1)) ts) })))
  unfolding scan_over sizes told
  ahead place n [] p = simp (add-zero, lt-ltb n i p)
  ahead place n (t ∷ ts) p =
      let e : place + size_of t + sizes ts ≡ place + (size_of t + sizes ts) = omega arith in
      let k : n + 1 + length ts ≡ n + suc (length ts) = omega arith in
      ⊎_elim
      (λ (q : n + 1 < i).
      let d : i - (n + 1) ≡ suc (i - (n + 1 + 1)) = omega arith in
      let f : place + size_of t + sizes (take (i - (n + 1 + 1)) ts) ≡ place + (size_of t + sizes (take (i - (n + 1 + 1)) ts)) = omega arith in
      simp (ne_eqb (n + 1) i (λ z. omega arith)) (ahead (place + size_of t) (n + 1) ts q ∙ rw (e, k, d, f)))
      (λ (q : i ≤ n + 1).
      let d : i - (n + 1) ≡ 0 = omega arith in
      let g : n + 1 ≡ i = omega arith in
      simp (eq-eqb (n + 1) i g)
      (past (place + size_of t) (n + 1) (Some (record { kind = t; place = place })) ts (omega arith) ∙ rw (e, k, d, le-ltb (n + suc (length ts)) i (omega arith), add-zero)))
      (lt-or-ge (n + 1) i)

  settle : (h n : ℕ) (found : Option Spot) (ts : List ℕ) (e : Bool) → Some (record { count = n; found = found }) ≡ summary i h (types ts)
      → cond e (Some (record { count = n; found = found })) None ≡ summary i h (cond e (types ts) broken)
  settle h n found ts true q = q
  settle h n found ts false q = refl

  -- from the header's end on
  pub from-header : (h : ℕ) (r : Types) → scan_from b i h 0 None r ≡ summary i h (filling b h r)
  unfolding told
  from-header h broken = refl
  from-header h (types ts) =
      ⊎_elim
      (λ (q : 0 < i).
      ahead h 0 ts q
      ∙ settle h _ _ ts (eqb (h + sizes ts) (length b)) (simp (zero-add, ne_eqb i 0 (λ z. omega arith))))
      (λ (q : i ≤ 0).
      past h 0 None ts q
      ∙ settle h _ _ ts (eqb (h + sizes ts) (length b)) (let z : i ≡ 0 = omega arith in simp (zero-add, eq-eqb i 0 z)))
      (lt-or-ge 0 i)
