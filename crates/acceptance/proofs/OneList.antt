-- Two lists with the same cells, row numbers rising, are one.
-- Assumes nothing.
use Prim.Native.Nat.{ℕ, ◌<◌}
use mathlib.Core.Path.{◌≡◌, refl, sym, ap, ◌∙◌}
use mathlib.Core.List.Memᴰ.{head as here}
use mathlib.Core.List.Memᴰ.{tail as there}
use mathlib.Core.List.{List, [], ◌∷◌, Memᴰ as Mem}
use native.Mathlib.Omega.{arith}
use Rattle.cursor.specs.Means.{row_in, Climbs}

abbrev In : (ss ts : List (ℕ × ℕ)) → Type 0
In ss ts = (z : ℕ × ℕ) → Mem z ss → Mem z ts

-- a member of the longer list that is not its head
tail-in : (t : ℕ × ℕ) (ts : List (ℕ × ℕ)) (z : ℕ × ℕ) → (z ≡ t → Mem z ts) → Mem z (t ∷ ts) → Mem z ts
tail-in t ts z h (here e) = h e
tail-in t ts z h (there m) = m

module _ (b : List ℕ) where
  abbrev row : ℕ × ℕ → ℕ
  row z = row_in b z.0 z.1

  tails-in : (s t : ℕ × ℕ) (ss ts : List (ℕ × ℕ)) → s ≡ t → Climbs b (s ∷ ss) → In (s ∷ ss) (t ∷ ts) → In ss ts
  tails-in s t ss ts e c f z m =
      tail-in t ts z
      (λ h. let r : row z ≡ row s = ap row (h ∙ sym e) in let l : row s < row z = c.0 z.0 z.1 m in absurd (omega arith))
      (f z (there m))

  pub climbs-one : (ss ts : List (ℕ × ℕ)) → Climbs b ss → Climbs b ts → In ss ts → In ts ss → ss ≡ ts
  climbs-one [] [] c d f g = refl
  climbs-one [] (t ∷ ts) c d f g = elim (g t (here refl)) [ ]
  climbs-one (s ∷ ss) [] c d f g = elim (f s (here refl)) [ ]
  climbs-one (s ∷ ss) (t ∷ ts) c d f g = heads (λ f' g'. climbs-one ss ts c.1 d.1 f' g') (f s (here refl)) (g t (here refl))
    where
      joined : (In ss ts → In ts ss → ss ≡ ts) → s ≡ t → (s ∷ ss) ≡ (t ∷ ts)
      joined same e = ap (λ z. z ∷ ss) e ∙ ap (λ zs. t ∷ zs) (same (tails-in s t ss ts e c f) (tails-in t s ts ss (sym e) d g))

      heads : (In ss ts → In ts ss → ss ≡ ts) → Mem s (t ∷ ts) → Mem t (s ∷ ss) → (s ∷ ss) ≡ (t ∷ ts)
      heads same (here e) n = joined same e
      heads same (there m) (here e) = joined same (sym e)
      heads same (there m) (there n) =
          let k : row s < row t = c.0 t.0 t.1 n in
          let l : row t < row s = d.0 s.0 s.1 m in
          absurd (omega arith)
