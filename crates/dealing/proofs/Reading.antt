-- The reading of a good file's tree has all of it: more levels read no more.
use mathlib.Core.Path.{◌≡◌, refl, ◌∙◌, ap}
use mathlib.Core.Bool.{Bool, true, false}
use mathlib.Core.Logic.{inl, inr}
use mathlib.Core.List.{List, [], ◌∷◌}
use Prim.Native.Nat.{ℕ, zero, suc, ◌+◌}
use native.Mathlib.Omega.{arith}
use Rattle.dealing.specs.File.{Cell, File, Page, Nameable, is_leaf, is_table, cells_of}
use Rattle.dealing.proofs.Lists.{At}
use Rattle.dealing.specs.Good.{Dealing, Slot, child_slot, right_slot, TreePage, InTree, PointsTo, Mark, inner_of, reading, Good}
use Rattle.dealing.proofs.Cells.{at-is}
use Rattle.dealing.proofs.Grow.{grow-tree}

inner-same : (g h : ℕ → List Mark) (asked t : Bool) (r : ℕ) (cs : List Cell) → g r ≡ h r
    → ((j : ℕ) (c : Cell) → At cs j c → g c.child ≡ h c.child) → inner_of g asked t r cs ≡ inner_of h asked t r cs
unfolding inner_of
inner-same g h asked t r [] e k = e
inner-same g h asked t r (c ∷ cs) e k = rw (k 0 c refl, inner-same g h asked t r cs e (λ j x a. k (suc j) x a))

module _ (asked : Bool) (f : File) (d : Dealing) (g : Good f d) (r : ℕ) (page : Page f r) (is-root : d.kind r ≡ 1) where
  more : (k l n q : ℕ) → Page f q → TreePage d q → InTree f d r n q → n + l ≡ 21 → reading f asked (l + k) q ≡ reading f asked l q
  more k zero n q h p t e = absurd (omega (arith, g.rule_24_depth r n q page is-root t))
  more k (suc l) n q h p t e =
      (let z : suc l + k ≡ suc (l + k) = omega arith in ap (λ x. reading f asked x q) z)
      ∙ open_up (λ c i j u. more k l (suc n) c i j u (omega arith)) (is_leaf f q) refl
    where
      down : ((c : ℕ) → Page f c → TreePage d c → InTree f d r (suc n) c → reading f asked (l + k) c ≡ reading f asked l c) → (s : Slot) (c : ℕ)
          → PointsTo f d q s c 6 → reading f asked (l + k) c ≡ reading f asked l c
      down ih s c w =
          let u = g.pointers q s c 6 h w in
          let i : Nameable f c = u.0 in
          ih c (omega arith) (inr u.1) (grow-tree f d n r q c t u.0 u.1 u.2)

      open_up : ((c : ℕ) → Page f c → TreePage d c → InTree f d r (suc n) c → reading f asked (l + k) c ≡ reading f asked l c) → (b : Bool) → is_leaf f q ≡ b
          → reading f asked (suc (l + k)) q ≡ reading f asked (suc l) q
      open_up ih true e = unfold reading in rw e
      open_up ih false e = unfold reading in rw e
          (inner-same (reading f asked (l + k)) (reading f asked l) asked (is_table f q) (f.right q) (cells_of f q)
          (down ih right_slot (f.right q) (p, e, refl, refl))
          (λ j c a. down ih (child_slot j) c.child (let w = at-is f q j c a in (p, e, w.0, ap (λ (c : Cell). c.child) w.1, refl))))

  pub reading-more : (k : ℕ) → reading f asked (20 + k) r ≡ reading f asked 20 r
  reading-more k = more k 20 1 r page (inl is-root) refl (omega arith)
