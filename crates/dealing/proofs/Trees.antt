-- What is collected from the leaves of a tree, and the pages that lie in it.
use mathlib.Core.Path.{◌≡◌, refl, sym, ◌∙◌, ap, subst}
use mathlib.Core.Bool.{Bool, true, false, cond}
use mathlib.Core.Logic.{◌⊎◌, inl, inr, ⊎_elim}
use mathlib.Core.List.{List, [], ◌∷◌}
use mathlib.Core.List.Memᴰ.{append_cases}
use mathlib.Core.List.Memᴰ.{head as here}
use mathlib.Core.List.Memᴰ.{tail as there}
use mathlib.Core.List.{Memᴰ as Mem}
use mathlib.Core.List.Memᴰ.{append_left}
use mathlib.Core.List.Memᴰ.{append_right}
use Prim.Native.Nat.{ℕ, zero, suc, ◌+◌}
use native.Mathlib.Omega.{arith}
use Rattle.dealing.specs.File.{Cell, File, Page, Nameable, is_leaf, cells_of}
use Rattle.dealing.proofs.Lists.{At}
use Rattle.dealing.specs.Good.{Dealing, Slot, child_slot, right_slot, chain_slot, root_slot, head_slot, leaf_slot, next_slot, TreePage, InTree, PointsTo, Good}
use Rattle.dealing.specs.Walk.{Named, nothing, root, over_children, root_at, leaf_roots, schema_roots}
use Rattle.dealing.proofs.Unique.{Naming}
use Rattle.dealing.proofs.Cells.{at-is, is_at}
use Rattle.dealing.proofs.Rich.{root_in}
use Rattle.dealing.proofs.Grow.{grow-tree}

module _ {A : Type 0} (g : ℕ → List A) where
  pub children-out : (r : ℕ) (cs : List Cell) (x : A) → Mem x (over_children g r cs) → Mem x (g r) ⊎ ((j : ℕ) × (c : Cell) × At cs j c × Mem x (g c.child))
  unfolding over_children
  children-out r [] x m = inl m
  children-out r (c ∷ cs) x m = go (children-out r cs x) (append_cases (g c.child) m)
    where
      go : (Mem x (over_children g r cs) → Mem x (g r) ⊎ ((j : ℕ) × (c : Cell) × At cs j c × Mem x (g c.child)))
          → Mem x (g c.child) ⊎ Mem x (over_children g r cs)
          → Mem x (g r) ⊎ ((j : ℕ) × (c' : Cell) × At (c ∷ cs) j c' × Mem x (g c'.child))
      go ih (inl a) = inr (0, c, refl, a)
      go ih (inr a) = ⊎_elim (λ k. inl k) (λ w. inr (suc w.0, w.1, w.2, w.3)) (ih a)

  pub right_child : (r : ℕ) (cs : List Cell) (x : A) → Mem x (g r) → Mem x (over_children g r cs)
  unfolding over_children
  right_child r [] x m = m
  right_child r (c ∷ cs) x m = append_right (g c.child) (right_child r cs x m)

  pub cell-child : (r : ℕ) (cs : List Cell) (x : A) (j : ℕ) (c : Cell) → At cs j c → Mem x (g c.child) → Mem x (over_children g r cs)
  unfolding over_children
  cell-child r [] x j c a m = absurd (let z : ◌≡◌ {A = ℕ} 0 1 = cc in omega arith)
  cell-child r (y ∷ cs) x zero c a m = let e : c ≡ y = cc in append_left (over_children g r cs) (subst (λ (c : Cell). Mem x (g c.child)) e m)
  cell-child r (y ∷ cs) x (suc j) c a m = append_right (g y.child) (cell-child r cs x j c a m)

module _ (f : File) {A : Type 0} (leafy : ℕ → ℕ → List A) where
  unfoldable pub collect : ℕ → ℕ → List A
  collect zero p = []
  collect (suc l) p = cond (is_leaf f p) (leafy (suc l) p) (over_children (collect l) (f.right p) (cells_of f p))

  -- a page of kind 6 is a child of its namer
  child-step : (d : Dealing) (l p : ℕ) (s : Slot) (q k : ℕ) → k ≡ 6 → PointsTo f d p s q k → (x : A) → Mem x (collect l q) → Mem x (collect (suc l) p)
  unfolding collect
  child-step d l p (child_slot j) q k e w x m =
      rw w.1 (cell-child (collect l) (f.right p) (cells_of f p) x j (f.cell p j) (is_at f p j w.2) (subst (λ q. Mem x (collect l q)) w.3 m))
  child-step d l p right_slot q k e w x m = rw w.1 (right_child (collect l) (f.right p) (cells_of f p) x (subst (λ q. Mem x (collect l q)) w.2 m))
  child-step d l p (chain_slot j) q k e w x m = absurd (omega (arith, w.5))
  child-step d l p (root_slot j) q k e w x m = absurd (omega (arith, w.3))
  child-step d l p head_slot q k e w x m = absurd (omega (arith, w.3))
  child-step d l p (leaf_slot j) q k e w x m = absurd (omega (arith, w.3))
  child-step d l p next_slot q k e (inl w) x m = absurd (omega (arith, w.3))
  child-step d l p next_slot q k e (inr w) x m = absurd (omega (arith, w.3))

  module _ (d : Dealing) (parent : (q : ℕ) → Nameable f q → Naming f d q) where
    -- what is collected below a page of a tree is collected from the tree
    pub inside : (n l r q : ℕ) → InTree f d r n q → n + l ≡ 21 → (x : A) → Mem x (collect l q) → Mem x (collect 20 r)
    inside zero l r q t e x m = absurd t
    inside (suc zero) l r q t e x m = let e' : l ≡ 20 = omega arith in subst (λ l. Mem x (collect l r)) e' (subst (λ q. Mem x (collect l q)) t m)
    inside (suc (suc n)) l r q t e x m =
        let w = parent q t.0 in
        inside (suc n) (suc l) r (d.namer q) t.2 (omega arith) x (child-step d l (d.namer q) w.slot q (d.kind q) t.1 w.holds x m)

  pub record Leafed (d : Dealing) (r n : ℕ) (x : A) : Type 0 where
    pub page : ℕ
    pub level : ℕ
    pub left : ℕ
    pub in_tree : InTree f d r level page
    pub levels : level + left ≡ n
    pub leaf : is_leaf f page ≡ true
    pub here-it : Mem x (leafy left page)

  module _ (d : Dealing) (g : Good f d) where
    -- and what is collected from a tree stands on a leaf of it
    pub descend : (l r n p : ℕ) → Page f p → TreePage d p → InTree f d r n p → (x : A) → Mem x (collect l p) → Leafed d r (n + l) x
    unfolding collect
    descend zero r n p h k t x m = elim m [ ]
    descend (suc l) r n p h k t x m = go (λ c. descend l r (suc n) c) (is_leaf f p) refl m
      where
        down : ((c : ℕ) → Page f c → TreePage d c → InTree f d r (suc n) c → (x : A) → Mem x (collect l c) → Leafed d r (suc n + l) x)
            → (s : Slot) (c : ℕ) → PointsTo f d p s c 6 → Mem x (collect l c) → Leafed d r (n + suc l) x
        down ih s c w m =
            let u = g.pointers p s c 6 h w in
            let q : Nameable f c = u.0 in
            let e : suc n + l ≡ n + suc l = omega arith in
            subst (λ n. Leafed d r n x) e (ih c (omega arith) (inr u.1) (grow-tree f d n r p c t u.0 u.1 u.2) x m)

        go : ((c : ℕ) → Page f c → TreePage d c → InTree f d r (suc n) c → (x : A) → Mem x (collect l c) → Leafed d r (suc n + l) x)
            → (b : Bool) → is_leaf f p ≡ b → Mem x (cond b (leafy (suc l) p) (over_children (collect l) (f.right p) (cells_of f p))) → Leafed d r (n + suc l) x
        go ih true e m = record { page = p; level = n; left = suc l; in_tree = t; levels = refl; leaf = e; here-it = m }
        go ih false e m =
            ⊎_elim (λ i. down ih right_slot (f.right p) (k, e, refl, refl) i)
            (λ w. let a = at-is f p w.0 w.1 w.2 in
            down ih (child_slot w.0) w.1.child (k, e, a.0, ap (λ (c : Cell). c.child) a.1, refl) w.3)
            (children-out (collect l) (f.right p) (cells_of f p) x m)

pub children-same : {A : Type 0} (g h : ℕ → List A) → ((p : ℕ) → g p ≡ h p) → (r : ℕ) (cs : List Cell) → over_children g r cs ≡ over_children h r cs
unfolding over_children
children-same g h e r [] = e r
children-same g h e r (c ∷ cs) = rw (e c.child, children-same g h e r cs)

-- the roots
abbrev pub leafy_roots : File → ℕ → ℕ → List (ℕ × ℕ)
leafy_roots f l p = leaf_roots f p 0 (cells_of f p)

pub roots-collect : (f : File) (l p : ℕ) → schema_roots f l p ≡ collect f (leafy_roots f) l p
unfolding schema_roots collect
roots-collect f zero p = refl
roots-collect f (suc l) p = rw (children-same (schema_roots f l) (collect f (leafy_roots f) l) (roots-collect f l) (f.right p) (cells_of f p))

module _ (f : File) (p : ℕ) where
  root-at : (v : Named) (x : ℕ × ℕ) → Mem x (root_at p v) → (x.0 ≡ p) × (v ≡ root x.1)
  root-at nothing x m = elim m [ ]
  root-at (root r) x (here e) = (ap (λ x. x.0) e, ap (λ (x : ℕ × ℕ). root x.1) (sym e))
  root-at (root r) x (there m) = elim m [ ]

  pub leaf-roots-out : (i : ℕ) (cs : List Cell) (x : ℕ × ℕ) → Mem x (leaf_roots f p i cs)
      → (x.0 ≡ p) × ((j : ℕ) × (c : Cell) × At cs j c × (root_in f p (i + j) ≡ root x.1))
  unfolding leaf_roots
  leaf-roots-out i [] x m = elim m [ ]
  leaf-roots-out i (c ∷ cs) x m = go (leaf-roots-out (suc i) cs x) (append_cases (root_at p (root_in f p i)) m)
    where
      go : (Mem x (leaf_roots f p (suc i) cs) → (x.0 ≡ p) × ((j : ℕ) × (c : Cell) × At cs j c × (root_in f p (suc i + j) ≡ root x.1)))
          → Mem x (root_at p (root_in f p i)) ⊎ Mem x (leaf_roots f p (suc i) cs)
          → (x.0 ≡ p) × ((j : ℕ) × (c' : Cell) × At (c ∷ cs) j c' × (root_in f p (i + j) ≡ root x.1))
      go ih (inl a) = let w = root-at (root_in f p i) x a in let e : i + 0 ≡ i = omega arith in (w.0, (0, c, refl, ap (λ i. root_in f p i) e ∙ w.1))
      go ih (inr a) = let w = ih a in let e : i + suc w.1.0 ≡ suc i + w.1.0 = omega arith in
          (w.0, (suc w.1.0, w.1.1, w.1.2, ap (λ i. root_in f p i) e ∙ w.1.3))

  pub leaf-roots-in : (i : ℕ) (cs : List Cell) (j : ℕ) (c : Cell) (r : ℕ) → At cs j c → root_in f p (i + j) ≡ root r → Mem (p, r) (leaf_roots f p i cs)
  unfolding leaf_roots
  leaf-roots-in i [] j c r a e = absurd (let z : ◌≡◌ {A = ℕ} 0 1 = cc in omega arith)
  leaf-roots-in i (x ∷ cs) zero c r a e =
      let k : i ≡ i + 0 = omega arith in
      append_left (leaf_roots f p (suc i) cs) (subst (λ v. Mem (p, r) (root_at p v)) (sym (ap (λ i. root_in f p i) k ∙ e)) (here refl))
  leaf-roots-in i (x ∷ cs) (suc j) c r a e =
      let k : suc i + j ≡ i + suc j = omega arith in
      append_right (root_at p (root_in f p i)) (leaf-roots-in (suc i) cs j c r a (ap (λ i. root_in f p i) k ∙ e))
