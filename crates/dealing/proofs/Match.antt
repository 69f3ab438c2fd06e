-- Where a dealing and a visit agree, the pointers that the page holds by the dealing are the visits that the visit makes.
use mathlib.Core.Path.{◌≡◌, refl, sym, ◌∙◌, ap, subst}
use mathlib.Core.Bool.{Bool, true, false, cond}
use mathlib.Core.Logic.{◌≢◌, ◌⊎◌, inl, inr, ⊎_elim}
use Prim.Native.Nat.{ℕ, zero, suc, ◌+◌, ◌≤◌}
use native.Mathlib.Omega.{arith}
use lib.Dec.{eqb}
use borrow.Author.Tests.{eq-eqb, eqb-true}
use Rattle.dealing.specs.File.{Place, schema_root, any_root, table_page, index_page, Cell, File, Page, Nameable, child_place, is_table}
use Rattle.dealing.specs.Good.{Dealing, Slot, child_slot, right_slot, chain_slot, root_slot, head_slot, leaf_slot, next_slot, TreePage, InTree, PointsTo, place_of}
use Rattle.dealing.proofs.Rich.{Role, tree, over, trunk, spare, place_kind, first_kind, kind_of, ChainAsks}
use Rattle.dealing.proofs.Cells.{at-is, is_at}
use Rattle.dealing.proofs.Rules.{named-number, number-named}
use Rattle.dealing.proofs.Parts.{child-kind}
use Rattle.dealing.proofs.Told.{ToldTree, ToldOver, ToldTrunk, Told}

pub record TreeFits (f : File) (d : Dealing) (q : ℕ) (b : Bool) (r : ℕ) (p : Place) (l : ℕ) : Type 0 where
  pub level : ℕ
  pub in_tree : InTree f d r level q
  pub levels : level + l ≡ 21
  pub some : 1 ≤ l
  pub top : Page f r
  pub top-kind : d.kind r ≡ 1
  pub schema : b ≡ eqb r 1
  pub place : place_of f d q ≡ p

abbrev pub RoleFits : File → Dealing → ℕ → Role → Type 0
RoleFits f d q (tree b r p l) = TreeFits f d q b r p l
RoleFits f d q (over b n) = ChainAsks n (f.next q)
RoleFits f d q (trunk n) = 1 ≤ n
RoleFits f d q spare = Unit {0}

pub record Match (f : File) (d : Dealing) (q : ℕ) (o : Role) : Type 0 where
  pub page : Page f q
  pub kind : d.kind q ≡ kind_of o
  pub fits : RoleFits f d q o

pub place-kinds : (p : Place) → (place_kind p ≡ 1) ⊎ (place_kind p ≡ 6)
place-kinds schema_root = inl refl
place-kinds any_root = inl refl
place-kinds table_page = inr refl
place-kinds index_page = inr refl

pub first-kinds : (b : Bool) → (first_kind b ≡ 4) ⊎ (first_kind b ≡ 5)
first-kinds true = inl refl
first-kinds false = inr refl

bad : {A : Type 0} → true ≡ false → A
bad e = absurd (let z : ◌≡◌ {A = ℕ} 0 1 = cc in omega arith)

module _ (f : File) (d : Dealing) where
  pub tree-kind : (n r q : ℕ) → d.kind r ≡ 1 → InTree f d r n q → TreePage d q
  tree-kind zero r q k t = absurd t
  tree-kind (suc zero) r q k t = inl (ap d.kind t ∙ k)
  tree-kind (suc (suc n)) r q k t = inr t.1

  pub tree-one : (n n' r r' q : ℕ) → d.kind r ≡ 1 → d.kind r' ≡ 1 → InTree f d r n q → InTree f d r' n' q → (r ≡ r') × (n ≡ n')
  tree-one zero n' r r' q k k' t t' = absurd t
  tree-one (suc zero) zero r r' q k k' t t' = absurd t'
  tree-one (suc zero) (suc zero) r r' q k k' t t' = (sym t ∙ t', refl)
  tree-one (suc zero) (suc (suc n')) r r' q k k' t t' = absurd (let e : d.kind q ≡ 1 = ap d.kind t ∙ k in omega (arith, t'.1))
  tree-one (suc (suc n)) zero r r' q k k' t t' = absurd t'
  tree-one (suc (suc n)) (suc zero) r r' q k k' t t' = absurd (let e : d.kind q ≡ 1 = ap d.kind t' ∙ k' in omega (arith, t.1))
  tree-one (suc (suc n)) (suc (suc n')) r r' q k k' t t' = let w = tree-one (suc n) (suc n') r r' (d.namer q) k k' t.2 t'.2 in (w.0, ap suc w.1)

  pub tree-page : (n r q : ℕ) → Page f r → InTree f d r n q → Page f q
  tree-page zero r q h t = absurd t
  tree-page (suc zero) r q h t = subst (Page f) (sym t) h
  tree-page (suc (suc n)) r q h t = let l : Nameable f q = t.0 in omega arith

  pub child-not : (b : Bool) → child_place b ≢ schema_root
  child-not true e = let z : ◌≡◌ {A = ℕ} 0 1 = cc in omega arith
  child-not false e = let z : ◌≡◌ {A = ℕ} 0 1 = cc in omega arith

  -- the place of page 1
  pub schema-first : (q : ℕ) → place_of f d q ≡ schema_root → q ≡ 1
  schema-first q e = go (eqb (d.kind q) 1) e
    where
      one : (b : Bool) → eqb q 1 ≡ b → cond b schema_root any_root ≡ schema_root → q ≡ 1
      one true x e = eqb-true q 1 x
      one false x e = absurd (let z : ◌≡◌ {A = ℕ} 0 1 = cc in omega arith)

      go : (b : Bool) → cond b (cond (eqb q 1) schema_root any_root) (child_place (is_table f (d.namer q))) ≡ schema_root → q ≡ 1
      go true e = one (eqb q 1) refl e
      go false e = absurd (child-not (is_table f (d.namer q)) e)

  pub first-schema : (q : ℕ) → d.kind 1 ≡ 1 → q ≡ 1 → place_of f d q ≡ schema_root
  first-schema q k e = rw (e, eq-eqb (d.kind 1) 1 k)

  tree-holds : (q : ℕ) (b : Bool) (r : ℕ) (p : Place) (l : ℕ) → Match f d q (tree b r p l)
      → (x : Slot) (t : ℕ) (o : Role) → ToldTree f q b r p l x t o → PointsTo f d q x t (kind_of o)
  tree-holds q b r p l M (child_slot j) t o w =
      let a = at-is f q j w.3.0 w.3.1 in
      (tp M, w.2, a.0, w.3.2 ∙ ap (λ (c : Cell). c.child) a.1, ap kind_of w.4 ∙ child-kind (is_table f q))
    where
      tp : Match f d q (tree b r p l) → TreePage d q
      tp M = ⊎_elim (λ e. inl (M.kind ∙ e)) (λ e. inr (M.kind ∙ e)) (place-kinds p)
  tree-holds q b r p l M right_slot t o w =
      (⊎_elim (λ e. inl (M.kind ∙ e)) (λ e. inr (M.kind ∙ e)) (place-kinds p), w.2, w.3, ap kind_of w.4 ∙ child-kind (is_table f q))
  tree-holds q b r p l M (chain_slot j) t o w =
      let u = w.3 in
      let e : u.0.links ≡ suc u.1 = u.3 in
      let a = at-is f q j u.0 u.2 in
      let n : (f.cell q j).links ≡ suc u.1 = ap (λ (c : Cell). c.links) (sym a.1) ∙ e in (
        ⊎_elim (λ e. inl (M.kind ∙ e)) (λ e. inr (M.kind ∙ e)) (place-kinds p),
        w.2,
        a.0,
        omega arith,
        u.4 ∙ ap (λ (c : Cell). c.first) a.1,
        ap kind_of u.5,
      )
  tree-holds q b r p l M (root_slot j) t o w =
      let F = M.fits in
      let e : r ≡ 1 = eqb-true r 1 (sym F.schema ∙ w.2) in (
        ((F.level, subst (λ r. InTree f d r F.level q) e F.in_tree), w.3, (at-is f q j w.4.0 w.4.1).0),
        (named-number (f.column4 q j) t w.5).0,
        (named-number (f.column4 q j) t w.5).1,
        ap kind_of w.6,
      )
  tree-holds q b r p l M head_slot t o w = (schema-first q (M.fits.place ∙ w.0), w.1, w.2, ap kind_of w.3)
  tree-holds q b r p l M (leaf_slot j) t o w = absurd w
  tree-holds q b r p l M next_slot t o w = absurd w

  over-holds : (q : ℕ) (b : Bool) (n : ℕ) → Match f d q (over b n) → (x : Slot) (t : ℕ) (o : Role) → ToldOver f q n x t o → PointsTo f d q x t (kind_of o)
  over-holds q b n M (child_slot j) t o w = absurd w
  over-holds q b n M right_slot t o w = absurd w
  over-holds q b n M (chain_slot j) t o w = absurd w
  over-holds q b n M (root_slot j) t o w = absurd w
  over-holds q b n M head_slot t o w = absurd w
  over-holds q b n M (leaf_slot j) t o w = absurd w
  over-holds q b n M next_slot t o w =
      inr (
        ⊎_elim (λ e. inl (M.kind ∙ e)) (λ e. inr (M.kind ∙ e)) (first-kinds b),
        subst (λ n. ChainAsks n (f.next q)) w.1 M.fits,
        w.2,
        ap kind_of w.3,
      )

  trunk-holds : (q n : ℕ) → Match f d q (trunk n) → (x : Slot) (t : ℕ) (o : Role) → ToldTrunk f q n x t o → PointsTo f d q x t (kind_of o)
  trunk-holds q n M (child_slot j) t o w = absurd w
  trunk-holds q n M right_slot t o w = absurd w
  trunk-holds q n M (chain_slot j) t o w = absurd w
  trunk-holds q n M (root_slot j) t o w = absurd w
  trunk-holds q n M head_slot t o w = absurd w
  trunk-holds q n M (leaf_slot j) t o w = (M.kind, w.0, w.1, ap kind_of w.2)
  trunk-holds q n M next_slot t o w = inl (M.kind, w.2, w.3, ap kind_of w.4)

  pub told-holds : (q : ℕ) (o : Role) → Match f d q o → (x : Slot) (t : ℕ) (o' : Role) → Told f q o x t o' → PointsTo f d q x t (kind_of o')
  told-holds q (tree b r p l) M x t o' w = tree-holds q b r p l M x t o' w
  told-holds q (over b n) M x t o' w = over-holds q b n M x t o' w
  told-holds q (trunk n) M x t o' w = trunk-holds q n M x t o' w
  told-holds q spare M x t o' w = absurd w

  module _ (one : d.kind 1 ≡ 1) where
    -- a page that holds such a pointer is a tree page, a trunk or an overflow page
    abbrev TreeSlot : Slot → Type 0
    TreeSlot (child_slot j) = Unit {0}
    TreeSlot right_slot = Unit {0}
    TreeSlot (chain_slot j) = Unit {0}
    TreeSlot (root_slot j) = Unit {0}
    TreeSlot head_slot = Unit {0}
    TreeSlot (leaf_slot j) = ⊥
    TreeSlot next_slot = ⊥

    holds-tree : (q : ℕ) (x : Slot) (t k : ℕ) → TreeSlot x → PointsTo f d q x t k → TreePage d q
    holds-tree q (child_slot j) t k u w = w.0
    holds-tree q right_slot t k u w = w.0
    holds-tree q (chain_slot j) t k u w = w.0
    holds-tree q (root_slot j) t k u w = tree-kind w.0.0.0 1 q one w.0.0.1
    holds-tree q head_slot t k u w = inl (ap d.kind w.0 ∙ one)
    holds-tree q (leaf_slot j) t k u w = absurd u
    holds-tree q next_slot t k u w = absurd u

    not-tree : {A : Type 0} (q x : ℕ) → d.kind q ≡ x → 2 ≤ x → x ≤ 5 → TreePage d q → A
    not-tree q x e a b (inl k) = absurd (omega arith)
    not-tree q x e a b (inr k) = absurd (omega arith)

    pub record Telling (q : ℕ) (o : Role) (x : Slot) (t k : ℕ) : Type 0 where
      pub role : Role
      pub told : Told f q o x t role
      pub kind : kind_of role ≡ k

    left-of : (l : ℕ) → 1 ≤ l → (l' : ℕ) × (l ≡ suc l')
    left-of zero h = absurd (omega arith)
    left-of (suc l) h = (l, refl)

    holds-told-tree : (q : ℕ) (b : Bool) (r : ℕ) (p : Place) (l : ℕ) → Match f d q (tree b r p l) → (x : Slot) (t k : ℕ) → PointsTo f d q x t k
        → Telling q (tree b r p l) x t k
    holds-told-tree q b r p l M (child_slot j) t k w =
        let e = left-of l M.fits.some in
        record {
          role = tree b r (child_place (is_table f q)) e.0;
          told = (e.0, e.1, w.1, (f.cell q j, is_at f q j w.2, w.3), refl);
          kind = child-kind (is_table f q) ∙ sym w.4;
        }
    holds-told-tree q b r p l M right_slot t k w =
        let e = left-of l M.fits.some in
        record { role = tree b r (child_place (is_table f q)) e.0; told = (e.0, e.1, w.1, w.2, refl); kind = child-kind (is_table f q) ∙ sym w.3 }
    holds-told-tree q b r p l M (chain_slot j) t k w =
        let e = left-of l M.fits.some in
        let n = left-of (f.cell q j).links w.3 in
        record { role = over true n.0; told = (e.0, e.1, w.1, (f.cell q j, n.0, is_at f q j w.2, n.1, w.4, refl)); kind = sym w.5 }
    holds-told-tree q b r p l M (root_slot j) t k w =
        let e = left-of l M.fits.some in
        let F = M.fits in
        let c : r ≡ 1 = (tree-one F.level w.0.0.0 r 1 q F.top-kind one F.in_tree w.0.0.1).0 in
        record {
          role = tree false t any_root 20;
          told =
              (e.0, e.1, F.schema ∙ eq-eqb r 1 c, w.0.1, (f.cell q j, is_at f q j w.0.2), number-named (f.column4 q j) t w.1 w.2, refl);
          kind = sym w.3;
        }
    holds-told-tree q b r p l M head_slot t k w =
        record { role = trunk f.N; told = (sym M.fits.place ∙ first-schema q one w.0, w.1, w.2, refl); kind = sym w.3 }
    holds-told-tree q b r p l M (leaf_slot j) t k w =
        not-tree q 2 w.0 (omega arith) (omega arith) (⊎_elim (λ e. inl (M.kind ∙ e)) (λ e. inr (M.kind ∙ e)) (place-kinds p))
    holds-told-tree q b r p l M next_slot t k (inl w) =
        not-tree q 2 w.0 (omega arith) (omega arith) (⊎_elim (λ e. inl (M.kind ∙ e)) (λ e. inr (M.kind ∙ e)) (place-kinds p))
    holds-told-tree q b r p l M next_slot t k (inr w) =
        ⊎_elim (λ e. not-tree q 4 e (omega arith) (omega arith) tp) (λ e. not-tree q 5 e (omega arith) (omega arith) tp) w.0
      where
        tp : TreePage d q
        tp = ⊎_elim (λ e. inl (M.kind ∙ e)) (λ e. inr (M.kind ∙ e)) (place-kinds p)

    -- of a page that is no tree page, only leaf numbers and nexts are left
    holds-rest : {A : Type 0} (q y : ℕ) → d.kind q ≡ y → 2 ≤ y → y ≤ 5 → (x : Slot) (t k : ℕ) → PointsTo f d q x t k
        → ((j : ℕ) → x ≡ leaf_slot j → PointsTo f d q (leaf_slot j) t k → A) → (x ≡ next_slot → PointsTo f d q next_slot t k → A) → A
    holds-rest q y e a b (child_slot j) t k w u v = not-tree q y e a b (holds-tree q (child_slot j) t k tt w)
    holds-rest q y e a b right_slot t k w u v = not-tree q y e a b (holds-tree q right_slot t k tt w)
    holds-rest q y e a b (chain_slot j) t k w u v = not-tree q y e a b (holds-tree q (chain_slot j) t k tt w)
    holds-rest q y e a b (root_slot j) t k w u v = not-tree q y e a b (holds-tree q (root_slot j) t k tt w)
    holds-rest q y e a b head_slot t k w u v = not-tree q y e a b (holds-tree q head_slot t k tt w)
    holds-rest q y e a b (leaf_slot j) t k w u v = u j refl w
    holds-rest q y e a b next_slot t k w u v = v refl w

    over-next : (q : ℕ) (b : Bool) (n t k : ℕ) → Match f d q (over b n) → PointsTo f d q next_slot t k → Telling q (over b n) next_slot t k
    over-next q b n t k M (inl w) = absurd (⊎_elim (λ e. omega (arith, M.kind, w.0)) (λ e. omega (arith, M.kind, w.0)) (first-kinds b))
    over-next q b zero t k M (inr w) = absurd (w.1 M.fits)
    over-next q b (suc n) t k M (inr w) = record { role = over false n; told = (n, refl, w.2, refl); kind = sym w.3 }

    trunk-next : (q n t k : ℕ) → Match f d q (trunk n) → PointsTo f d q next_slot t k → Telling q (trunk n) next_slot t k
    trunk-next q n t k M (inl w) = let e = left-of n M.fits in record { role = trunk e.0; told = (e.0, e.1, w.1, w.2, refl); kind = sym w.3 }
    trunk-next q n t k M (inr w) = absurd (⊎_elim (λ e. omega (arith, M.kind)) (λ e. omega (arith, M.kind)) w.0)

    pub holds-told : (q : ℕ) (o : Role) → Match f d q o → (x : Slot) (t k : ℕ) → PointsTo f d q x t k → Telling q o x t k
    holds-told q (tree b r p l) M x t k w = holds-told-tree q b r p l M x t k w
    holds-told q (over b n) M x t k w =
        holds-rest q (first_kind b) M.kind (⊎_elim (λ e. omega arith) (λ e. omega arith) (first-kinds b))
        (⊎_elim (λ e. omega arith) (λ e. omega arith) (first-kinds b)) x t k w
        (λ j e u. absurd (⊎_elim (λ e. omega (arith, M.kind, u.0)) (λ e. omega (arith, M.kind, u.0)) (first-kinds b)))
        (λ e u. rw e (over-next q b n t k M u))
    holds-told q (trunk n) M x t k w =
        holds-rest q 2 M.kind (omega arith) (omega arith) x t k w
        (λ j e u. rw e (record { role = spare; told = (u.1, u.2, refl); kind = sym u.3 }))
        (λ e u. rw e (trunk-next q n t k M u))
    holds-told q spare M x t k w =
        holds-rest q 3 M.kind (omega arith) (omega arith) x t k w
        (λ j e u. absurd (omega (arith, M.kind, u.0)))
        (λ e u. absurd (⊎_elim (λ v. omega (arith, M.kind, v.0)) (λ v. ⊎_elim (λ e. omega (arith, M.kind)) (λ e. omega (arith, M.kind)) v.0) u))
