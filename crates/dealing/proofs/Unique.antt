-- Theorem 2: two good dealings of one file agree.
use mathlib.Core.Path.{◌≡◌, sym, ◌∙◌, ap, subst}
use mathlib.Core.Logic.{◌≢◌, ◌⊎◌, inl, inr, ⊎_elim}
use Prim.Native.Nat.{ℕ, zero, suc, ◌+◌, ◌≤◌, ◌<◌}
use native.Mathlib.Omega.{arith}
use native.Mathlib.Decide.{ℕ_discrete}
use Rattle.dealing.specs.File.{File, Page, Nameable, Fixed}
use Rattle.dealing.proofs.Steps.{step-below}
use Rattle.dealing.specs.Good.{Dealing, Slot, child_slot, right_slot, chain_slot, root_slot, head_slot, leaf_slot, next_slot, TreePage, InTree, PointsTo, Good}

-- the slot that names a page stands on its namer
pub record Naming (f : File) (d : Dealing) (p : ℕ) : Type 0 where
  pub slot : Slot
  pub page : Page f (d.namer p)
  pub holds : PointsTo f d (d.namer p) slot p (d.kind p)

module _ (f : File) (d : Dealing) (g : Good f d) where
  pub first-or : (p : ℕ) → Page f p → (p ≡ 1) ⊎ (Fixed f p ⊎ Nameable f p)
  first-or p h = go (ℕ_discrete p 1) (ℕ_discrete (f.fixed p) 0)
    where
      go : Dec (p ≡ 1) → Dec (f.fixed p ≡ 0) → (p ≡ 1) ⊎ (Fixed f p ⊎ Nameable f p)
      go (yes e) z = inl e
      go (no n) (yes z) = inr (inr (omega arith))
      go (no n) (no z) = inr (inl (omega arith, omega arith, z))

  -- a page with a kind by its place holds no pointer
  pub fixed-none : {A : Type 0} (q : ℕ) → Fixed f q → (s : Slot) (t k : ℕ) → PointsTo f d q s t k → A
  fixed-none q x s t k w = absurd (none s w)
    where
      n : f.fixed q ≢ 0
      n = x.2

      kind : d.kind q ≡ 6 + f.fixed q
      kind = (g.placed q x).0

      tree : TreePage d q → ⊥
      tree (inl e) = omega (arith, kind)
      tree (inr e) = n (omega (arith, kind))

      in_tree : (l : ℕ) → InTree f d 1 l q → ⊥
      in_tree zero i = i
      in_tree (suc zero) i = omega (arith, x.0)
      in_tree (suc (suc l)) i = n (omega (arith, kind, i.1))

      none : (s : Slot) → PointsTo f d q s t k → ⊥
      none (child_slot j) w = tree w.0
      none right_slot w = tree w.0
      none (chain_slot j) w = tree w.0
      none (root_slot j) w = in_tree w.0.0.0 w.0.0.1
      none head_slot w = omega (arith, x.0, w.0)
      none (leaf_slot j) w = omega (arith, kind, w.0)
      none next_slot (inl w) = omega (arith, kind, w.0)
      none next_slot (inr w) = ⊎_elim (λ e. omega (arith, kind)) (λ e. omega (arith, kind)) w.0

  pub named_by : (p : ℕ) → Nameable f p → Naming f d p
  named_by p l =
      let r = g.named p l in
      let n = r.2 in
      let w = g.pointers r.0 r.1 p n.1.0 n.0 n.1.1 in
      record {
        slot = r.1;
        page = subst (Page f) (sym w.2) n.0;
        holds = subst (λ q. PointsTo f d q r.1 p (d.kind p)) (sym w.2) (subst (PointsTo f d r.0 r.1 p) (sym w.1) n.1.1);
      }

  pub step-0 : (p : ℕ) → Page f p → d.step p ≡ 0 → (p ≡ 1) ⊎ Fixed f p
  step-0 p h e = ⊎_elim (λ x. inl x) (λ x. ⊎_elim (λ y. inr y) (λ l. absurd (omega (arith, g.steps p l))) x) (first-or p h)

  pub later_of : (p : ℕ) → Page f p → 0 < d.step p → Nameable f p
  later_of p h e =
      ⊎_elim (λ x. absurd (omega (arith, ap d.step x, g.step_1))) (λ x. ⊎_elim (λ y. absurd (omega (arith, (g.placed p y).2))) (λ l. l) x)
      (first-or p h)

  pub deep : (p : ℕ) → Page f p → d.step p < f.N
  deep p h =
      step-below d.step f.N
      (λ p s a b e. let l = later_of p (a, b) (omega arith) in let n = (named_by p l).page in (d.namer p, n.0, n.1, omega (arith, g.steps p l)))
      p h.0 h.1

pub record Same (d d' : Dealing) (p : ℕ) : Type 0 where
  pub kind : d.kind p ≡ d'.kind p
  pub namer : d.namer p ≡ d'.namer p
  pub step : d.step p ≡ d'.step p

module _ (f : File) (d d' : Dealing) (g : Good f d) (g' : Good f d') where
  module _ (s : ℕ) (ih : (p : ℕ) → Page f p → d.step p ≤ s → Same d d' p) where
    move-tree : (n r q : ℕ) → Page f q → d.step q ≤ s → InTree f d r n q → InTree f d' r n q
    move-tree zero r q h b t = t
    move-tree (suc zero) r q h b t = t
    move-tree (suc (suc n)) r q h b t =
        let w = ih q h b in (
          t.0,
          sym w.kind ∙ t.1,
          subst (InTree f d' r (suc n)) w.namer
              (move-tree (suc n) r (d.namer q) (named_by f d g q t.0).page (omega (arith, g.steps q t.0)) t.2),
        )

    move-tree-page : (q : ℕ) → Page f q → d.step q ≤ s → TreePage d q → TreePage d' q
    move-tree-page q h b (inl e) = inl (sym (ih q h b).kind ∙ e)
    move-tree-page q h b (inr e) = inr (sym (ih q h b).kind ∙ e)

    move : (q : ℕ) (x : Slot) (t k : ℕ) → Page f q → d.step q ≤ s → PointsTo f d q x t k → PointsTo f d' q x t k
    move q (child_slot j) t k h b w = (move-tree-page q h b w.0, w.1, w.2, w.3, w.4)
    move q right_slot t k h b w = (move-tree-page q h b w.0, w.1, w.2, w.3)
    move q (chain_slot j) t k h b w = (move-tree-page q h b w.0, w.1, w.2, w.3, w.4, w.5)
    move q (root_slot j) t k h b w = let l = w.0 in (((l.0.0, move-tree l.0.0 1 q h b l.0.1), l.1, l.2), w.1, w.2, w.3)
    move q head_slot t k h b w = w
    move q (leaf_slot j) t k h b w = (sym (ih q h b).kind ∙ w.0, w.1, w.2, w.3)
    move q next_slot t k h b (inl w) = inl (sym (ih q h b).kind ∙ w.0, w.1, w.2, w.3)
    move q next_slot t k h b (inr w) = inr (⊎_elim (λ e. inl (sym (ih q h b).kind ∙ e)) (λ e. inr (sym (ih q h b).kind ∙ e)) w.0, w.1, w.2, w.3)

  same_first : (p : ℕ) → (p ≡ 1) ⊎ Fixed f p → Same d d' p
  same_first p (inl e) = rw e (record { kind = g.kind_1 ∙ sym g'.kind_1; namer = g.namer_1 ∙ sym g'.namer_1; step = g.step_1 ∙ sym g'.step_1 })
  same_first p (inr x) = let a = g.placed p x in let b = g'.placed p x in
      record { kind = a.0 ∙ sym b.0; namer = a.1 ∙ sym b.1; step = a.2 ∙ sym b.2 }

  same-to : (s p : ℕ) → Page f p → d.step p ≤ s → Same d d' p
  same-to zero p h b = same_first p (step-0 f d g p h (omega arith))
  same-to (suc s) p h b = go (same-to s) (first-or f d g p h)
    where
      go : ((p : ℕ) → Page f p → d.step p ≤ s → Same d d' p) → (p ≡ 1) ⊎ (Fixed f p ⊎ Nameable f p) → Same d d' p
      go ih (inl e) = same_first p (inl e)
      go ih (inr (inl x)) = same_first p (inr x)
      go ih (inr (inr l)) =
          let n = named_by f d g p l in
          let q : ℕ = d.namer p in
          let e : d.step p ≡ suc (d.step q) = g.steps p l in
          let r = g'.pointers q n.slot p (d.kind p) n.page (move s ih q n.slot p (d.kind p) n.page (omega arith) n.holds) in
          record {
            kind = sym r.1;
            namer = sym r.2;
            step = e ∙ ap suc (ih q n.page (omega arith)).step ∙ sym (g'.steps p l ∙ ap (λ x. suc (d'.step x)) r.2);
          }

  pub unique : (p : ℕ) → Page f p → Same d d' p
  unique p h = same-to (d.step p) p h (omega arith)
