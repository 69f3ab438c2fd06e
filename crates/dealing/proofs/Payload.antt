-- The chains of a good file: followed to their ends, each page named by the one before it.
use mathlib.Core.Path.{◌≡◌, refl, ◌∙◌, ap, subst}
use mathlib.Core.Bool.{true}
use mathlib.Core.Logic.{◌≢◌, ◌⊎◌, inl, inr, ⊎_elim}
use Prim.Native.Nat.{ℕ, zero, suc, ◌-◌, ◌<◌}
use native.Mathlib.Omega.{arith}
use lib.ListN.{length}
use Rattle.dealing.specs.File.{File, Page, Nameable, is_leaf, is_table, payload, first_kind, later_kind}
use Rattle.dealing.specs.Good.{Dealing, next_slot, chain_slot, TreePage, Chain, Good, Linked, chain_pages}
use Rattle.dealing.specs.Lookup.{whole, follow, follow_cell}
use Rattle.dealing.proofs.LookupLaws.{follow-end, follow-more, follow-none, follow-some}

pub chain_length : (f : File) (n t : ℕ) → length (chain_pages f n t) ≡ n
unfolding chain_pages
chain_length f zero t = refl
chain_length f (suc n) t = ap suc (chain_length f n (f.next t))

module _ (f : File) (d : Dealing) (g : Good f d) where
  -- page t is one of a chain, named by h
  record In (h k t : ℕ) : Type 0 where
    later : Nameable f t
    kind : d.kind t ≡ k
    namer : d.namer t ≡ h

  next-in : (t k n : ℕ) → Page f t → d.kind t ≡ k → (k ≡ first_kind) ⊎ (k ≡ later_kind) → Chain f (suc n) (f.next t) → In t later_kind (f.next t)
  next-in t k n h e o c =
      let w = g.pointers t next_slot (f.next t) later_kind h (inr (⊎_elim (λ z. inl (e ∙ z)) (λ z. inr (e ∙ z)) o, c.0, refl, refl)) in
      record { later = w.0; kind = w.1; namer = w.2 }

  linked : (n h k t : ℕ) → (k ≡ first_kind) ⊎ (k ≡ later_kind) → Chain f n t → (n ≢ 0 → In h k t) → Linked f d h k (chain_pages f n t) × (follow f h n t ≡ whole)
  unfolding chain_pages
  linked zero h k t o c i = (tt, follow-end f h 0 t refl c)
  linked (suc n) h k t o c i =
      let x = i (λ z. omega arith) in
      let l : Nameable f t = x.later in
      let r = linked n t later_kind (f.next t) (inr refl) c.1 (more n c.1) in
      let z : suc n - 1 ≡ n = omega arith in
      let e : follow f h (suc n) t ≡ follow f t n (f.next t) =
      follow-more f h (suc n) t (λ z. omega arith) c.0 l.1 ∙ ap (λ m. follow f t m (f.next t)) z in
      ((x.later, x.kind, x.namer, r.0), e ∙ r.1)
    where
      more : (n : ℕ) → Chain f n (f.next t) → n ≢ 0 → In t later_kind (f.next t)
      more zero c z = absurd (z refl)
      more (suc n) c z = let x = i (λ z. omega arith) in let l : Nameable f t = x.later in next-in t k n (omega arith) x.kind o c

  module _ (q j : ℕ) (page : Page f q) (tree : TreePage d q) (has : payload (is_leaf f q) (is_table f q) ≡ true) (cell : j < f.count q) where
    chained : (n : ℕ) → (f.cell q j).links ≡ n → Linked f d q first_kind (chain_pages f n (f.cell q j).first) × (follow_cell f q n (f.cell q j).first ≡ whole)
    chained zero e = unfold chain_pages in (tt, follow-none f q 0 (f.cell q j).first refl)
    chained (suc n) e =
        let c = g.rule_27 q j page tree has cell (omega arith) in
        let p = g.pointers q (chain_slot j) (f.cell q j).first first_kind page (tree, has, cell, omega arith, refl, refl) in
        let r =
        linked (suc n) q first_kind (f.cell q j).first (inl refl) (subst (λ n. Chain f n (f.cell q j).first) e c)
        (λ z. record { later = p.0; kind = p.1; namer = p.2 }) in
        (r.0, follow-some f q (suc n) (f.cell q j).first (λ z. omega arith) ∙ r.1)

    pub cell-linked : Linked f d q first_kind (chain_pages f (f.cell q j).links (f.cell q j).first)
    cell-linked = (chained (f.cell q j).links refl).0

    pub cell-followed : follow_cell f q (f.cell q j).links (f.cell q j).first ≡ whole
    cell-followed = (chained (f.cell q j).links refl).1
