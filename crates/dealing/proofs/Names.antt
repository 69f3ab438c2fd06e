-- The roots that the caller names: found among the names, and the checks after 32 (35).
use mathlib.Core.Path.{◌≡◌, refl, sym, ◌∙◌, subst}
use mathlib.Core.Bool.{Bool, true, false, cond}
use mathlib.Core.List.{List, [], ◌∷◌}
use mathlib.Core.List.Memᴰ.{head as here}
use mathlib.Core.List.Memᴰ.{tail as there}
use mathlib.Core.List.{Memᴰ as Mem}
use Prim.Native.Nat.{ℕ, ◌-◌}
use native.Mathlib.Omega.{arith}
use native.Mathlib.Decide.{ℕ_discrete}
use lib.Dec.{eqb}
use lib.ListN.{get_or}
use borrow.Author.Tests.{eq-eqb, ne_eqb, eqb-true}
use Rattle.dealing.specs.File.{File, Page, table_type, index_type, root_kind}
use Rattle.dealing.specs.Good.{Dealing}
use Rattle.dealing.specs.Walk.{check, in_range, is_named, is_index_root, name_checks, LedgerOf}
use Rattle.dealing.proofs.Parts.{Clean, clean-split, clean-join}
use Rattle.dealing.proofs.After.{clean-check, check-clean}
use Rattle.dealing.proofs.Passed.{in-range, range-in}

pub named-mem : (l : List ℕ) (r : ℕ) → is_named l r ≡ true → Mem r l
unfolding is_named
named-mem [] r e = absurd (let z : ◌≡◌ {A = ℕ} 0 1 = cc in omega arith)
named-mem (x ∷ l) r e = go (named-mem l r) (ℕ_discrete x r)
  where
    go : (is_named l r ≡ true → Mem r l) → Dec (x ≡ r) → Mem r (x ∷ l)
    go ih (yes k) = here (sym k)
    go ih (no n) = there (ih (subst (λ b. cond b true (is_named l r) ≡ true) (ne_eqb x r n) e))

pub mem-named : (l : List ℕ) (r : ℕ) → Mem r l → is_named l r ≡ true
unfolding is_named
mem-named (x ∷ l) r (here e) = rw (eq-eqb x r (sym e))
mem-named (x ∷ l) r (there m) = rw (mem-named l r m) (both (eqb x r))
  where
    both : (b : Bool) → cond b true true ≡ true
    both true = refl
    both false = refl
mem-named [] r x' = elim x' [ ]

-- the schema's root is no index root
pub table-not-index : (t : ℕ) → table_type t ≡ true → index_type t ≡ true → ⊥
table-not-index t a b = go (ℕ_discrete t 5) (ℕ_discrete t 13)
  where
    wrong : false ≡ true → ⊥
    wrong e = let z : ◌≡◌ {A = ℕ} 0 1 = cc in omega arith

    index : (t ≡ 5) → index_type t ≡ false
    index e = rw e

    index' : (t ≡ 13) → index_type t ≡ false
    index' e = rw e

    go : Dec (t ≡ 5) → Dec (t ≡ 13) → ⊥
    go (yes e) k = wrong (sym (index e) ∙ b)
    go (no n) (yes e) = wrong (sym (index' e) ∙ b)
    go (no n) (no m) = wrong (sym (rw (ne_eqb t 5 n, ne_eqb t 13 m) refl) ∙ a)

module _ (f : File) (d : Dealing) (ks ns : List ℕ) (L : LedgerOf f d ks ns) where
  abbrev pub IndexRoot : ℕ → Type 0
  IndexRoot r = Page f r × (d.kind r ≡ root_kind) × (index_type (f.type r) ≡ true)

  root_is : (r : ℕ) → IndexRoot r → is_index_root f ks r ≡ true
  unfolding is_index_root
  root_is r h = rw (range-in f.N r h.0.0 h.0.1, L.kinds_are r h.0, h.1, h.2)

  is-root : (r : ℕ) → is_index_root f ks r ≡ true → IndexRoot r
  unfolding is_index_root
  is-root r e = ranged (in_range f.N r) refl e
    where
      wrong : {A : Type 0} → false ≡ true → A
      wrong e = absurd (let z : ◌≡◌ {A = ℕ} 0 1 = cc in omega arith)

      kinded : Page f r → (b : Bool) → eqb (get_or ks (r - 1) 0) root_kind ≡ b → cond b (index_type (f.type r)) false ≡ true → IndexRoot r
      kinded h true k e = (h, sym (L.kinds_are r h) ∙ eqb-true (get_or ks (r - 1) 0) root_kind k, e)
      kinded h false k e = wrong e

      ranged : (b : Bool) → in_range f.N r ≡ b → cond b (cond (eqb (get_or ks (r - 1) 0) root_kind) (index_type (f.type r)) false) false ≡ true → IndexRoot r
      ranged true k e = kinded (in-range f.N r k) (eqb (get_or ks (r - 1) 0) root_kind) refl e
      ranged false k e = wrong e

  pub names-clean : (ordered : List ℕ) → ((r : ℕ) → Mem r ordered → IndexRoot r) → Clean (name_checks f ks ordered)
  unfolding name_checks
  names-clean [] h = tt
  names-clean (r ∷ rs) h =
      clean-join (check (is_index_root f ks r) 35 r) (name_checks f ks rs) (clean-check (is_index_root f ks r) 35 r (root_is r (h r (here refl))))
      (names-clean rs (λ q m. h q (there m)))

  pub clean-names : (ordered : List ℕ) → Clean (name_checks f ks ordered) → (r : ℕ) → Mem r ordered → IndexRoot r
  unfolding name_checks
  clean-names (x ∷ rs) c r (here e) =
      subst IndexRoot (sym e) (is-root x (check-clean (is_index_root f ks x) 35 x (clean-split (check (is_index_root f ks x) 35 x) (name_checks f ks rs) c).0))
  clean-names (x ∷ rs) c r (there m) = clean-names rs (clean-split (check (is_index_root f ks x) 35 x) (name_checks f ks rs) c).1 r m
  clean-names [] c r x'' = elim x'' [ ]
