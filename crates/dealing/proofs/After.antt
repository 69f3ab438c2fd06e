-- The checks after 30, and the rules that they are.
use mathlib.Core.Path.{◌≡◌, refl, sym, ◌∙◌, ap, subst}
use mathlib.Core.Bool.{Bool, true, false, cond}
use mathlib.Core.Logic.{◌≢◌}
use mathlib.Core.List.{List, [], ◌∷◌, ◌++◌, append_assoc}
use Prim.Native.Nat.{ℕ, zero, suc, ◌-◌, ◌≤◌, ◌<◌}
use native.Mathlib.Omega.{arith}
use native.Mathlib.Decide.{ℕ_discrete}
use lib.Dec.{eqb}
use lib.ListN.{get_or}
use borrow.Author.Tests.{eq-eqb, ne_eqb, eqb-true}
use Rattle.dealing.specs.File.{File, Page, Nameable, root_kind}
use Rattle.dealing.specs.Good.{Dealing, After, type_for, number_for}
use Rattle.dealing.specs.Walk.{Event, start, name, fail, row, key, leaf, entry, check, agrees, entry_check, entry_checks, largest_root, final}
use Rattle.dealing.specs.Walk.{settle, accepted, refusal, LedgerOf}
use Rattle.dealing.proofs.Parts.{Clean, clean-split, clean-join}

pub settle-clean : (es : List Event) (ks ns : List ℕ) → Clean es → settle es ks ns ≡ accepted ks ns
unfolding settle
settle-clean [] ks ns c = refl
settle-clean (start ∷ es) ks ns c = settle-clean es ks ns c
settle-clean (name h t k ∷ es) ks ns c = settle-clean es ks ns c
settle-clean (fail n p ∷ es) ks ns c = absurd c
settle-clean (row p r ∷ es) ks ns c = settle-clean es ks ns c
settle-clean (key p k ∷ es) ks ns c = settle-clean es ks ns c
settle-clean (leaf p l ∷ es) ks ns c = settle-clean es ks ns c
settle-clean (entry p v ∷ es) ks ns c = settle-clean es ks ns c

pub clean-settle : (es : List Event) (ks ns ks' ns' : List ℕ) → settle es ks ns ≡ accepted ks' ns' → Clean es × (ks ≡ ks') × (ns ≡ ns')
unfolding settle
clean-settle [] ks ns ks' ns' e = (tt, cc, cc)
clean-settle (start ∷ es) ks ns ks' ns' e = clean-settle es ks ns ks' ns' e
clean-settle (name h t k ∷ es) ks ns ks' ns' e = clean-settle es ks ns ks' ns' e
clean-settle (fail n p ∷ es) ks ns ks' ns' e = absurd (let z : ◌≡◌ {A = ℕ} 0 1 = cc in omega arith)
clean-settle (row p r ∷ es) ks ns ks' ns' e = clean-settle es ks ns ks' ns' e
clean-settle (key p k ∷ es) ks ns ks' ns' e = clean-settle es ks ns ks' ns' e
clean-settle (leaf p l ∷ es) ks ns ks' ns' e = clean-settle es ks ns ks' ns' e
clean-settle (entry p v ∷ es) ks ns ks' ns' e = clean-settle es ks ns ks' ns' e

pub clean-check : (b : Bool) (n p : ℕ) → b ≡ true → Clean (check b n p)
clean-check true n p e = tt
clean-check false n p e = absurd (let z : ◌≡◌ {A = ℕ} 0 1 = cc in omega arith)

pub check-clean : (b : Bool) (n p : ℕ) → Clean (check b n p) → b ≡ true
check-clean true n p c = refl
check-clean false n p c = absurd c

both : (a b : Bool) → cond a b false ≡ true → (a ≡ true) × (b ≡ true)
both true true e = (refl, refl)
both true false e = absurd (let z : ◌≡◌ {A = ℕ} 0 1 = cc in omega arith)
both false b e = absurd (let z : ◌≡◌ {A = ℕ} 0 1 = cc in omega arith)

module _ (f : File) (d : Dealing) (ks ns : List ℕ) (L : LedgerOf f d ks ns) where
  abbrev Entry : ℕ → Type 0
  Entry p = (f.entry_type p ≡ type_for (d.kind p)) × (f.entry_number p ≡ number_for (d.kind p) (d.namer p))

  one_in : (p : ℕ) → Page f p → (Nameable f p → Entry p) → Clean (entry_check f ks ns p)
  unfolding agrees
  one_in p h w = clean-check _ 31 p (go (ℕ_discrete p 1) (ℕ_discrete (f.fixed p) 0))
    where
      go : Dec (p ≡ 1) → Dec (f.fixed p ≡ 0) → agrees f p (get_or ks (p - 1) 0) (get_or ns (p - 1) 0) ≡ true
      go (yes e) z = rw (eq-eqb p 1 e) refl
      go (no n) (no z) = rw (ne_eqb p 1 n, ne_eqb (f.fixed p) 0 z) refl
      go (no n) (yes z) =
          let x = w (omega arith) in
          rw (ne_eqb p 1 n, eq-eqb (f.fixed p) 0 z, L.kinds_are p h, L.namers_are p h, eq-eqb (f.entry_type p) (type_for (d.kind p)) x.0)
          (eq-eqb (f.entry_number p) (number_for (d.kind p) (d.namer p)) x.1)

  agreeing : (p k h : ℕ) → Nameable f p → agrees f p k h ≡ true → (f.entry_type p ≡ type_for k) × (f.entry_number p ≡ number_for k h)
  unfolding agrees
  agreeing p k h l e =
      let q : agrees f p k h ≡ cond (eqb (f.entry_type p) (type_for k)) (eqb (f.entry_number p) (number_for k h)) false =
      rw (ne_eqb p 1 (λ e. omega (arith, l.0)), eq-eqb (f.fixed p) 0 l.2) refl in
      let w = both (eqb (f.entry_type p) (type_for k)) (eqb (f.entry_number p) (number_for k h)) (sym q ∙ e) in
      (eqb-true (f.entry_type p) (type_for k) w.0, eqb-true (f.entry_number p) (number_for k h) w.1)

  one_out : (p : ℕ) → Nameable f p → Clean (entry_check f ks ns p) → Entry p
  one_out p l c =
      let h : Page f p = omega arith in
      let w = agreeing p (get_or ks (p - 1) 0) (get_or ns (p - 1) 0) l (check-clean _ 31 p c) in (
        w.0 ∙ ap type_for (L.kinds_are p h),
        w.1 ∙ ap (λ k. number_for k (get_or ns (p - 1) 0)) (L.kinds_are p h)
            ∙ ap (number_for (d.kind p)) (L.namers_are p h),
      )

  all_in : (n : ℕ) → n ≤ f.N → ((p : ℕ) → Nameable f p → Entry p) → Clean (entry_checks f ks ns n)
  unfolding entry_checks
  all_in zero h w = tt
  all_in (suc n) h w = clean-join (entry_checks f ks ns n) (entry_check f ks ns (suc n)) (all_in n (omega arith) w) (one_in (suc n) (omega arith) (w (suc n)))

  all-out : (n : ℕ) → Clean (entry_checks f ks ns n) → (p : ℕ) → Nameable f p → p ≤ n → Entry p
  unfolding entry_checks
  all-out zero c p l h = absurd (omega (arith, l.0))
  all-out (suc n) c p l h = go (all-out n) (ℕ_discrete p (suc n))
    where
      s : Clean (entry_checks f ks ns n) × Clean (entry_check f ks ns (suc n))
      s = clean-split (entry_checks f ks ns n) (entry_check f ks ns (suc n)) c

      go : (Clean (entry_checks f ks ns n) → (p : ℕ) → Nameable f p → p ≤ n → Entry p) → Dec (p ≡ suc n) → Entry p
      go ih (yes e) = one_out p l (subst (λ p. Clean (entry_check f ks ns p)) (sym e) s.1)
      go ih (no k) = ih s.0 p l (omega arith)

  -- the largest root
  record Largest (n r : ℕ) : Type 0 where
    within : r ≤ n
    root : 1 ≤ r → d.kind r ≡ root_kind
    most : (q : ℕ) → 1 ≤ q → q ≤ n → d.kind q ≡ root_kind → q ≤ r

  largest : (n : ℕ) → n ≤ f.N → Largest n (largest_root ks n)
  unfolding largest_root
  largest zero h = record { within = omega arith; root = λ a. absurd (omega arith); most = λ q a b e. omega arith }
  largest (suc n) h = go (largest n (omega arith)) (ℕ_discrete (get_or ks n 0) root_kind)
    where
      is : get_or ks n 0 ≡ d.kind (suc n)
      is = let z : n ≡ suc n - 1 = omega arith in ap (λ i. get_or ks i 0) z ∙ L.kinds_are (suc n) (omega arith)

      go : Largest n (largest_root ks n) → Dec (get_or ks n 0 ≡ root_kind) → Largest (suc n) (cond (eqb (get_or ks n 0) root_kind) (suc n) (largest_root ks n))
      go w (yes e) = rw (eq-eqb (get_or ks n 0) root_kind e) (record { within = omega arith; root = λ a. sym is ∙ e; most = λ q a b k. omega arith })
      go w (no m) =
          rw (ne_eqb (get_or ks n 0) root_kind m)
          (record { within = omega (arith, w.within); root = w.root; most = λ q a b k. w.most q a (below q a b k (ℕ_discrete q (suc n))) k })
        where
          below : (q : ℕ) → 1 ≤ q → q ≤ suc n → d.kind q ≡ root_kind → Dec (q ≡ suc n) → q ≤ n
          below q a b k (yes e) = absurd (m (is ∙ ap d.kind (sym e) ∙ k))
          below q a b k (no e) = omega arith

  pub final-clean : After f d → Clean (final f ks ns)
  unfolding final
  final-clean A = go (ℕ_discrete f.vacuum 0)
    where
      go : Dec (f.vacuum ≡ 0) → Clean (cond (eqb f.vacuum 0) [] (entry_checks f ks ns f.N ++ check (eqb f.vacuum (largest_root ks f.N)) 32 1))
      go (yes e) = rw (eq-eqb f.vacuum 0 e) tt
      go (no n) =
          let w = largest f.N (omega arith) in
          let r = A.rule_32_root n in
          let a : f.vacuum ≤ largest_root ks f.N = w.most f.vacuum r.0.0 r.0.1 r.1 in
          let b : 1 ≤ largest_root ks f.N = omega (arith, r.0.0) in
          let c = A.rule_32_most n (largest_root ks f.N) (b, w.within) (w.root b) in
          rw (ne_eqb f.vacuum 0 n)
          (clean-join (entry_checks f ks ns f.N) (check (eqb f.vacuum (largest_root ks f.N)) 32 1) (all_in f.N (omega arith) (A.rule_31 n))
          (clean-check (eqb f.vacuum (largest_root ks f.N)) 32 1 (eq-eqb f.vacuum (largest_root ks f.N) (omega arith))))

  pub clean-final : Clean (final f ks ns) → After f d
  unfolding final
  clean-final c =
      record {
        rule_31 = λ n p l. all-out f.N (parts n).0 p l l.1;
        rule_32_root = λ n. let w = largest f.N (omega arith) in let e = (parts n).1 in let b : 1 ≤ largest_root ks f.N = omega arith in
            (omega (arith, w.within), ap d.kind e ∙ w.root b);
        rule_32_most = λ n r h k. let w = largest f.N (omega arith) in omega (arith, (parts n).1, w.most r h.0 h.1 k);
      }
    where
      parts : f.vacuum ≢ 0 → Clean (entry_checks f ks ns f.N) × (f.vacuum ≡ largest_root ks f.N)
      parts n =
          let c' : Clean (entry_checks f ks ns f.N ++ check (eqb f.vacuum (largest_root ks f.N)) 32 1) =
          subst (λ b. Clean (cond b [] (entry_checks f ks ns f.N ++ check (eqb f.vacuum (largest_root ks f.N)) 32 1))) (ne_eqb f.vacuum 0 n) c in
          let s = clean-split (entry_checks f ks ns f.N) (check (eqb f.vacuum (largest_root ks f.N)) 32 1) c' in
          (s.0, eqb-true f.vacuum (largest_root ks f.N) (check-clean (eqb f.vacuum (largest_root ks f.N)) 32 1 s.1))

-- the checks one after the other, as a loop makes them
pub settle-past : (a b : List Event) (ks ns : List ℕ) → Clean a → settle (a ++ b) ks ns ≡ settle b ks ns
unfolding settle
settle-past [] b ks ns c = refl
settle-past (start ∷ a) b ks ns c = settle-past a b ks ns c
settle-past (name h t k ∷ a) b ks ns c = settle-past a b ks ns c
settle-past (fail n p ∷ a) b ks ns c = absurd c
settle-past (row p r ∷ a) b ks ns c = settle-past a b ks ns c
settle-past (key p k ∷ a) b ks ns c = settle-past a b ks ns c
settle-past (leaf p l ∷ a) b ks ns c = settle-past a b ks ns c
settle-past (entry p v ∷ a) b ks ns c = settle-past a b ks ns c

module _ (f : File) (ks ns : List ℕ) where
  pub checks-none : Clean (entry_checks f ks ns 0)
  unfolding entry_checks
  checks-none = tt

  at-page : (i : ℕ) {x : Bool} → agrees f (suc i) (get_or ks i 0) (get_or ns i 0) ≡ x → entry_check f ks ns (suc i) ≡ check x 31 (suc i)
  at-page i {x} e =
      let z : suc i - 1 ≡ i = omega arith in
      ap (λ j. check (agrees f (suc i) (get_or ks j 0) (get_or ns j 0)) 31 (suc i)) z ∙ ap (λ x. check x 31 (suc i)) e

  pub checks-more : (i : ℕ) → Clean (entry_checks f ks ns i) → agrees f (suc i) (get_or ks i 0) (get_or ns i 0) ≡ true → Clean (entry_checks f ks ns (suc i))
  unfolding entry_checks
  checks-more i c e = clean-join (entry_checks f ks ns i) (entry_check f ks ns (suc i)) c (subst Clean (sym (at-page i e)) tt)

  stops : (i n : ℕ) → i < n → Clean (entry_checks f ks ns i) → agrees f (suc i) (get_or ks i 0) (get_or ns i 0) ≡ false
      → (rest : List Event) → settle (entry_checks f ks ns n ++ rest) ks ns ≡ refusal 31 (suc i)
  unfolding entry_checks settle
  stops i zero l c e rest = absurd (omega arith)
  stops i (suc m) l c e rest =
      ap (λ es. settle es ks ns) (append_assoc (entry_checks f ks ns m) (entry_check f ks ns (suc m)) rest) ∙ go (stops i m) (ℕ_discrete i m)
    where
      go : (i < m → Clean (entry_checks f ks ns i) → agrees f (suc i) (get_or ks i 0) (get_or ns i 0) ≡ false → (rest : List Event)
          → settle (entry_checks f ks ns m ++ rest) ks ns ≡ refusal 31 (suc i))
          → Dec (i ≡ m) → settle (entry_checks f ks ns m ++ (entry_check f ks ns (suc m) ++ rest)) ks ns ≡ refusal 31 (suc i)
      go ih (no n) = ih (omega arith) c e (entry_check f ks ns (suc m) ++ rest)
      go ih (yes k) =
          subst (λ m. settle (entry_checks f ks ns m ++ (entry_check f ks ns (suc m) ++ rest)) ks ns ≡ refusal 31 (suc i)) k
          (settle-past (entry_checks f ks ns i) (entry_check f ks ns (suc i) ++ rest) ks ns c ∙ ap (λ es. settle (es ++ rest) ks ns) (at-page i e))

  pub settle-unmapped : f.vacuum ≡ 0 → settle (final f ks ns) ks ns ≡ accepted ks ns
  unfolding final settle
  settle-unmapped v = rw (eq-eqb f.vacuum 0 v) refl

  module _ (v : f.vacuum ≢ 0) where
    opened : final f ks ns ≡ entry_checks f ks ns f.N ++ check (eqb f.vacuum (largest_root ks f.N)) 32 1
    unfolding final
    opened = rw (ne_eqb f.vacuum 0 v) refl

    pub settle-31 : (i : ℕ) → i < f.N → Clean (entry_checks f ks ns i) → agrees f (suc i) (get_or ks i 0) (get_or ns i 0) ≡ false
        → settle (final f ks ns) ks ns ≡ refusal 31 (suc i)
    settle-31 i l c e = ap (λ es. settle es ks ns) opened ∙ stops i f.N l c e (check (eqb f.vacuum (largest_root ks f.N)) 32 1)

    module _ (c : Clean (entry_checks f ks ns f.N)) where
      last : settle (final f ks ns) ks ns ≡ settle (check (eqb f.vacuum (largest_root ks f.N)) 32 1) ks ns
      last = ap (λ es. settle es ks ns) opened ∙ settle-past (entry_checks f ks ns f.N) (check (eqb f.vacuum (largest_root ks f.N)) 32 1) ks ns c

      pub settle-32 : f.vacuum ≢ largest_root ks f.N → settle (final f ks ns) ks ns ≡ refusal 32 1
      unfolding settle
      settle-32 n = last ∙ rw (ne_eqb f.vacuum (largest_root ks f.N) n) refl

      pub settle-mapped : f.vacuum ≡ largest_root ks f.N → settle (final f ks ns) ks ns ≡ accepted ks ns
      unfolding settle
      settle-mapped e = last ∙ rw (eq-eqb f.vacuum (largest_root ks f.N) e) refl
