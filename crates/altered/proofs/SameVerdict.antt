-- Two files that agree where a good dealing of the first looks: the verdict on both is the same, whatever roots are named, refusals included.
use mathlib.Core.Path.{◌≡◌, refl, sym, ◌∙◌, ap, ap₂, subst}
use mathlib.Core.Bool.{Bool, true, false, cond}
use mathlib.Core.Logic.{◌≢◌, inl}
use mathlib.Core.Option.{none}
use mathlib.Core.List.Memᴰ
use mathlib.Core.List.{List, [], ◌∷◌, ◌++◌, Memᴰ as Mem}
use Prim.Native.Nat.{ℕ, zero, suc, ◌+◌, ◌-◌, ◌≤◌}
use native.Mathlib.Omega.{arith}
use lib.Dec.{eqb, ltb}
use lib.ListN.{get_or, replicate, length-replicate}
use borrow.Author.Tests.{eqb-true, eqb-false}
use Rattle.dealing.specs.File.{File, Page, Nameable, index_type, root_kind}
use Rattle.dealing.specs.Good.{Dealing, Good, type_for, number_for}
use Rattle.dealing.specs.Walk.{check, in_range, kinds_to, blank, events, State, state, run, Outcome, went, refused, agrees, entry_checks}
use Rattle.dealing.specs.Walk.{largest_root, final, is_index_root, name_checks, settle, finish, first_zero, accepted, refusal, verdict_for}
use Rattle.dealing.specs.Walk.{LedgerOf}
use Rattle.dealing.specs.Spelling.{long_by, long_in}
use Rattle.dealing.proofs.Passed.{in-range}
use Rattle.dealing.proofs.Parts.{names_of, plain_of}
use Rattle.dealing.proofs.Walked.{walked}
use Rattle.dealing.proofs.Ran.{Name, says, ledgers}
use Rattle.dealing.proofs.GoodAccepted.{kind-some, blank-long, ledger-of}
use Rattle.dealing.proofs.Theorems.{long-counted}
use Rattle.altered.proofs.Same.{Same, AllNumbers, same_good}
use Rattle.altered.proofs.SameReads.{long_same}
use Rattle.altered.proofs.SameEvents.{events-same}

module _ (f f' : File) (d : Dealing) (some : 1 ≤ f.N) (S : Same f f' d) (g : Good f d) where
  -- ---- the ledgers at the beginning
  kinds-to : (n : ℕ) → kinds_to f' n ≡ kinds_to f n
  unfolding kinds_to
  kinds-to zero = refl
  kinds-to (suc n) = ap₂ (λ l x. l ++ (cond (eqb (suc n) 1) root_kind (cond (eqb x 0) 0 (6 + x)) ∷ [])) (kinds-to n) (S.fixed (suc n))

  blank-same : blank f' ≡ blank f
  blank-same = ap (λ n. state (kinds_to f' n) (replicate n 0) none 0) S.N ∙ ap (λ l. state l (replicate f.N 0) none 0) (kinds-to f.N)

  run-same : (ordered : List ℕ) → run f'.N (blank f') (events ordered f') ≡ run f.N (blank f) (events ordered f)
  run-same ordered = ap₂ (λ n s. run n s (events ordered f')) S.N blank-same ∙ ap (run f.N (blank f)) (events-same f f' d some S g ordered)

  -- ---- a walk that goes through leaves the dealing's ledgers
  name-some : (ordered : List ℕ) (x : Name) → Mem x (names_of (events ordered f)) → x.2 ≢ 0
  name-some ordered x m e =
      let w = walked ordered f in
      let r = Memᴰ.of_map plain_of w.visits (subst (Mem x) w.plain m) in
      kind-some r.0.role (ap (λ (x : Name). x.2) r.2 ∙ e)

  went-ledgers : (ordered : List ℕ) (s : State) → run f.N (blank f) (events ordered f) ≡ went s → LedgerOf f d s.kinds s.namers
  went-ledgers ordered s e =
      ledger-of ordered f some d g s.kinds s.namers
      (ledgers f.N (names_of (events ordered f)) (blank f).kinds (blank f).namers s.kinds s.namers (blank-long f some)
      (length-replicate {A = ℕ} f.N 0)
      (name-some ordered) (says f.N (events ordered f) (blank f) s e).entered)

  -- ---- 31 and 32
  agrees-same : f.vacuum ≢ 0 → (p k h : ℕ) → Page f p → agrees f' p k h ≡ agrees f p k h
  unfolding agrees
  agrees-same v p k h i = go (eqb p 1) refl
    where
      go : (b : Bool) → eqb p 1 ≡ b → agrees f' p k h ≡ agrees f p k h
      go true e = rw e refl
      go false e = rw (e, S.fixed p) (by (eqb (f.fixed p) 0) refl)
        where
          by : (b : Bool) → eqb (f.fixed p) 0 ≡ b
              → cond b (cond (eqb (f'.entry_type p) (type_for k)) (eqb (f'.entry_number p) (number_for k h)) false) true
              ≡ cond b (cond (eqb (f.entry_type p) (type_for k)) (eqb (f.entry_number p) (number_for k h)) false) true
          by true z = let l : Nameable f p = (let n = eqb-false p 1 e in omega arith, i.1, eqb-true _ _ z) in
              rw (S.entry_type v p l, S.entry_number v p l) refl
          by false z = refl

  entries-same : f.vacuum ≢ 0 → (ks ns : List ℕ) (n : ℕ) → n ≤ f.N → entry_checks f' ks ns n ≡ entry_checks f ks ns n
  unfolding entry_checks
  entries-same v ks ns zero h = refl
  entries-same v ks ns (suc n) h =
      ap₂ (λ a b. a ++ check b 31 (suc n)) (entries-same v ks ns n (omega arith))
      (agrees-same v (suc n) (get_or ks (suc n - 1) 0) (get_or ns (suc n - 1) 0) (omega arith))

  final-same : (ks ns : List ℕ) → final f' ks ns ≡ final f ks ns
  unfolding final
  final-same ks ns =
      ap₂ (λ v n. cond (eqb v 0) [] (entry_checks f' ks ns n ++ check (eqb v (largest_root ks n)) 32 1)) S.vacuum S.N
      ∙ go (eqb f.vacuum 0) refl
    where
      go : (b : Bool) → eqb f.vacuum 0 ≡ b
          → cond b [] (entry_checks f' ks ns f.N ++ check (eqb f.vacuum (largest_root ks f.N)) 32 1)
          ≡ cond b [] (entry_checks f ks ns f.N ++ check (eqb f.vacuum (largest_root ks f.N)) 32 1)
      go true e = refl
      go false e = ap (λ es. es ++ check (eqb f.vacuum (largest_root ks f.N)) 32 1) (entries-same (eqb-false _ _ e) ks ns f.N (omega arith))

  -- ---- 35
  root-same : (ks ns : List ℕ) → LedgerOf f d ks ns → (r : ℕ) → is_index_root f' ks r ≡ is_index_root f ks r
  unfolding is_index_root
  root-same ks ns L r =
      ap (λ n. cond (in_range n r) (cond (eqb (get_or ks (r - 1) 0) root_kind) (index_type (f'.type r)) false) false) S.N
      ∙ go (in_range f.N r) refl
    where
      by : Page f r → (b : Bool) → eqb (get_or ks (r - 1) 0) root_kind ≡ b → cond b (index_type (f'.type r)) false ≡ cond b (index_type (f.type r)) false
      by p true e = ap index_type (S.type r p (inl (sym (L.kinds_are r p) ∙ eqb-true _ _ e)))
      by p false e = refl

      go : (b : Bool) → in_range f.N r ≡ b → cond b (cond (eqb (get_or ks (r - 1) 0) root_kind) (index_type (f'.type r)) false) false
          ≡ cond b (cond (eqb (get_or ks (r - 1) 0) root_kind) (index_type (f.type r)) false) false
      go true e = by (in-range f.N r e) (eqb (get_or ks (r - 1) 0) root_kind) refl
      go false e = refl

  names_same : (ks ns : List ℕ) → LedgerOf f d ks ns → (rs : List ℕ) → name_checks f' ks rs ≡ name_checks f ks rs
  unfolding name_checks
  names_same ks ns L [] = refl
  names_same ks ns L (r ∷ rs) = ap₂ (λ b es. check b 35 r ++ es) (root-same ks ns L r) (names_same ks ns L rs)

  -- ---- the verdict
  finish-same : (ordered : List ℕ) (o : Outcome) → run f.N (blank f) (events ordered f) ≡ o → finish ordered f' o ≡ finish ordered f o
  unfolding finish
  finish-same ordered (refused n p) e = refl
  finish-same ordered (went s) e =
      let L = went-ledgers ordered s e in
      ap₂ (λ n es. cond (ltb (first_zero s.kinds) n) (refusal 30 (suc (first_zero s.kinds))) (settle es s.kinds s.namers)) S.N
      (ap₂ ◌++◌ (final-same s.kinds s.namers) (names_same s.kinds s.namers L ordered))

  pub verdict-same : (ordered : List ℕ) → verdict_for ordered f' ≡ verdict_for ordered f
  unfolding verdict_for
  verdict-same ordered = ap (finish ordered f') (run-same ordered) ∙ finish-same ordered (run f.N (blank f) (events ordered f)) refl

  -- where it accepts, the count is the dealing's
  pub count_is : (ordered ks ns : List ℕ) → verdict_for ordered f ≡ accepted ks ns → long_by f' ks ≡ long_in f' d
  count_is ordered ks ns e =
      let some' : 1 ≤ f'.N = omega (arith, S.N) in
      long-counted ordered f' some' ks ns (verdict-same ordered ∙ e) d (same_good f f' d some S g)

  -- and with the same numbers it is the same
  pub count_same : AllNumbers f f' d → (ordered ks ns : List ℕ) → verdict_for ordered f ≡ accepted ks ns → long_by f' ks ≡ long_by f ks
  count_same w ordered ks ns e =
      count_is ordered ks ns e ∙ long_same f f' d some S g w ∙ sym (long-counted ordered f some ks ns e d g)
