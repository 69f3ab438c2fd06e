-- From an accepted verdict: the visits are distinct pages of 2..N, all of them, and the ledgers are theirs.
use mathlib.Core.Path.{◌≡◌, refl, sym, ◌∙◌, ap, subst}
use mathlib.Core.Bool.{true}
use mathlib.Core.Logic.{◌≢◌, inl}
use mathlib.Core.Option.{none}
use mathlib.Core.List.Memᴰ
use mathlib.Core.List.{List}
use mathlib.Core.List.Memᴰ.{head as here}
use mathlib.Core.List.Memᴰ.{tail as there}
use mathlib.Core.List.{Memᴰ as Mem}
use Prim.Native.Nat.{ℕ, zero, suc, ◌-◌, ◌≤◌}
use native.Mathlib.Omega.{arith}
use native.Mathlib.Decide.{ℕ_discrete}
use lib.ListN.{length, get_or, length-replicate}
use Rattle.dealing.specs.File.{File, Page, Nameable, Fixed, table_type, index_type, schema_root, suits, root_kind}
use Rattle.dealing.specs.Good.{Dealing, place_of, reading, Ordered, Good, GoodFor}
use Rattle.dealing.specs.Walk.{events, blank, verdict_for, accepted, final, name_checks, is_named, LedgerOf}
use Rattle.dealing.proofs.Lists.{Once, once-of-map}
use Rattle.dealing.proofs.Sums.{count, count-has, count-in}
use Rattle.dealing.proofs.Rich.{Visit, first}
use Rattle.dealing.proofs.Parts.{names_of, Clean, clean-split, plain_of, AsksOf}
use Rattle.dealing.proofs.Walked.{Walked, walked}
use Rattle.dealing.proofs.Ran.{Name, Through, says, Ledgers, ledgers, first-full, Accepted, accepted-ran}
use Rattle.dealing.proofs.Unique.{unique}
use Rattle.dealing.proofs.Reach.{page_of}
use Rattle.dealing.proofs.Tests.{trees_of, orders-trees, orders-named, evens-trees}
use Rattle.dealing.proofs.GoodAccepted.{kind-some, blank-long, blank-first, blank-later, blank-namer, blank-fixed}
use Rattle.dealing.proofs.After.{clean-final}
use Rattle.dealing.proofs.Names.{IndexRoot, clean-names, mem-named, table-not-index}
use Rattle.dealing.proofs.AcceptedGood.{dealt, dealt-good, is-tree, kind_is, namer-is, good_placed}

module _ (ordered : List ℕ) (f : File) (some : 1 ≤ f.N) (ks ns : List ℕ) (acc : verdict_for ordered f ≡ accepted ks ns) where
  abbrev W : Walked ordered f
  W = walked ordered f

  ran : Accepted ordered f ks ns
  ran = accepted-ran ordered f ks ns acc

  through : Through f.N (blank f) (events ordered f) ran.last
  through = says f.N (events ordered f) (blank f) ran.last ran.went-through

  name-some : (x : Name) → Mem x (names_of (events ordered f)) → x.2 ≢ 0
  name-some x m e = let r = Memᴰ.of_map plain_of W.visits (subst (Mem x) W.plain m) in kind-some r.0.role (ap (λ x. x.2) r.2 ∙ e)

  L : Ledgers f.N (blank f).kinds (blank f).namers (names_of (events ordered f)) ks ns
  L =
      subst (λ ks. Ledgers f.N (blank f).kinds (blank f).namers (names_of (events ordered f)) ks ns) ran.kinds_are
      (subst (λ ns. Ledgers f.N (blank f).kinds (blank f).namers (names_of (events ordered f)) ran.last.kinds ns) ran.namers_are
      (ledgers f.N (names_of (events ordered f)) (blank f).kinds (blank f).namers ran.last.kinds ran.last.namers (blank-long f some)
      (length-replicate f.N 0) name-some through.entered))

  pub ledger-long : (length ks ≡ f.N) × (length ns ≡ f.N)
  ledger-long = (L.long, L.long-namers)

  name_in : (v : Visit) → Mem v W.visits → Mem (plain_of v) (names_of (events ordered f))
  name_in v m = subst (Mem (plain_of v)) (sym W.plain) (Memᴰ.map plain_of m)

  range : (v : Visit) → Mem v W.visits → Nameable f v.page
  range v m = go (ℕ_discrete v.page 1) (ℕ_discrete (f.fixed v.page) 0)
    where
      r : ((1 ≤ v.page) × (v.page ≤ f.N)) × (get_or (blank f).kinds (v.page - 1) 0 ≡ 0)
      r = L.range (plain_of v) (name_in v m)

      go : Dec (v.page ≡ 1) → Dec (f.fixed v.page ≡ 0) → Nameable f v.page
      go (yes e) z =
          let i : v.page - 1 ≡ 0 = omega arith in
          let o : get_or (blank f).kinds (v.page - 1) 0 ≡ 1 = ap (λ i. get_or (blank f).kinds i 0) i ∙ blank-first f some in
          absurd (omega (arith, r.1))
      go (no n) (yes z) = omega (arith, r.0, z)
      go (no n) (no z) = absurd (omega (arith, r.1, blank-fixed f some v.page (omega (arith, r.0), omega (arith, r.0), z)))

  dist : Once page_of W.visits
  dist = once-of-map plain_of page_of (λ (x : Name). x.1) (λ a. refl) W.visits (subst (λ l. Once {A = Name} (λ x. x.1) l) W.plain L.once)

  not-name : (p : ℕ) → count page_of p W.visits ≡ 0 → (x : Name) → Mem x (names_of (events ordered f)) → x.1 ≢ p
  not-name p c x m e =
      let r = Memᴰ.of_map plain_of W.visits (subst (Mem x) W.plain m) in
      let k = count-in page_of W.visits r.0 r.1 in
      omega (arith, subst (λ q. 1 ≤ count page_of q W.visits) (ap (λ x. x.1) r.2 ∙ e) k)

  cover : (p : ℕ) → Nameable f p → (v : Visit) × Mem v W.visits × (v.page ≡ p)
  cover p l = go (count page_of p W.visits) refl
    where
      go : (n : ℕ) → count page_of p W.visits ≡ n → (v : Visit) × Mem v W.visits × (v.page ≡ p)
      go zero c =
          absurd (first-full ks f.N (p - 1) ran.full (omega arith)
          ((L.kept p (omega arith) l.1 (not-name p c)).0 ∙ blank-later f some p l))
      go (suc n) c = count-has page_of p W.visits (omega arith)

  asked : AsksOf f first × ((v : Visit) → Mem v W.visits → AsksOf f v) × (W.total ≡ f.free_total)
  asked = W.asks through.clean

  pub the-dealing : Dealing
  the-dealing = dealt f some W.visits W.closed range dist cover asked.0 asked.1

  -- the ledgers are this dealing's
  kept : (p : ℕ) → Page f p → ((v : Visit) → Mem v W.visits → v.page ≢ p)
      → (get_or ks (p - 1) 0 ≡ get_or (blank f).kinds (p - 1) 0) × (get_or ns (p - 1) 0 ≡ get_or (blank f).namers (p - 1) 0)
  kept p h u =
      L.kept p h.0 h.1
      (λ x m q. let r = Memᴰ.of_map plain_of W.visits (subst (Mem x) W.plain m) in u r.0 r.1 (ap (λ x. x.1) r.2 ∙ q))

  own : (p : ℕ) → Page f p → (get_or ks (p - 1) 0 ≡ the-dealing.kind p) × (get_or ns (p - 1) 0 ≡ the-dealing.namer p)
  unfolding the-dealing
  own p h = go (ℕ_discrete p 1) (ℕ_discrete (f.fixed p) 0)
    where
      go : Dec (p ≡ 1) → Dec (f.fixed p ≡ 0) → (get_or ks (p - 1) 0 ≡ the-dealing.kind p) × (get_or ns (p - 1) 0 ≡ the-dealing.namer p)
      go (yes e) z =
          let i : p - 1 ≡ 0 = omega arith in
          let k = kept p h (λ v m q. let l = range v m in omega arith) in (
            k.0 ∙ ap (λ i. get_or (blank f).kinds i 0) i ∙ blank-first f some
                ∙ sym (ap the-dealing.kind e ∙ kind_is f some W.visits W.closed range dist cover asked.0 asked.1 first (here refl)),
            k.1 ∙ blank-namer f some p h
                ∙ sym (ap the-dealing.namer e ∙ namer-is f some W.visits W.closed range dist cover asked.0 asked.1 first (here refl)),
          )
      go (no n) (no z) =
          let x : Fixed f p = (omega arith, omega arith, z) in
          let k = kept p h (λ v m q. z (ap f.fixed (sym q) ∙ (range v m).2)) in
          let y = good_placed f some W.visits W.closed range dist cover asked.0 asked.1 p x in
          (k.0 ∙ blank-fixed f some p x ∙ sym y.0, k.1 ∙ blank-namer f some p h ∙ sym y.1)
      go (no n) (yes z) =
          let c = cover p (omega arith) in
          let k = L.put (plain_of c.0) (name_in c.0 c.1) in
          subst (λ p. (get_or ks (p - 1) 0 ≡ the-dealing.kind p) × (get_or ns (p - 1) 0 ≡ the-dealing.namer p)) c.2 (
            k.0 ∙ sym (kind_is f some W.visits W.closed range dist cover asked.0 asked.1 c.0 (there c.1)),
            k.1 ∙ sym (namer-is f some W.visits W.closed range dist cover asked.0 asked.1 c.0 (there c.1)),
          )

  own-ledger : LedgerOf f the-dealing ks ns
  own-ledger = record { kinds_are = λ p h. (own p h).0; namers_are = λ p h. (own p h).1 }

  last : Clean (final f ks ns) × Clean (name_checks f ks ordered)
  last = clean-split (final f ks ns) (name_checks f ks ordered) ran.checks

  pub the-dealing-good : Good f the-dealing
  unfolding the-dealing
  the-dealing-good =
      dealt-good f some W.visits W.closed range dist cover asked.0 asked.1 (W.total-is ∙ asked.2)
      (orders-trees ordered f none through.orders) (evens-trees ordered f 0 through.evens) (clean-final f the-dealing ks ns own-ledger last.0)

  -- a root that is named is one of the schema's, and its records rise
  index-root : (r : ℕ) → Mem r ordered → IndexRoot f the-dealing ks ns own-ledger r
  index-root r m = clean-names f the-dealing ks ns own-ledger ordered last.1 r m

  rises : (r : ℕ) → Mem r ordered → Ordered (reading f true 20 r)
  unfolding the-dealing suits
  rises r m = go (is-tree f some W.visits W.closed range dist cover asked.0 asked.1 r h.0 h.1)
    where
      h : Page f r × (the-dealing.kind r ≡ root_kind) × (index_type (f.type r) ≡ true)
      h = index-root r m

      schema : suits (place_of f the-dealing 1) (f.type 1) ≡ true → table_type (f.type 1) ≡ true
      schema e = subst (λ p. suits p (f.type 1) ≡ true) first e
        where
          first : place_of f the-dealing 1 ≡ schema_root
          first = rw the-dealing-good.kind_1

      go : (x : ℕ × ℕ) × Mem x (trees_of f) × (x.1 ≡ r) → Ordered (reading f true 20 r)
      go (x, here e, k) =
          let one : 1 ≡ r = sym (ap (λ (x : ℕ × ℕ). x.1) e) ∙ k in
          absurd (table-not-index (f.type 1) (schema (the-dealing-good.rule_22 1 (omega (arith, some)) (inl the-dealing-good.kind_1)))
          (ap (λ r. index_type (f.type r)) one ∙ h.2))
      go (x, there n, k) =
          subst (λ r. Ordered (reading f true 20 r)) k
          (orders-named ordered f none through.orders x n (ap (is_named ordered) k ∙ mem-named ordered r m))

  pub the-dealing-good-for : GoodFor ordered f the-dealing
  the-dealing-good-for = record { good = the-dealing-good; rule_33 = rises; rule_35 = index-root }

  -- the ledgers are any good dealing's
  pub ledger-is : (d : Dealing) → Good f d → (p : ℕ) → Page f p → (get_or ks (p - 1) 0 ≡ d.kind p) × (get_or ns (p - 1) 0 ≡ d.namer p)
  ledger-is d g p h = let o = own p h in let u = unique f the-dealing d the-dealing-good g p h in (o.0 ∙ u.kind, o.1 ∙ u.namer)
