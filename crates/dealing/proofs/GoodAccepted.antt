-- A file with a good dealing is accepted, and the ledgers are that dealing's.
use mathlib.Core.Path.{◌≡◌, refl, sym, ◌∙◌, ap, subst}
use mathlib.Core.Bool.{Bool, true, false}
use mathlib.Core.Logic.{◌≢◌, ◌⊎◌, inl, inr, ⊎_elim}
use mathlib.Core.Option.{none}
use mathlib.Core.List.Memᴰ
use mathlib.Core.List.{List, [], ◌∷◌, ◌++◌}
use mathlib.Core.List.Memᴰ.{head as here}
use mathlib.Core.List.Memᴰ.{tail as there}
use mathlib.Core.List.{Memᴰ as Mem}
use Prim.Native.Nat.{ℕ, zero, suc, ◌+◌, ◌-◌, ◌≤◌}
use native.Mathlib.Omega.{arith}
use native.Mathlib.Decide.{ℕ_discrete}
use borrow.Author.Tests.{eq-eqb, ne_eqb}
use lib.ListN.{length, get_or, length-replicate, get_or-replicate, length-append, get_or-append}
use lib.Seq.{get_or_at}
use Rattle.dealing.specs.File.{schema_root, File, Page, Nameable, Fixed, cells_of}
use Rattle.dealing.specs.Good.{Dealing, root_slot}
use Rattle.dealing.specs.Good.{reading, Ordered, on_freelist, free_pages, Good, GoodFor}
use Rattle.dealing.specs.Walk.{final, LedgerOf, kind_at, kinds_to, schema_roots, events, blank, first_zero, name_checks}
use Rattle.dealing.specs.Walk.{is_named, verdict_for, accepted}
use Rattle.dealing.proofs.Lists.{Once, once-map}
use Rattle.dealing.proofs.Sums.{over-pages, pages-same, tally, tally-all, tally-none, tally-one}
use Rattle.dealing.proofs.Rich.{Role, tree, over, trunk, spare, Visit, kind_of, root_in}
use Rattle.dealing.proofs.Cells.{at-is}
use Rattle.dealing.proofs.Rules.{named-number}
use Rattle.dealing.proofs.Names.{named-mem, names-clean}
use Rattle.dealing.proofs.Parts.{names_of, Clean, clean-join, plain_of}
use Rattle.dealing.proofs.Walked.{Walked, walked, free_weight}
use Rattle.dealing.proofs.Ran.{Name, goes, Ledgers, ledgers, can-enter, full-first, last_checks, ran-accepted}
use Rattle.dealing.proofs.After.{final-clean}
use Rattle.dealing.proofs.Match.{Match, place-kinds, first-kinds}
use Rattle.dealing.proofs.Reach.{page_of, Inv, inv-asks, match-first, inv-all, visited, visits-once}
use Rattle.dealing.proofs.Unique.{first-or}
use Rattle.dealing.proofs.Trees.{Leafed, descend, leafy_roots, roots-collect, leaf-roots-out}
use Rattle.dealing.proofs.Marks.{leafy_left}
use Rattle.dealing.proofs.Tests.{trees_of, trees-orders, trees-evens, Level}

pub kind-some : (o : Role) → kind_of o ≢ 0
kind-some (tree b r p l) e = ⊎_elim (λ k. omega arith) (λ k. omega arith) (place-kinds p)
kind-some (over b n) e = ⊎_elim (λ k. omega arith) (λ k. omega arith) (first-kinds b)
kind-some (trunk n) e = omega arith
kind-some spare e = omega arith

-- the ledgers at the beginning
kinds-long : (f : File) (n : ℕ) → length (kinds_to f n) ≡ n
unfolding kinds_to
kinds-long f zero = refl
kinds-long f (suc n) = length-append (kinds_to f n) (kind_at f (suc n) ∷ []) ∙ omega (arith, kinds-long f n)

kinds-at : (f : File) (n p : ℕ) → 1 ≤ p → p ≤ n → get_or (kinds_to f n) (p - 1) 0 ≡ kind_at f p
unfolding kinds_to
kinds-at f zero p a b = absurd (omega arith)
kinds-at f (suc n) p a b = go (kinds-at f n p a) (ℕ_discrete p (suc n))
  where
    go : (p ≤ n → get_or (kinds_to f n) (p - 1) 0 ≡ kind_at f p) → Dec (p ≡ suc n) → get_or (kinds_to f (suc n)) (p - 1) 0 ≡ kind_at f p
    go ih (yes e) =
        let i : p - 1 ≡ n = omega arith in
        ap (λ i. get_or (kinds_to f n ++ (kind_at f (suc n) ∷ [])) i 0) i ∙ get_or_at (kinds_to f n) (kind_at f (suc n)) [] 0 n (kinds-long f n) ∙ ap (kind_at f) (sym e)
    go ih (no k) = get_or-append (kinds_to f n) (kind_at f (suc n) ∷ []) 0 (p - 1) (omega (arith, kinds-long f n)) ∙ ih (omega arith)

module _ (f : File) (some : 1 ≤ f.N) where
  pub blank-long : length (blank f).kinds ≡ f.N
  blank-long = kinds-long f f.N

  pub blank-first : get_or (blank f).kinds 0 0 ≡ 1
  blank-first = kinds-at f f.N 1 (omega arith) some

  pub blank-later : (p : ℕ) → Nameable f p → get_or (blank f).kinds (p - 1) 0 ≡ 0
  blank-later p l = kinds-at f f.N p (omega (arith, l.0)) l.1 ∙ rw (ne_eqb p 1 (λ e. omega (arith, l.0)), eq-eqb (f.fixed p) 0 l.2)

  pub blank-fixed : (p : ℕ) → Fixed f p → get_or (blank f).kinds (p - 1) 0 ≡ 6 + f.fixed p
  blank-fixed p x = kinds-at f f.N p (omega (arith, x.0)) x.1 ∙ rw (ne_eqb p 1 (λ e. omega (arith, x.0)), ne_eqb (f.fixed p) 0 x.2)

  pub blank-namer : (p : ℕ) → Page f p → get_or (blank f).namers (p - 1) 0 ≡ 0
  blank-namer p h = get_or-replicate f.N (p - 1) 0 0 (omega (arith, h.0, h.1))

pub high : (n : ℕ) → on_freelist (6 + n) ≡ 0
high n = rw (ne_eqb (6 + n) 2 (λ e. omega arith), ne_eqb (6 + n) 3 (λ e. omega arith))

pub free-over : (d : Dealing) (n : ℕ) → free_pages d n ≡ over-pages (λ p. on_freelist (d.kind p)) n
unfolding free_pages
free-over d zero = refl
free-over d (suc n) = rw (free-over d n)

module _ (ordered : List ℕ) (f : File) (some : 1 ≤ f.N) (d : Dealing) (g : Good f d) where
  abbrev W : Walked ordered f
  W = walked ordered f

  inv : (v : Visit) → Mem v W.visits → Inv f some d g v × Nameable f v.page
  inv = inv-all f some d g W.visits W.closed

  dist : Once page_of W.visits
  dist = visits-once f some d g W.visits W.closed

  total-good : W.total ≡ f.free_total
  total-good =
      sym W.total-is
      ∙ sym (tally-all page_of (free_weight f) f.N W.visits (λ v m. let l = (inv v m).1 in omega arith))
      ∙ pages-same (tally page_of (free_weight f) W.visits) (λ p. on_freelist (d.kind p)) f.N each
      ∙ sym (free-over d f.N) ∙ g.rule_29_total
    where
      each : (p : ℕ) → 1 ≤ p → p ≤ f.N → tally page_of (free_weight f) W.visits p ≡ on_freelist (d.kind p)
      each p a b = go (first-or f d g p (a, b))
        where
          go : (p ≡ 1) ⊎ (Fixed f p ⊎ Nameable f p) → tally page_of (free_weight f) W.visits p ≡ on_freelist (d.kind p)
          go (inl e) =
              tally-none page_of (free_weight f) W.visits p (λ v m k. let l = (inv v m).1 in omega arith)
              ∙ sym (ap (λ q. on_freelist (d.kind q)) e ∙ ap on_freelist g.kind_1)
          go (inr (inl x)) =
              tally-none page_of (free_weight f) W.visits p (λ v m k. let l = (inv v m).1 in x.2 (ap f.fixed (sym k) ∙ l.2))
              ∙ sym (ap on_freelist (g.placed p x).0 ∙ high (f.fixed p))
          go (inr (inr l)) =
              let r = visited f some d g W.visits W.closed p l in
              subst (λ p. tally page_of (free_weight f) W.visits p ≡ on_freelist (d.kind p)) r.2
              (tally-one page_of (free_weight f) W.visits dist r.0 r.1 ∙ sym (ap on_freelist (inv r.0 r.1).0.match.kind))

  clean : Clean (events ordered f)
  clean =
      W.clean (inv-asks f some d g 1 (tree true 1 schema_root 20) (match-first f some d g))
      (λ v m. inv-asks f some d g v.page v.role (inv v m).0.match) total-good

  -- the trees of the walk are those of the roots
  root-good : (x : ℕ × ℕ) → Mem x (schema_roots f 20 1) → Nameable f x.1 × (d.kind x.1 ≡ 1)
  root-good x m =
      let l = descend f (leafy_roots f) d g 20 1 1 1 (omega arith) (inl g.kind_1) refl x (subst (Mem x) (roots-collect f 20 1) m) in
      let w = leaf-roots-out f l.page 0 (cells_of f l.page) x l.here-it in
      let u = w.1 in
      let z : u.0 ≡ 0 + u.0 = omega arith in
      let r = g.pointers l.page (root_slot u.0) x.1 1 (at-page l)
      (let n = named-number (f.column4 l.page u.0) x.1 (ap (λ j. root_in f l.page j) z ∙ u.3) in
      (((l.level, l.in_tree), l.leaf, (at-is f l.page u.0 u.1 u.2).0), n.0, n.1, refl)) in
      (r.0, r.1)
    where
      at-page : (l : Leafed f (leafy_roots f) d 1 21 x) → Page f l.page
      at-page l = Rattle.dealing.proofs.Match.tree-page f d l.level 1 l.page (omega arith) l.in_tree

  each-tree : (P : ℕ → Type 0) → ((r : ℕ) → Page f r → d.kind r ≡ 1 → P r) → (x : ℕ × ℕ) → Mem x (trees_of f) → P x.1
  each-tree P h x (here e) = subst (λ (x : ℕ × ℕ). P x.1) (sym e) (h 1 (omega arith) g.kind_1)
  each-tree P h x (there m) = let w = root-good x m in h x.1 (let l = w.0 in omega arith) w.1

  level-good : (r : ℕ) → Page f r → d.kind r ≡ 1 → Level f r
  level-good r h k y z m n =
      let a = descend f leafy_left d g 20 r 1 r h (inl k) refl y m in
      let b = descend f leafy_left d g 20 r 1 r h (inl k) refl z n in
      let e : a.level ≡ b.level = g.rule_24_even r a.level a.page b.level b.page h k a.in_tree a.leaf b.in_tree b.leaf in
      only y a.left a.here-it ∙ omega (arith, a.levels, b.levels) ∙ sym (only z b.left b.here-it)
    where
      only : (y l : ℕ) → Mem y (l ∷ []) → y ≡ l
      only y l (here e) = e
      only y l (there m) = elim m [ ]

  names_in : (x : Name) → Mem x (names_of (events ordered f)) → (v : Visit) × Mem v W.visits × (plain_of v ≡ x)
  names_in x m = Memᴰ.of_map plain_of W.visits (subst (Mem x) W.plain m)

  name-later : (x : Name) → Mem x (names_of (events ordered f)) → Nameable f x.1
  name-later x m = let r = names_in x m in subst (Nameable f) (ap (λ x. x.1) r.2) (inv r.0 r.1).1

  name-some : (x : Name) → Mem x (names_of (events ordered f)) → x.2 ≢ 0
  name-some x m e = let r = names_in x m in kind-some r.0.role (ap (λ x. x.2) r.2 ∙ e)

  once-names : Once {A = Name} (λ x. x.1) (names_of (events ordered f))
  once-names = subst (λ l. Once {A = Name} (λ x. x.1) l) (sym W.plain) (once-map plain_of page_of (λ x. x.1) (λ a. refl) W.visits dist)

  -- what such ledgers hold is the dealing
  pub ledger-of : (ks ns : List ℕ) → Ledgers f.N (blank f).kinds (blank f).namers (names_of (events ordered f)) ks ns → LedgerOf f d ks ns
  ledger-of ks ns L = record { kinds_are = λ p h. (entry p h (first-or f d g p h)).0; namers_are = λ p h. (entry p h (first-or f d g p h)).1 }
    where
      entry : (p : ℕ) → Page f p → (p ≡ 1) ⊎ (Fixed f p ⊎ Nameable f p) → (get_or ks (p - 1) 0 ≡ d.kind p) × (get_or ns (p - 1) 0 ≡ d.namer p)
      entry p h (inl e) =
          let i : p - 1 ≡ 0 = omega arith in
          let k = L.kept p h.0 h.1 (λ x m q. let l = name-later x m in omega arith) in (
            k.0 ∙ ap (λ i. get_or (blank f).kinds i 0) i ∙ blank-first f some ∙ sym (ap d.kind e ∙ g.kind_1),
            k.1 ∙ blank-namer f some p h
                ∙ sym (ap d.namer e ∙ g.namer_1),
          )
      entry p h (inr (inl x)) =
          let k = L.kept p h.0 h.1 (λ y m q. let l = name-later y m in x.2 (ap f.fixed (sym q) ∙ l.2)) in
          let y = g.placed p x in
          (k.0 ∙ blank-fixed f some p x ∙ sym y.0, k.1 ∙ blank-namer f some p h ∙ sym y.1)
      entry p h (inr (inr l)) =
          let r = visited f some d g W.visits W.closed p l in
          let I = (inv r.0 r.1).0 in
          let k = L.put (plain_of r.0) (subst (Mem (plain_of r.0)) (sym W.plain) (Memᴰ.map plain_of r.1)) in
          subst (λ p. (get_or ks (p - 1) 0 ≡ d.kind p) × (get_or ns (p - 1) 0 ≡ d.namer p)) r.2 (k.0 ∙ sym I.match.kind, k.1 ∙ sym I.namer)

  pub good-accepted : GoodFor ordered f d → (kinds : List ℕ) × (namers : List ℕ) × (verdict_for ordered f ≡ accepted kinds namers)
  good-accepted F =
      let e = can-enter f.N (names_of (events ordered f)) (blank f).kinds (blank f).namers (blank-long f some)
      (λ x m. let l : Nameable f x.1 = name-later x m in (omega arith, blank-later f some x.1 l)) once-names in
      let G = goes f.N (events ordered f) (blank f) e.0 e.1 clean
      (trees-orders ordered f none (g.rule_25 1 (omega arith) g.kind_1) (λ x m. rising F x (root-good x m) (is_named ordered x.1) refl))
      (trees-evens ordered f 0 (each-tree (Level f) level-good)) e.2 in
      let L =
      ledgers f.N (names_of (events ordered f)) (blank f).kinds (blank f).namers e.0 e.1 (blank-long f some)
      (length-replicate f.N 0) name-some e.2 in (
        G.0.kinds,
        G.0.namers,
        ran-accepted ordered f G.0 G.1 (subst (λ ks. f.N ≤ first_zero ks) (sym G.2) (full e.0 e.1 L))
            (subst (λ ks. Clean (last_checks ordered f ks G.0.namers)) (sym G.2) (subst (λ ns. Clean (last_checks ordered f e.0 ns)) (sym G.3)
            (clean-join (final f e.0 e.1) (name_checks f e.0 ordered) (final-clean f d e.0 e.1 (ledger-of e.0 e.1 L) g.after)
            (names-clean f d e.0 e.1 (ledger-of e.0 e.1 L) ordered F.rule_35)))),
      )
    where
      -- the records of a named root's tree rise, the numbers of any other's are in order
      rising : GoodFor ordered f d → (x : ℕ × ℕ) → Nameable f x.1 × (d.kind x.1 ≡ 1) → (b : Bool) → is_named ordered x.1 ≡ b
          → Ordered (reading f b 20 x.1)
      rising F x w true e = F.rule_33 x.1 (named-mem ordered x.1 e)
      rising F x w false e = g.rule_25 x.1 (let l = w.0 in omega arith) w.1

      entry : (ks ns : List ℕ) → Ledgers f.N (blank f).kinds (blank f).namers (names_of (events ordered f)) ks ns → (p : ℕ) → Page f p
          → get_or ks (p - 1) 0 ≢ 0
      entry ks ns L p h = go (first-or f d g p h)
        where
          go : (p ≡ 1) ⊎ (Fixed f p ⊎ Nameable f p) → get_or ks (p - 1) 0 ≢ 0
          go (inl e) z =
              let k = (L.kept p h.0 h.1 (λ x m q. let l = name-later x m in omega arith)).0 in
              let i : p - 1 ≡ 0 = omega arith in
              let o : get_or (blank f).kinds (p - 1) 0 ≡ 1 = ap (λ i. get_or (blank f).kinds i 0) i ∙ blank-first f some in
              omega arith
          go (inr (inl x)) z =
              let k = (L.kept p h.0 h.1 (λ y m q. let l = name-later y m in x.2 (ap f.fixed (sym q) ∙ l.2))).0 in
              omega (arith, k, blank-fixed f some p x)
          go (inr (inr l)) z =
              let r = visited f some d g W.visits W.closed p l in
              let k = (L.put (plain_of r.0) (subst (Mem (plain_of r.0)) (sym W.plain) (Memᴰ.map plain_of r.1))).0 in
              kind-some r.0.role (sym k ∙ ap (λ p. get_or ks (p - 1) 0) r.2 ∙ z)

      full : (ks ns : List ℕ) → Ledgers f.N (blank f).kinds (blank f).namers (names_of (events ordered f)) ks ns → f.N ≤ first_zero ks
      full ks ns L =
          subst (λ n. n ≤ first_zero ks) L.long
          (full-first ks (λ i h. let e : suc i - 1 ≡ i = omega arith in
          subst (λ i. get_or ks i 0 ≢ 0) e (entry ks ns L (suc i) (let k = L.long in omega arith))))
