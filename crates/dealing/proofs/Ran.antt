-- What a run that goes through says of its events, and when it does.
use mathlib.Core.Path.{◌≡◌, refl, sym, ◌∙◌, ap, subst}
use mathlib.Core.Bool.{Bool, true, false, cond}
use mathlib.Core.Logic.{◌≢◌}
use mathlib.Core.Option.{Option, none, some}
use mathlib.Core.List.{List, [], ◌∷◌, ◌++◌}
use mathlib.Core.List.Memᴰ.{head as here}
use mathlib.Core.List.Memᴰ.{tail as there}
use mathlib.Core.List.{Memᴰ as Mem}
use Prim.Native.Nat.{ℕ, zero, suc, ◌-◌, ◌≤◌, ◌<◌}
use native.Mathlib.Omega.{arith}
use lib.Dec.{eqb, ltb}
use lib.ListN.{length, get_or, set, length-set}
use lib.Seq.{get_or-set_same, get_or-set_other}
use borrow.Author.Tests.{eq-eqb, eqb-true, leb-true, le-leb, ltb-false, le-ltb}
use Rattle.dealing.specs.File.{File}
use Rattle.dealing.specs.Good.{Mark, a_row, a_key, a_record}
use Rattle.dealing.specs.Walk.{follows, Event, start, name, fail, row, key, leaf, entry, State, Outcome, went, refused, in_range, enter, order}
use Rattle.dealing.specs.Walk.{at_leaf, even, step, and_then, run, accepted, refusal, first_zero, finish, blank, events, verdict_for}
use Rattle.dealing.specs.Walk.{final, name_checks, settle}
use Rattle.dealing.proofs.Lists.{Once}
use Rattle.dealing.proofs.Parts.{names_of, Clean}
use Rattle.dealing.proofs.After.{settle-clean, clean-settle}

-- the order, after the last number read
abbrev pub Orders : Option Mark → List Event → Type 0
Orders a [] = Unit {0}
Orders a (start ∷ es) = Orders none es
Orders a (name h t k ∷ es) = Orders a es
Orders a (fail n p ∷ es) = Orders a es
Orders a (row p r ∷ es) = (follows a (a_row r) ≡ true) × Orders (some (a_row r)) es
Orders a (key p k ∷ es) = (follows a (a_key k) ≡ true) × Orders (some (a_key k)) es
Orders a (leaf p l ∷ es) = Orders a es
Orders a (entry p v ∷ es) = (follows a (a_record v) ≡ true) × Orders (some (a_record v)) es

abbrev pub Evens : ℕ → List Event → Type 0
Evens a [] = Unit {0}
Evens a (start ∷ es) = Evens 0 es
Evens a (name h t k ∷ es) = Evens a es
Evens a (fail n p ∷ es) = Evens a es
Evens a (row p r ∷ es) = Evens a es
Evens a (key p k ∷ es) = Evens a es
Evens a (leaf p l ∷ es) = (even a l ≡ true) × Evens l es
Evens a (entry p v ∷ es) = Evens a es

abbrev pub Name : Type 0
Name = ℕ × ℕ × ℕ

abbrev pub Entered : ℕ → (ks ns : List ℕ) → List Name → (ks' ns' : List ℕ) → Type 0
Entered N ks ns [] ks' ns' = (ks ≡ ks') × (ns ≡ ns')
Entered N ks ns (x ∷ l) ks' ns' =
    ((1 ≤ x.1) × (x.1 ≤ N)) × (get_or ks (x.1 - 1) 0 ≡ 0) × Entered N (set ks (x.1 - 1) x.2) (set ns (x.1 - 1) x.0) l ks' ns'

pub record Through (N : ℕ) (s : State) (es : List Event) (s' : State) : Type 0 where
  pub clean : Clean es
  pub orders : Orders s.last es
  pub evens : Evens s.leaf_at es
  pub entered : Entered N s.kinds s.namers (names_of es) s'.kinds s'.namers

not-went : {A : Type 0} (n p : ℕ) (s : State) → refused n p ≡ went s → A
not-went n p s e = absurd (let z : ◌≡◌ {A = ℕ} 0 1 = cc in omega arith)

range-true : (N t : ℕ) → in_range N t ≡ true → (1 ≤ t) × (t ≤ N)
range-true N zero e = absurd (let z : ◌≡◌ {A = ℕ} 0 1 = cc in omega arith)
range-true N (suc t) e = let h = leb-true (suc t) N e in omega arith

true-range : (N t : ℕ) → 1 ≤ t → t ≤ N → in_range N t ≡ true
true-range N zero a b = absurd (omega arith)
true-range N (suc t) a b = le-leb (suc t) N b

went-inj : (s s' : State) → went s ≡ went s' → s ≡ s'
went-inj s s' e = cc

module _ (N : ℕ) where
  pub says : (es : List Event) (s s' : State) → run N s es ≡ went s' → Through N s es s'
  unfolding run step and_then
  says [] s s' e = let q : s ≡ s' = cc in record { clean = tt; orders = tt; evens = tt; entered = (ap (λ s. s.kinds) q, ap (λ s. s.namers) q) }
  says (start ∷ es) s s' e = let r = says es (at_leaf (order s none) 0) s' e in
      record { clean = r.clean; orders = r.orders; evens = r.evens; entered = r.entered }
  says (fail n p ∷ es) s s' e = not-went n p s' e
  says (name h t k ∷ es) s s' e = go (says es (enter s h t k) s') (in_range N t) refl e
    where
      go : (run N (enter s h t k) es ≡ went s' → Through N (enter s h t k) es s') → (b : Bool) → in_range N t ≡ b
          → and_then (cond b (cond (eqb (get_or s.kinds (t - 1) 0) 0) (went (enter s h t k)) (refused 21 t)) (refused 20 h)) (λ x. run N x es) ≡ went s'
          → Through N s (name h t k ∷ es) s'
      go ih false r e = not-went 20 h s' e
      go ih true r e = go' (eqb (get_or s.kinds (t - 1) 0) 0) refl e
        where
          go' : (b : Bool) → eqb (get_or s.kinds (t - 1) 0) 0 ≡ b
              → and_then (cond b (went (enter s h t k)) (refused 21 t)) (λ x. run N x es) ≡ went s' → Through N s (name h t k ∷ es) s'
          go' false q e = not-went 21 t s' e
          go' true q e =
              let w = ih e in
              record {
                clean = w.clean;
                orders = w.orders;
                evens = w.evens;
                entered = (range-true N t r, eqb-true (get_or s.kinds (t - 1) 0) 0 q, w.entered);
              }
  says (row p r ∷ es) s s' e = go (says es (order s (some (a_row r))) s') (follows s.last (a_row r)) refl e
    where
      go : (run N (order s (some (a_row r))) es ≡ went s' → Through N (order s (some (a_row r))) es s') → (b : Bool) → follows s.last (a_row r) ≡ b
          → and_then (cond b (went (order s (some (a_row r)))) (refused 25 p)) (λ x. run N x es) ≡ went s' → Through N s (row p r ∷ es) s'
      go ih false q e = not-went 25 p s' e
      go ih true q e = let w = ih e in record { clean = w.clean; orders = (q, w.orders); evens = w.evens; entered = w.entered }
  says (key p r ∷ es) s s' e = go (says es (order s (some (a_key r))) s') (follows s.last (a_key r)) refl e
    where
      go : (run N (order s (some (a_key r))) es ≡ went s' → Through N (order s (some (a_key r))) es s') → (b : Bool) → follows s.last (a_key r) ≡ b
          → and_then (cond b (went (order s (some (a_key r)))) (refused 25 p)) (λ x. run N x es) ≡ went s' → Through N s (key p r ∷ es) s'
      go ih false q e = not-went 25 p s' e
      go ih true q e = let w = ih e in record { clean = w.clean; orders = (q, w.orders); evens = w.evens; entered = w.entered }
  says (leaf p l ∷ es) s s' e = go (says es (at_leaf s l) s') (even s.leaf_at l) refl e
    where
      go : (run N (at_leaf s l) es ≡ went s' → Through N (at_leaf s l) es s') → (b : Bool) → even s.leaf_at l ≡ b
          → and_then (cond b (went (at_leaf s l)) (refused 24 p)) (λ x. run N x es) ≡ went s' → Through N s (leaf p l ∷ es) s'
      go ih false q e = not-went 24 p s' e
      go ih true q e = let w = ih e in record { clean = w.clean; orders = w.orders; evens = (q, w.evens); entered = w.entered }
  says (entry p v ∷ es) s s' e = go (says es (order s (some (a_record v))) s') (follows s.last (a_record v)) refl e
    where
      go : (run N (order s (some (a_record v))) es ≡ went s' → Through N (order s (some (a_record v))) es s') → (b : Bool) → follows s.last (a_record v) ≡ b
          → and_then (cond b (went (order s (some (a_record v)))) (refused 33 p)) (λ x. run N x es) ≡ went s' → Through N s (entry p v ∷ es) s'
      go ih false q e = not-went 33 p s' e
      go ih true q e = let w = ih e in record { clean = w.clean; orders = (q, w.orders); evens = w.evens; entered = w.entered }

  -- a run that goes through, with these ledgers at the end
  abbrev pub Goes : State → List Event → (ks' ns' : List ℕ) → Type 0
  Goes s es ks' ns' = (s' : State) × (run N s es ≡ went s') × (s'.kinds ≡ ks') × (s'.namers ≡ ns')

  pub goes : (es : List Event) (s : State) (ks' ns' : List ℕ) → Clean es → Orders s.last es → Evens s.leaf_at es
      → Entered N s.kinds s.namers (names_of es) ks' ns' → Goes s es ks' ns'
  unfolding run step and_then
  goes [] s ks' ns' c o v e = (s, refl, e.0, e.1)
  goes (start ∷ es) s ks' ns' c o v e = goes es (at_leaf (order s none) 0) ks' ns' c o v e
  goes (fail n p ∷ es) s ks' ns' c o v e = absurd c
  goes (name h t k ∷ es) s ks' ns' c o v e =
      rw (true-range N t e.0.0 e.0.1, eq-eqb (get_or s.kinds (t - 1) 0) 0 e.1) (goes es (enter s h t k) ks' ns' c o v e.2)
  goes (row p r ∷ es) s ks' ns' c o v e = rw o.0 (goes es (order s (some (a_row r))) ks' ns' c o.1 v e)
  goes (key p r ∷ es) s ks' ns' c o v e = rw o.0 (goes es (order s (some (a_key r))) ks' ns' c o.1 v e)
  goes (leaf p l ∷ es) s ks' ns' c o v e = rw v.0 (goes es (at_leaf s l) ks' ns' c o v.1 e)
  goes (entry p x ∷ es) s ks' ns' c o v e = rw o.0 (goes es (order s (some (a_record x))) ks' ns' c o.1 v e)

  -- the ledgers, where the kinds entered are not 0
  pub record Ledgers (ks ns : List ℕ) (l : List Name) (ks' ns' : List ℕ) : Type 0 where
    pub range : (x : Name) → Mem x l → ((1 ≤ x.1) × (x.1 ≤ N)) × (get_or ks (x.1 - 1) 0 ≡ 0)
    pub once : Once {A = Name} (λ x. x.1) l
    pub put : (x : Name) → Mem x l → (get_or ks' (x.1 - 1) 0 ≡ x.2) × (get_or ns' (x.1 - 1) 0 ≡ x.0)
    pub kept : (p : ℕ) → 1 ≤ p → p ≤ N → ((x : Name) → Mem x l → x.1 ≢ p) → (get_or ks' (p - 1) 0 ≡ get_or ks (p - 1) 0) × (get_or ns' (p - 1) 0 ≡ get_or ns (p - 1) 0)
    pub long : length ks' ≡ N
    pub long-namers : length ns' ≡ N

  pub ledgers : (l : List Name) (ks ns ks' ns' : List ℕ) → length ks ≡ N → length ns ≡ N → ((x : Name) → Mem x l → x.2 ≢ 0)
      → Entered N ks ns l ks' ns' → Ledgers ks ns l ks' ns'
  ledgers [] ks ns ks' ns' a b z e =
      record {
        range = λ x m. elim m [ ];
        once = tt;
        put = λ x m. elim m [ ];
        kept = λ p i j h. (rw e.0, rw e.1);
        long = rw (← e.0) a;
        long-namers = rw (← e.1) b;
      }
  ledgers (x ∷ l) ks ns ks' ns' a b z e =
      let i : ℕ = x.1 - 1 in
      let w = ledgers l (set ks i x.2) (set ns i x.0) ks' ns' (length-set ks i x.2 ∙ a) (length-set ns i x.0 ∙ b) (λ y m. z y (there m)) e.2 in
      let r : (1 ≤ x.1) × (x.1 ≤ N) = e.0 in
      let other : (y : Name) → Mem y l → x.1 ≢ y.1 = λ y m q.
      z x (here refl) (sym (get_or-set_same ks i x.2 0 (omega arith)) ∙ ap (λ t. get_or (set ks i x.2) (t - 1) 0) q ∙ (w.range y m).1) in
      record {
        range = range w r other;
        once = (other, w.once);
        put = put w r other;
        kept = λ p h k n.
            let u = w.kept p h k (λ y m. n y (there m)) in
            let d : x.1 ≢ p = n x (here refl) in
            let j : p - 1 ≢ i = omega arith in
            (u.0 ∙ get_or-set_other ks i (p - 1) x.2 0 j, u.1 ∙ get_or-set_other ns i (p - 1) x.0 0 j);
        long = w.long;
        long-namers = w.long-namers;
      }
    where
      range : Ledgers (set ks (x.1 - 1) x.2) (set ns (x.1 - 1) x.0) l ks' ns' → (1 ≤ x.1) × (x.1 ≤ N) → ((y : Name) → Mem y l → x.1 ≢ y.1)
          → (y : Name) → Mem y (x ∷ l) → ((1 ≤ y.1) × (y.1 ≤ N)) × (get_or ks (y.1 - 1) 0 ≡ 0)
      range w r o y (here q) = rw q (r, e.1)
      range w r o y (there m) =
          let u = w.range y m in
          let k : x.1 ≢ y.1 = o y m in
          let j : y.1 - 1 ≢ x.1 - 1 = omega arith in
          (u.0, sym (get_or-set_other ks (x.1 - 1) (y.1 - 1) x.2 0 j) ∙ u.1)

      put : Ledgers (set ks (x.1 - 1) x.2) (set ns (x.1 - 1) x.0) l ks' ns' → (1 ≤ x.1) × (x.1 ≤ N) → ((y : Name) → Mem y l → x.1 ≢ y.1)
          → (y : Name) → Mem y (x ∷ l) → (get_or ks' (y.1 - 1) 0 ≡ y.2) × (get_or ns' (y.1 - 1) 0 ≡ y.0)
      put w r o y (here q) =
          let u = w.kept x.1 r.0 r.1 (λ y m k. o y m (sym k)) in
          rw q (u.0 ∙ get_or-set_same ks (x.1 - 1) x.2 0 (omega arith), u.1 ∙ get_or-set_same ns (x.1 - 1) x.0 0 (omega arith))
      put w r o y (there m) = w.put y m

  pub can-enter : (l : List Name) (ks ns : List ℕ) → length ks ≡ N → ((x : Name) → Mem x l → ((1 ≤ x.1) × (x.1 ≤ N)) × (get_or ks (x.1 - 1) 0 ≡ 0))
      → Once {A = Name} (λ x. x.1) l → (ks' : List ℕ) × (ns' : List ℕ) × Entered N ks ns l ks' ns'
  can-enter [] ks ns a h o = (ks, ns, (refl, refl))
  can-enter (x ∷ l) ks ns a h o =
      let k = h x (here refl) in
      let r = can-enter l (set ks (x.1 - 1) x.2) (set ns (x.1 - 1) x.0) (length-set ks (x.1 - 1) x.2 ∙ a)
      (λ y m.
      let u = h y (there m) in
      let d : x.1 ≢ y.1 = o.0 y m in
      let j : y.1 - 1 ≢ x.1 - 1 = omega arith in
      (u.0, get_or-set_other ks (x.1 - 1) (y.1 - 1) x.2 0 j ∙ u.1))
      o.1 in
      (r.0, r.1, (k.0, k.1, r.2))

-- the first 0
pub full-first : (l : List ℕ) → ((i : ℕ) → i < length l → get_or l i 0 ≢ 0) → length l ≤ first_zero l
unfolding first_zero
full-first [] h = omega arith
full-first (zero ∷ l) h = absurd (h 0 (omega arith) refl)
full-first (suc x ∷ l) h = let r = full-first l (λ i k. h (suc i) (omega arith)) in omega arith

pub first-full : (l : List ℕ) (n i : ℕ) → n ≤ first_zero l → i < n → get_or l i 0 ≢ 0
unfolding first_zero
first-full [] n i h k = absurd (omega arith)
first-full (zero ∷ l) n i h k = absurd (omega arith)
first-full (suc x ∷ l) n zero h k = λ e. omega arith
first-full (suc x ∷ l) zero (suc i) h k = absurd (omega arith)
first-full (suc x ∷ l) (suc n) (suc i) h k = first-full l n i (omega arith) (omega arith)

-- an accepted verdict: the run went through, no page is without a kind, and the last checks are clean
abbrev pub last_checks : (ordered : List ℕ) → File → (kinds namers : List ℕ) → List Event
last_checks ordered f ks ns = final f ks ns ++ name_checks f ks ordered

pub record Accepted (ordered : List ℕ) (f : File) (ks ns : List ℕ) : Type 0 where
  pub last : State
  pub went-through : run f.N (blank f) (events ordered f) ≡ went last
  pub kinds_are : last.kinds ≡ ks
  pub namers_are : last.namers ≡ ns
  pub full : f.N ≤ first_zero ks
  pub checks : Clean (last_checks ordered f ks ns)

pub accepted-ran : (ordered : List ℕ) (f : File) (ks ns : List ℕ) → verdict_for ordered f ≡ accepted ks ns → Accepted ordered f ks ns
unfolding verdict_for finish
accepted-ran ordered f ks ns e = go (run f.N (blank f) (events ordered f)) refl e
  where
    go : (o : Outcome) → run f.N (blank f) (events ordered f) ≡ o → finish ordered f o ≡ accepted ks ns → Accepted ordered f ks ns
    go (refused n p) q e = absurd (let z : ◌≡◌ {A = ℕ} 0 1 = cc in omega arith)
    go (went s) q e = go' (ltb (first_zero s.kinds) f.N) refl e
      where
        go' : (b : Bool) → ltb (first_zero s.kinds) f.N ≡ b
            → cond b (refusal 30 (suc (first_zero s.kinds))) (settle (last_checks ordered f s.kinds s.namers) s.kinds s.namers) ≡ accepted ks ns
            → Accepted ordered f ks ns
        go' true r e = absurd (let z : ◌≡◌ {A = ℕ} 0 1 = cc in omega arith)
        go' false r e =
            let w = clean-settle (last_checks ordered f s.kinds s.namers) s.kinds s.namers ks ns e in
            record {
              last = s;
              went-through = q;
              kinds_are = w.1;
              namers_are = w.2;
              full = rw (← w.1) (ltb-false (first_zero s.kinds) f.N r);
              checks = subst (λ n. Clean (last_checks ordered f ks n)) w.2 (subst (λ k. Clean (last_checks ordered f k s.namers)) w.1 w.0);
            }

pub ran-accepted : (ordered : List ℕ) (f : File) (s : State) → run f.N (blank f) (events ordered f) ≡ went s → f.N ≤ first_zero s.kinds
    → Clean (last_checks ordered f s.kinds s.namers) → verdict_for ordered f ≡ accepted s.kinds s.namers
unfolding verdict_for finish
ran-accepted ordered f s e h c =
    rw (e, le-ltb (first_zero s.kinds) f.N h) (settle-clean (last_checks ordered f s.kinds s.namers) s.kinds s.namers c)
