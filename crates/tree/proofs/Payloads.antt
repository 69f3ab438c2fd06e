-- The payloads of cells: a run of them neither looks at the number that was read last nor changes it.
use Prim.Native.Nat.{ℕ, zero, suc, ◌+◌, ◌-◌, ◌≤◌, ◌<◌}
use mathlib.Core.Path.{◌≡◌, refl, sym, ap, ◌∙◌}
use mathlib.Core.Bool.{Bool, true, false, cond}
use mathlib.Core.Logic.{◌⊎◌, inl, inr, ⊎_elim}
use mathlib.Core.Option.{Option}
use mathlib.Core.List.{List, [], ◌∷◌, ◌++◌, append_assoc}
use native.Mathlib.Omega.{arith}
use lib.Dec.{eqb}
use lib.ListN.{get_or}
use Rattle.number.proofs.Cases.{lt-or-ge}
use Rattle.dealing.specs.Good.{Mark}
use Rattle.dealing.specs.File.{File, Cell, first_kind, later_kind}
use Rattle.dealing.specs.Walk.{Event, name, check, not0, chain_events, chain_of, payload_events, State, Outcome, went, refused, in_range, enter, order, step, and_then, run}
use Rattle.dealing.proofs.RunLaws.{run-append, run_none, then-went, then-refused}
use Rattle.tree.specs.Leaves.{payloads_in}

-- where it went, with another last number
abbrev pub marked : Option Mark → Outcome → Outcome
marked m (went s) = went (order s m)
marked m (refused x q) = refused x q

pub marked-twice : (m m' : Option Mark) (o : Outcome) → marked m (marked m' o) ≡ marked m o
marked-twice m m' (went s) = refl
marked-twice m m' (refused x q) = refl

-- events that leave the last number alone
abbrev pub Still : ℕ → List Event → Type 0
Still N es = (s : State) (m : Option Mark) → run N (order s m) es ≡ marked m (run N s es)

module _ (N : ℕ) where
  still-none : Still N []
  unfolding run
  still-none s m = refl

  still-then : (a b : List Event) → Still N a → Still N b → Still N (a ++ b)
  unfolding and_then
  still-then a b h k s m = run-append N (order s m) a b ∙ ap (λ o. and_then o (λ s'. run N s' b)) (h s m) ∙ go (run N s a) ∙ ap (marked m) (sym (run-append N s a b))
    where
      go : (o : Outcome) → and_then (marked m o) (λ s'. run N s' b) ≡ marked m (and_then o (λ s'. run N s' b))
      go (went s') = k s' m
      go (refused x q) = refl

  still-check : (t : Bool) (x q : ℕ) → Still N (check t x q)
  unfolding run step and_then
  still-check true x q s m = refl
  still-check false x q s m = refl

  still-name : (h t k : ℕ) → Still N (name h t k ∷ [])
  unfolding run step and_then
  still-name h t k s m = go (in_range N t) (eqb (get_or s.kinds (t - 1) 0) 0)
    where
      go : (a b : Bool) → and_then (cond a (cond b (went (enter (order s m) h t k)) (refused 21 t)) (refused 20 h)) (λ s'. went s')
          ≡ marked m (and_then (cond a (cond b (went (enter s h t k)) (refused 21 t)) (refused 20 h)) (λ s'. went s'))
      go true true = refl
      go true false = refl
      go false b = refl

module _ (f : File) (p : ℕ) where
  still-chain : (h k n t : ℕ) → Still f.N (chain_events f h k n t)
  unfolding chain_events
  still-chain h k zero t = still-check f.N (eqb t 0) 27 h
  still-chain h k (suc n) t =
      still-then f.N (check (not0 t) 27 h) (name h t k ∷ chain_events f t later_kind n (f.next t)) (still-check f.N (not0 t) 27 h)
      (still-then f.N (name h t k ∷ []) (chain_events f t later_kind n (f.next t)) (still-name f.N h t k) (still-chain t later_kind n (f.next t)))

  still-links : (n t : ℕ) → Still f.N (chain_of f p n t)
  unfolding chain_of
  still-links zero t = still-none f.N
  still-links (suc n) t = still-chain p first_kind (suc n) t

  pub still-payload : (c : Cell) → Still f.N (payload_events f p c)
  unfolding payload_events
  still-payload c = still-then f.N (chain_of f p c.links c.first) (check c.reads 28 p) (still-links c.links c.first) (still-check f.N c.reads 28 p)

  pub still-payloads : (i k : ℕ) → Still f.N (payloads_in f p i k)
  unfolding payloads_in
  still-payloads i zero = still-none f.N
  still-payloads i (suc k) = still-then f.N (payload_events f p (f.cell p i)) (payloads_in f p (i + 1) k) (still-payload (f.cell p i)) (still-payloads (i + 1) k)

  -- payloads that change nothing
  pub payloads-none : (s : State) (i k : ℕ) → ((j : ℕ) → i ≤ j → j < i + k → run f.N s (payload_events f p (f.cell p j)) ≡ went s)
      → run f.N s (payloads_in f p i k) ≡ went s
  unfolding payloads_in
  payloads-none s i zero h = run_none f.N s
  payloads-none s i (suc k) h =
      then-went f.N s s (payload_events f p (f.cell p i)) (payloads_in f p (i + 1) k) (h i (omega arith) (omega arith))
      ∙ payloads-none s (i + 1) k (λ j a b. h j (omega arith) (omega arith))

  payloads-split : (i a b : ℕ) → payloads_in f p i (a + b) ≡ payloads_in f p i a ++ payloads_in f p (i + a) b
  unfolding payloads_in
  payloads-split i zero b = let e : i ≡ i + 0 = omega arith in let z : 0 + b ≡ b = omega arith in rw z (ap (λ n. payloads_in f p n b) e)
  payloads-split i (suc a) b =
      let e : i + 1 + a ≡ i + suc a = omega arith in let z : suc a + b ≡ suc (a + b) = omega arith in
      ap (payloads_in f p i) z
      ∙ ap (λ l. payload_events f p (f.cell p i) ++ l) (payloads-split (i + 1) a b ∙ ap (λ n. payloads_in f p (i + 1) a ++ payloads_in f p n b) e)
      ∙ sym (append_assoc (payload_events f p (f.cell p i)) (payloads_in f p (i + 1) a) (payloads_in f p (i + suc a) b))

  -- of n cells those in from..to stand for all, where the others' payloads change nothing
  module _ (n from to : ℕ) (within : to ≤ n) (plain : (s : State) (j : ℕ) → j < n → (j < from) ⊎ (to ≤ j) → run f.N s (payload_events f p (f.cell p j)) ≡ went s) where
    payloads-up : (s : State) → from ≤ to → run f.N s (payloads_in f p 0 n) ≡ run f.N s (payloads_in f p from (to - from))
    payloads-up s h =
        let e : n ≡ from + (n - from) = omega arith in let k : n - from ≡ to - from + (n - to) = omega arith in
        let z : 0 + from ≡ from = omega arith in
        ap (λ n. run f.N s (payloads_in f p 0 n)) e
        ∙ ap (run f.N s) (payloads-split 0 from (n - from))
        ∙ then-went f.N s s (payloads_in f p 0 from) (payloads_in f p (0 + from) (n - from)) (payloads-none s 0 from (λ j a b. plain s j (omega arith) (inl (omega arith))))
        ∙ ap (λ i. run f.N s (payloads_in f p i (n - from))) z
        ∙ ap (λ k. run f.N s (payloads_in f p from k)) k
        ∙ ap (run f.N s) (payloads-split from (to - from) (n - to))
        ∙ go (run f.N s (payloads_in f p from (to - from))) refl
      where
        go : (o : Outcome) → run f.N s (payloads_in f p from (to - from)) ≡ o
            → run f.N s (payloads_in f p from (to - from) ++ payloads_in f p (from + (to - from)) (n - to)) ≡ run f.N s (payloads_in f p from (to - from))
        go (went s') e =
            then-went f.N s s' (payloads_in f p from (to - from)) (payloads_in f p (from + (to - from)) (n - to)) e
            ∙ payloads-none s' (from + (to - from)) (n - to) (λ j a b. plain s' j (omega arith) (inr (omega arith)))
            ∙ sym e
        go (refused x q) e = then-refused f.N s x q (payloads_in f p from (to - from)) (payloads_in f p (from + (to - from)) (n - to)) e ∙ sym e

    pub payloads-all : (s : State) → run f.N s (payloads_in f p 0 n) ≡ run f.N s (payloads_in f p from (to - from))
    unfolding payloads_in
    payloads-all s = ⊎_elim (λ (h : to < from). over h) (λ (h : from ≤ to). payloads-up s h) (lt-or-ge to from)
      where
        over : to < from → run f.N s (payloads_in f p 0 n) ≡ run f.N s (payloads_in f p from (to - from))
        over h =
            let z : to - from ≡ 0 = omega arith in
            payloads-none s 0 n (λ j a b. plain s j (omega arith) (⊎_elim (λ (l : j < from). inl l) (λ (g : from ≤ j). inr (omega arith)) (lt-or-ge j from)))
            ∙ sym (ap (λ k. run f.N s (payloads_in f p from k)) z ∙ run_none f.N s)

  -- those of i..to, as the code goes
  module _ (i to : ℕ) (s : State) where
    pub payloads-end : to ≤ i → run f.N s (payloads_in f p i (to - i)) ≡ went s
    unfolding payloads_in
    payloads-end h = let e : to - i ≡ 0 = omega arith in rw e (run_none f.N s)

    module _ (h : i < to) where
      payloads-next : payloads_in f p i (to - i) ≡ payload_events f p (f.cell p i) ++ payloads_in f p (i + 1) (to - (i + 1))
      unfolding payloads_in
      payloads-next = let e : to - i ≡ suc (to - (i + 1)) = omega arith in rw e

      pub payloads-go : (s₁ : State) → run f.N s (payload_events f p (f.cell p i)) ≡ went s₁
          → run f.N s (payloads_in f p i (to - i)) ≡ run f.N s₁ (payloads_in f p (i + 1) (to - (i + 1)))
      payloads-go s₁ e = ap (run f.N s) payloads-next ∙ then-went f.N s s₁ (payload_events f p (f.cell p i)) _ e

      pub payloads-stop : (x q : ℕ) → run f.N s (payload_events f p (f.cell p i)) ≡ refused x q → run f.N s (payloads_in f p i (to - i)) ≡ refused x q
      payloads-stop x q e = ap (run f.N s) payloads-next ∙ then-refused f.N s x q (payload_events f p (f.cell p i)) _ e
