-- A way up the namers and back: each way out of the functions, over plain variables.
use mathlib.Core.Path.{◌≡◌, sym, ap, ◌∙◌, subst}
use mathlib.Core.Logic.{◌≢◌, ◌⊎◌, inl, inr, ⊎_elim}
use mathlib.Core.List.{List}
use Prim.Native.Nat.{ℕ, suc, ◌+◌, ◌-◌, ◌≤◌, ◌<◌}
use native.Mathlib.Decide.{ℕ_discrete}
use native.Mathlib.Omega.{arith}
use lib.ListN.{length, get_or, set, replicate, length-set, length-replicate, get_or-replicate}
use lib.Seq.{get_or-set_same, get_or-set_other, ext_get_or}
use Rattle.dealing.specs.Steps.{namer_by, step_by, steps_by, Rooted}
use Rattle.dealing.proofs.Stepped.{step-most, step-none, steps-long, steps-at}
use Rattle.steps.specs.Known.{entry, Right, Some, After, Entering}

-- a page that has a namer, which is then one of the n pages
module _ (ns : List ℕ) (n q : ℕ) (r : Rooted ns n) (low : 1 ≤ q) (high : q ≤ n) where
  pub up_next : (up : ℕ) → up ≡ namer_by ns q → up ≢ 0 → step_by ns n q ≡ suc (step_by ns n up)
  up_next up e h = r.next q low high (λ z. h (e ∙ z)) ∙ ap (λ x. suc (step_by ns n x)) (sym e)

  pub up-high : (up : ℕ) → up ≡ namer_by ns q → up ≤ n
  up-high up e = omega (arith, r.range q low high)

  -- a page with a step has one
  pub up-some : step_by ns n q ≢ 0 → namer_by ns q ≢ 0
  up-some h z = h (step-none ns n q z)

-- from page p the climb has come to page q
pub record Climbing (ns : List ℕ) (n p q count : ℕ) : Type 0 where
  pub low : 1 ≤ q
  pub high : q ≤ n
  pub sum : count + step_by ns n q ≡ step_by ns n p

module _ {ns : List ℕ} {n p q count : ℕ} (c : Climbing ns n p q count) where
  pub climb-top : namer_by ns q ≡ 0 → count ≡ step_by ns n p
  climb-top z = omega (arith, c.sum, step-none ns n q z)

  pub climb-known : (ss : List ℕ) → Some ns n ss → entry ss q ≢ 0 → count + entry ss q ≡ step_by ns n p
  climb-known ss s h = ⊎_elim (λ z. absurd (h z)) (λ e. omega (arith, c.sum, e)) (s.each q c.low c.high)

  pub climb-fits : (ss : List ℕ) → Some ns n ss → entry ss q ≢ 0 → count + entry ss q ≤ n
  climb-fits ss s h = omega (arith, climb-known ss s h, step-most ns n p)

  module _ (r : Rooted ns n) (up : ℕ) (e : up ≡ namer_by ns q) (h : up ≢ 0) where
    pub climb-small : count + 1 ≤ n
    climb-small = omega (arith, c.sum, up_next ns n q r c.low c.high up e h, step-most ns n p)

-- the step of a page that has a namer, by the namer's
module _ {ns : List ℕ} {n p : ℕ} (r : Rooted ns n) (one : 1 ≤ p) (most : p ≤ n) (up : ℕ) (e : up ≡ namer_by ns p) (h : up ≢ 0) where
  pub below_step : (step : ℕ) → step ≡ step_by ns n up → step + 1 ≡ step_by ns n p
  below_step step k = omega (arith, up_next ns n p r one most up e h)

  pub step_fits : (step : ℕ) → step ≡ step_by ns n up → step < n
  step_fits step k = omega (arith, below_step step k, step-most ns n p)

  -- as its entry has it
  module _ {ss : List ℕ} (s : Some ns n ss) where
    above : (entry ss up ≡ 0) ⊎ Right ns n ss up
    above = s.each up (omega arith) (up-high ns n p r one most up e)

    pub entry-fits : entry ss up < n
    entry-fits = ⊎_elim (λ (z : entry ss up ≡ 0). omega arith) (λ z. step_fits _ z) above

-- what was 0 or right stays so, and what was right
pub after-some : {ns : List ℕ} {n : ℕ} {ss ss' : List ℕ} → Some ns n ss → After ns n ss ss' → Some ns n ss'
after-some s a =
    record {
      long = a.long ∙ s.long;
      each = λ p l h. ⊎_elim (λ e. ⊎_elim (λ z. inl (e ∙ z)) (λ z. inr (e ∙ z)) (s.each p l h)) (λ e. inr e) (a.each p l h);
    }

pub after-right : {ns : List ℕ} {n : ℕ} {ss ss' : List ℕ} → After ns n ss ss' → (p : ℕ) → 1 ≤ p → p ≤ n → Right ns n ss p → Right ns n ss' p
after-right a p l h e = ⊎_elim (λ k. k ∙ e) (λ k. k) (a.each p l h)

-- on the way back up from page p: its steps and those of the pages below q are entered
pub record Laying (ns : List ℕ) (n : ℕ) (ss₀ : List ℕ) (p : ℕ) (ss : List ℕ) (q left : ℕ) : Type 0 where
  pub low : 1 ≤ q
  pub high : q ≤ n
  pub left_is : left ≡ step_by ns n q
  pub after : After ns n ss₀ ss
  pub done : (q ≡ p) ⊎ Right ns n ss p

module _ {ns : List ℕ} {n : ℕ} {ss₀ : List ℕ} {p : ℕ} {ss : List ℕ} {q left : ℕ} (one : 1 ≤ p) (most : p ≤ n) (s : Some ns n ss₀)
    (c : Laying ns n ss₀ p ss q left) where
  module _ (r : Rooted ns n) (h : left ≢ 0) where
    up_is : namer_by ns q ≢ 0
    up_is = up-some ns n q r c.low c.high (λ z. h (c.left_is ∙ z))

    put : (x : ℕ) → 1 ≤ x → x ≤ n → (x ≡ q) ⊎ (entry (set ss (q - 1) left) x ≡ entry ss x)
    put x l m = go (ℕ_discrete x q)
      where
        go : Dec (x ≡ q) → (x ≡ q) ⊎ (entry (set ss (q - 1) left) x ≡ entry ss x)
        go (yes e) = inl e
        go (no k) = inr (get_or-set_other ss (q - 1) (x - 1) left 0 (λ e. k (omega (arith, c.low))))

    here : Right ns n (set ss (q - 1) left) q
    here = get_or-set_same ss (q - 1) left 0 (omega (arith, c.low, c.high, c.after.long, s.long)) ∙ c.left_is

    pub lay-more : (up : ℕ) → up ≡ namer_by ns q → Laying ns n ss₀ p (set ss (q - 1) left) up (left - 1)
    lay-more up e =
        let k : up ≢ 0 = λ z. up_is (sym e ∙ z) in
        record {
          low = omega arith;
          high = up-high ns n q r c.low c.high up e;
          left_is = omega (arith, c.left_is, up_next ns n q r c.low c.high up e k);
          after = record {
            long = simp length-set c.after.long;
            each =
                λ x l m. ⊎_elim (λ e. inr (subst (Right ns n (set ss (q - 1) left)) (sym e) here))
                (λ e. ⊎_elim (λ z. inl (e ∙ z)) (λ z. inr (e ∙ z)) (c.after.each x l m)) (put x l m);
          };
          done = inr (⊎_elim (λ (e : q ≡ p). subst (Right ns n (set ss (q - 1) left)) e here) (λ e. kept e) c.done);
        }
      where
        kept : Right ns n ss p → Right ns n (set ss (q - 1) left) p
        kept e = ⊎_elim (λ (k : p ≡ q). subst (Right ns n (set ss (q - 1) left)) (sym k) here) (λ k. k ∙ e) (put p one most)

-- the pages 1 to p have their steps, and `last` is that of page p
pub record Filling (ns : List ℕ) (n : ℕ) (ss : List ℕ) (p last : ℕ) : Type 0 where
  pub high : p ≤ n
  pub some : Some ns n ss
  pub right : (x : ℕ) → 1 ≤ x → x ≤ p → Right ns n ss x
  pub last_is : 0 < p → last ≡ step_by ns n p

pub fill-starts : (ns : List ℕ) (n : ℕ) (ss : List ℕ) → ss ≡ replicate n 0 → Filling ns n ss 0 0
fill-starts ns n ss e =
    record {
      high = omega arith;
      some = record {
        long = ap length e ∙ length-replicate n 0;
        each = λ p a b. inl (ap (λ (x : List ℕ). entry x p) e ∙ get_or-replicate n (p - 1) 0 0 (omega arith));
      };
      right = λ x a b. absurd (omega arith);
      last_is = λ a. absurd (omega arith);
    }

-- page p + 1 is entered next, in a ledger with m entries
module _ {ns : List ℕ} {n m : ℕ} {ss : List ℕ} {p last : ℕ} (c : Filling ns n ss p last) (l : p < n) (e : m ≡ n) where
  pub fill-next : Rooted ns n → n < 4294967296 → Entering ns m ss (p + 1) × (1 < p + 1 → last ≡ step_by ns m (p + 1 - 1))
  fill-next r few =
      subst (λ (k : ℕ). Entering ns k ss (p + 1) × (1 < p + 1 → last ≡ step_by ns k (p + 1 - 1))) (sym e)
      (record { rooted = r; few = few; some = c.some; low = omega arith; high = omega arith }, λ a. c.last_is (omega arith) ∙ ap (step_by ns n) (omega arith))

  pub fill_more : {ss' : List ℕ} {step : ℕ} → After ns m ss ss' × Right ns m ss' (p + 1) × (step ≡ step_by ns m (p + 1)) → Filling ns n ss' (p + 1) step
  fill_more {ss'} {step} f =
      let g = subst (λ (k : ℕ). After ns k ss ss' × Right ns k ss' (p + 1) × (step ≡ step_by ns k (p + 1))) e f in
      record {
        high = omega arith;
        some = after-some c.some g.0;
        right = λ x b d. right g.0 g.1 x b d (ℕ_discrete x (p + 1));
        last_is = λ a. g.2;
      }
    where
      right : After ns n ss ss' → Right ns n ss' (p + 1) → (x : ℕ) → 1 ≤ x → x ≤ p + 1 → Dec (x ≡ p + 1) → Right ns n ss' x
      right a h x b d (yes k) = subst (Right ns n ss') (sym k) h
      right a h x b d (no k) = after-right a x b (omega arith) (c.right x b (omega arith))

pub fill-ends : {ns : List ℕ} {n : ℕ} {ss : List ℕ} {p last : ℕ} → Filling ns n ss p last → n ≤ p → ss ≡ steps_by ns n
fill-ends {ns} {n} {ss} {p} c l =
    let m = c.some.long in
    ext_get_or 0 ss (steps_by ns n) (m ∙ sym (steps-long ns n n))
    (λ i b.
    let e : suc i - 1 ≡ i = omega arith in
    subst (λ j. get_or ss j 0 ≡ get_or (steps_by ns n) j 0) e
    (c.right (suc i) (omega arith) (omega arith) ∙ sym (steps-at ns n n (suc i) (omega arith) (omega arith))))
