-- Laws of spans.
--     holds-, cover-, within-, total-    one span, and lists of them
--     once-apart                         where each byte lies in at most one span, no two share a byte
--     gaps, tiles                        the bytes in no span and the spans' lengths add up to u - start
-- Assumes nothing.
use mathlib.Core.Path.{◌≡◌, refl, ap}
use mathlib.Core.Bool.{and-false}
use mathlib.Core.List.{List, [], ◌∷◌, ◌++◌}
use mathlib.Core.Logic.{◌⊎◌, inl, inr, ⊎_elim}
use Prim.Native.Nat.{ℕ, zero, suc, ◌+◌, ◌-◌, ◌≤◌, ◌<◌, min}
use native.Mathlib.Decide.{dec_lt, dec_le}
use native.Mathlib.Omega.{arith}
use borrow.Author.Tests.{lt-ltb, le-ltb, le-leb, lt-leb, ne_eqb}
use lib.Dec.{leb, eqb}
use Rattle.page.specs.Sound.{Span, Within, AllWithin, one, holds, cover, zeros}
use Rattle.page.specs.Steps.{total, Falls}

pub order : (j i : ℕ) → (j < i) ⊎ ((j ≡ i) ⊎ (i < j))
order j i = go (dec_lt j i) (dec_lt i j)
  where
    go : Dec (j < i) → Dec (i < j) → (j < i) ⊎ ((j ≡ i) ⊎ (i < j))
    go (yes p) d = inl p
    go (no n) (yes q) = inr (inr q)
    go (no n) (no m) = inr (inl (omega arith))

-- ---- one span
pub holds-in : (s : Span) (j : ℕ) → s.from ≤ j → j < s.end → holds s j ≡ 1
unfolding holds
holds-in s j p q = rw (le-leb s.from j p, lt-ltb j s.end q)

pub holds-below : (s : Span) (j : ℕ) → j < s.from → holds s j ≡ 0
unfolding holds
holds-below s j p = rw (lt-leb s.from j p)

pub holds-past : (s : Span) (j : ℕ) → s.end ≤ j → holds s j ≡ 0
unfolding holds
holds-past s j p = rw (le-ltb j s.end p) (ap one (and-false (leb s.from j)))

-- a byte is in a span, or it is not
pub sides : (s : Span) (j : ℕ) → ((s.from ≤ j) × (j < s.end)) ⊎ ((j < s.from) ⊎ (s.end ≤ j))
sides s j = go (dec_le s.from j) (dec_lt j s.end)
  where
    go : Dec (s.from ≤ j) → Dec (j < s.end) → ((s.from ≤ j) × (j < s.end)) ⊎ ((j < s.from) ⊎ (s.end ≤ j))
    go (yes p) (yes q) = inl (p, q)
    go (yes p) (no n) = inr (inr (omega arith))
    go (no n) d = inr (inl (omega arith))

-- ---- lists of spans
pub total-append : (ss ts : List Span) → total (ss ++ ts) ≡ total ss + total ts
total-append [] ts = omega arith
total-append (s ∷ ss) ts = omega (arith, total-append ss ts)

module _ (start u : ℕ) where
  pub within-left : (ss ts : List Span) → AllWithin start u (ss ++ ts) → AllWithin start u ss
  within-left [] ts p = tt
  within-left (s ∷ ss) ts p = (p.0, within-left ss ts p.1)

  pub within-right : (ss ts : List Span) → AllWithin start u (ss ++ ts) → AllWithin start u ts
  within-right [] ts p = p
  within-right (s ∷ ss) ts p = within-right ss ts p.1

-- ---- apart
-- no byte lies in both
pub record Apart (s t : Span) : Type 0 where
  pub none : (j : ℕ) → s.from ≤ j → j < s.end → t.from ≤ j → j < t.end → ⊥

abbrev pub EachApart : Span → List Span → Type 0
EachApart s [] = Unit {0}
EachApart s (t ∷ ts) = Apart s t × EachApart s ts

abbrev pub AllApart : List Span → Type 0
AllApart [] = Unit {0}
AllApart (s ∷ ss) = EachApart s ss × AllApart ss

once-each : (start u : ℕ) (s : Span) (ts : List Span) → Within start u s → ((j : ℕ) → start ≤ j → j < u → holds s j + cover ts j ≤ 1) → EachApart s ts
unfolding cover
once-each start u s [] w h = tt
once-each start u s (t ∷ ts) w h = (
  record { none = λ j p q p' q'. omega (arith, w.low, w.high, holds-in s j p q, holds-in t j p' q', h j (omega (arith, w.low)) (omega (arith, w.high))) },
  once-each start u s ts w (λ j l m. omega (arith, h j l m)),
)

pub once-apart : (start u : ℕ) (ss : List Span) → AllWithin start u ss → ((j : ℕ) → start ≤ j → j < u → cover ss j ≤ 1) → AllApart ss
unfolding cover
once-apart start u [] w h = tt
once-apart start u (s ∷ ss) w h =
    (once-each start u s ss w.0 h, once-apart start u ss w.1 (λ j l m. omega (arith, h j l m)))

-- ---- counting twice
sum : (ℕ → ℕ) → ℕ → ℕ → ℕ
sum f a zero = 0
sum f a (suc k) = sum f a k + f (a + k)

zero-or-one : (n : ℕ) → n ≤ 1 → one (eqb n 0) + n ≡ 1
zero-or-one zero h = omega arith
zero-or-one (suc n) h = rw (ne_eqb (suc n) 0 (λ e. omega arith)) (omega arith)

-- f is 0 or 1: the zeros and the ones are all
zeros-sum : (f : ℕ → ℕ) (a k : ℕ) → ((j : ℕ) → a ≤ j → j < a + k → f j ≤ 1) → zeros f a k + sum f a k ≡ k
unfolding sum zeros
zeros-sum f a zero h = omega arith
zeros-sum f a (suc k) h =
    omega (arith, zeros-sum f a k (λ j l m. h j l (omega arith)), zero-or-one (f (a + k)) (h (a + k) (omega arith) (omega arith)))

sum-add : (f g h : ℕ → ℕ) (a k : ℕ) → ((j : ℕ) → h j ≡ f j + g j) → sum h a k ≡ sum f a k + sum g a k
unfolding sum
sum-add f g h a zero e = omega arith
sum-add f g h a (suc k) e = omega (arith, sum-add f g h a k e, e (a + k))

sum-none : (a k : ℕ) → sum (cover []) a k ≡ 0
unfolding sum cover
sum-none a zero = refl
sum-none a (suc k) = omega (arith, sum-none a k)

sum_one : (s : Span) (a k : ℕ) → a ≤ s.from → s.from ≤ s.end → sum (holds s) a k ≡ min s.end (a + k) - min s.from (a + k)
unfolding sum
sum_one s a zero p q = omega arith
sum_one s a (suc k) p q =
    ⊎_elim
    (λ w. omega (arith, sum_one s a k p q, holds-in s (a + k) w.0 w.1, w.0, w.1))
    (⊎_elim
    (λ l. omega (arith, sum_one s a k p q, holds-below s (a + k) l))
    (λ l. omega (arith, sum_one s a k p q, holds-past s (a + k) l)))
    (sides s (a + k))

sum-all : (start u : ℕ) (ss : List Span) → start ≤ u → AllWithin start u ss → sum (cover ss) start (u - start) ≡ total ss
unfolding cover
sum-all start u [] l w = sum-none start (u - start)
sum-all start u (s ∷ ss) l w =
    let first = sum_one s start (u - start) w.0.low w.0.order in
    let both = sum-add (holds s) (cover ss) (cover (s ∷ ss)) start (u - start) (λ j. refl) in
    omega (arith, first, both, sum-all start u ss l w.1, w.0.high, w.0.order)

pub gaps :
    (start u : ℕ) (ss : List Span) → start ≤ u → AllWithin start u ss → ((j : ℕ) → start ≤ j → j < u → cover ss j ≤ 1) →
    zeros (cover ss) start (u - start) + total ss ≡ u - start
gaps start u ss l w h =
    omega (arith, zeros-sum (cover ss) start (u - start) (λ j p q. h j p (omega arith)), sum-all start u ss l w)

-- each byte counts at least 1, as a zero or by the spans it lies in
one-least : (n : ℕ) → 1 ≤ one (eqb n 0) + n
one-least zero = omega arith
one-least (suc n) = omega arith

zeros-least : (f : ℕ → ℕ) (a k : ℕ) → k ≤ zeros f a k + sum f a k
unfolding sum zeros
zeros-least f a zero = omega arith
zeros-least f a (suc k) = omega (arith, zeros-least f a k, one-least (f (a + k)))

-- and where all together count no more than the bytes, each counts 1
zeros-tight : (f : ℕ → ℕ) (a k : ℕ) → zeros f a k + sum f a k ≤ k → (j : ℕ) → a ≤ j → j < a + k → f j ≤ 1
unfolding sum zeros
zeros-tight f a zero h j l m = absurd (omega arith)
zeros-tight f a (suc k) h j l m =
    ⊎_elim
    (λ q. zeros-tight f a k (omega (arith, one-least (f (a + k)))) j l q)
    (⊎_elim (λ e. rw e (omega (arith, zeros-least f a k))) (λ q. absurd (omega arith)))
    (order j (a + k))

-- lengths that leave `fragments` bytes, and no more than these in no span: then no byte lies in two spans
pub tiles :
    (start u fragments : ℕ) (ss : List Span) → start ≤ u → AllWithin start u ss → total ss + fragments ≡ u - start →
    zeros (cover ss) start (u - start) ≤ fragments → ((j : ℕ) → start ≤ j → j < u → cover ss j ≤ 1) × (zeros (cover ss) start (u - start) ≡ fragments)
tiles start u fragments ss l w e h = (
  λ j p q. zeros-tight (cover ss) start (u - start) (omega (arith, sum-all start u ss l w)) j p (omega arith),
  omega (arith, zeros-least (cover ss) start (u - start), sum-all start u ss l w),
)

-- ---- spans that fall
falls-high : (low : ℕ) (start u : ℕ) (ss : List Span) → AllWithin start u ss → Falls low ss → (j : ℕ) → low ≤ j → cover ss j ≡ 0
unfolding cover
falls-high low start u [] w f j l = refl
falls-high low start u (s ∷ ss) w f j l =
    omega (arith, holds-past s j (omega (arith, f.0)), falls-high s.from start u ss w.1 f.1 j (omega (arith, f.0, w.0.order)))

pub falls-once : (low : ℕ) (start u : ℕ) (ss : List Span) → AllWithin start u ss → Falls low ss → (j : ℕ) → cover ss j ≤ 1
unfolding cover
falls-once low start u [] w f j = omega arith
falls-once low start u (s ∷ ss) w f j =
    ⊎_elim
    (λ v. omega (arith, holds-in s j v.0 v.1, falls-high s.from start u ss w.1 f.1 j v.0))
    (⊎_elim
    (λ l. omega (arith, holds-below s j l, falls-once s.from start u ss w.1 f.1 j))
    (λ l. omega (arith, holds-past s j l, falls-once s.from start u ss w.1 f.1 j)))
    (sides s j)
