-- Laws of the hops over the table of lengths.
-- Assumes nothing.
use mathlib.Core.Path.{◌≡◌, refl, sym, ◌∙◌}
use mathlib.Core.List.{List, [], ◌∷◌}
use mathlib.Core.Logic.{◌⊎◌, inl, inr, ⊎_elim}
use Prim.Native.Nat.{ℕ, zero, suc, ◌+◌, ◌-◌, ◌≤◌, ◌<◌}
use native.Mathlib.Nat.{add-zero}
use native.Mathlib.Omega.{arith}
use borrow.Author.Tests.{eq-eqb, ne_eqb}
use lib.Dec.{eqb}
use Rattle.page.specs.Sound.{Span, one, cover, zeros}
use Rattle.page.specs.Steps.{length_at, Hop, AllLie, Has, Kept, Inside, Backed, Counted}
use Rattle.page.proofs.Spans.{order, holds-in, holds-below, holds-past, EachApart, AllApart, once-apart}
use Rattle.page.proofs.Table.{all-within}

-- ---- counting zeros
one-most : (n : ℕ) → one (eqb n 0) ≤ 1
one-most zero = omega arith
one-most (suc n) = rw (ne_eqb (suc n) 0 (λ e. omega arith)) (omega arith)

zeros-next : (f : ℕ → ℕ) (a j : ℕ) → a ≤ j → zeros f a (j + 1 - a) ≡ zeros f a (j - a) + one (eqb (f j) 0)
unfolding zeros
zeros-next f a j l =
    let e : j + 1 - a ≡ suc (j - a) = omega arith in
    let d : a + (j - a) ≡ j = omega arith in
    rw (e, d)

-- over n bytes from j on that f takes past 0, or to 0
pub zeros-past : (f : ℕ → ℕ) (a j n : ℕ) → a ≤ j → ((i : ℕ) → j ≤ i → i < j + n → 1 ≤ f i) → zeros f a (j + n - a) ≡ zeros f a (j - a)
zeros-past f a j zero l h = rw add-zero
zeros-past f a j (suc n) l h =
    let e : j + suc n - a ≡ j + n + 1 - a = omega arith in
    let p : 1 ≤ f (j + n) = h (j + n) (omega arith) (omega arith) in
    let q : one (eqb (f (j + n)) 0) ≡ 0 = rw (ne_eqb (f (j + n)) 0 (λ (z : f (j + n) ≡ 0). omega arith)) in
    rw e (omega (arith, zeros-next f a (j + n) (omega arith), zeros-past f a j n l (λ i p q. h i p (omega arith))))

zeros-all : (f : ℕ → ℕ) (a j n : ℕ) → a ≤ j → ((i : ℕ) → j ≤ i → i < j + n → f i ≡ 0) → zeros f a (j + n - a) ≡ zeros f a (j - a) + n
zeros-all f a j zero l h = rw add-zero (omega arith)
zeros-all f a j (suc n) l h =
    let e : j + suc n - a ≡ j + n + 1 - a = omega arith in
    let q : one (eqb (f (j + n)) 0) ≡ 1 = rw (eq-eqb (f (j + n)) 0 (h (j + n) (omega arith) (omega arith))) in
    rw e (omega (arith, zeros-next f a (j + n) (omega arith), zeros-all f a j n l (λ i p q. h i p (omega arith))))

pub zeros-most : (f : ℕ → ℕ) (a j n : ℕ) → a ≤ j → zeros f a (j + n - a) ≤ zeros f a (j - a) + n
zeros-most f a j zero l = rw add-zero (omega arith)
zeros-most f a j (suc n) l =
    let e : j + suc n - a ≡ j + n + 1 - a = omega arith in
    rw e (omega (arith, zeros-next f a (j + n) (omega arith), one-most (f (j + n)), zeros-most f a j n l))

-- ---- one of the spans
pub has-cover : (ss : List Span) (a e i : ℕ) → Has a e ss → a ≤ i → i < e → 1 ≤ cover ss i
unfolding cover
has-cover [] a e i h p q = absurd h
has-cover (s ∷ ss) a e i h p q =
    ⊎_elim
    (λ x. omega (arith, holds-in s i (omega (arith, x.0)) (omega (arith, x.1))))
    (λ x. omega (arith, has-cover ss a e i x p q))
    h

has-high : (start u : ℕ) (ss : List Span) (a e : ℕ) → AllLie start u ss → Has a e ss → e ≤ u
has-high start u [] a e l h = absurd h
has-high start u (s ∷ ss) a e l h =
    ⊎_elim (λ x. omega (arith, x.1, l.0.high)) (λ x. has-high start u ss a e l.1 x) h

pub backed-inside : (m : List ℕ) (start u : ℕ) (ss : List Span) → Backed m start u ss → Inside m start u
backed-inside m start u ss b =
    record { stops = λ j l h. ⊎_elim (λ z. omega arith) (λ x. has-high start u ss j (j + length_at m j) b.lie x) (b.backs j l h) }

has-apart : (s : Span) (ss : List Span) (a e i : ℕ) → EachApart s ss → Has a e ss → s.from ≤ i → i < s.end → a ≤ i → i < e → ⊥
has-apart s [] a e i x h p q p' q' = h
has-apart s (t ∷ ts) a e i x h p q p' q' =
    ⊎_elim
    (λ y. x.0.none i p q (omega (arith, y.0)) (omega (arith, y.1)))
    (λ y. has-apart s ts a e i x.1 y p q p' q')
    h

-- ---- no span begins before j and ends after it
abbrev Cut : (j : ℕ) → List Span → Type 0
Cut j [] = Unit {0}
Cut j (s ∷ ss) = ((s.end ≤ j) ⊎ (j ≤ s.from)) × Cut j ss

cut-start : (start u : ℕ) (ss : List Span) → AllLie start u ss → Cut start ss
cut-start start u [] l = tt
cut-start start u (s ∷ ss) l = (inr l.0.low, cut-start start u ss l.1)

-- where nothing is noted no span begins
cut-gap : (m : List ℕ) (start u : ℕ) (ss : List Span) (j : ℕ) → AllLie start u ss → Kept m ss → Cut j ss → length_at m j ≡ 0 → (cover ss j ≡ 0) × Cut (j + 1) ss
unfolding cover
cut-gap m start u [] j l k c z = (refl, tt)
cut-gap m start u (s ∷ ss) j l k c z =
    let r = cut-gap m start u ss j l.1 k.1 c.1 z in
    ⊎_elim
    (λ p. (omega (arith, holds-past s j p, r.0), (inl (omega arith), r.1)))
    (λ p.
    let q : j < s.from = after p (order j s.from) in
    (omega (arith, holds-below s j q, r.0), (inr (omega arith), r.1)))
    c.0
  where
    after : j ≤ s.from → (j < s.from) ⊎ ((j ≡ s.from) ⊎ (s.from < j)) → j < s.from
    after p =
        ⊎_elim
        (λ q. q)
        (⊎_elim (λ e. let y : length_at m s.from ≡ 0 = rw (← e) z in absurd (omega (arith, k.0, l.0.least))) (λ q. absurd (omega arith)))

-- past one of the spans, where they are apart
cut-each : (start u : ℕ) (s : Span) (ts : List Span) (j e : ℕ) → j ≤ e → s.from ≡ j → s.end ≡ e → AllLie start u ts → EachApart s ts → Cut j ts → Cut e ts
cut-each start u s [] j e o p q l a c = tt
cut-each start u s (t ∷ ts) j e o p q l a c = (
  ⊎_elim
      (λ x. inl (omega arith))
      (λ x. ⊎_elim
      (λ y. absurd (a.0.none t.from (omega arith) (omega arith) (omega arith) (omega (arith, l.0.least))))
      (⊎_elim (λ y. inr (omega arith)) (λ y. inr (omega arith)))
      (order t.from e))
      c.0,
  cut-each start u s ts j e o p q l.1 a.1 c.1,
)

cut-span : (start u : ℕ) (ss : List Span) (j e : ℕ) → j ≤ e → AllLie start u ss → AllApart ss → Has j e ss → Cut j ss → Cut e ss
cut-span start u [] j e o l a h c = tt
cut-span start u (s ∷ ss) j e o l a h c =
    ⊎_elim
    (λ x. (inl (omega (arith, x.1)), cut-each start u s ss j e o x.0 x.1 l.1 a.0 c.1))
    (λ x. (⊎_elim (λ p. inl (omega arith)) (λ p. beyond x p (order s.from e)) c.0, cut-span start u ss j e o l.1 a.1 x c.1))
    h
  where
    beyond : Has j e ss → j ≤ s.from → (s.from < e) ⊎ ((s.from ≡ e) ⊎ (e < s.from)) → (s.end ≤ e) ⊎ (e ≤ s.from)
    beyond x p =
        ⊎_elim
        (λ q. absurd (has-apart s ss j e s.from a.0 x (omega arith) (omega (arith, l.0.least)) p q))
        (⊎_elim (λ q. inr (omega arith)) (λ q. inr (omega arith)))

-- the last bytes, too few for a span
cut-end : (start u : ℕ) (ss : List Span) (j i : ℕ) → AllLie start u ss → Cut j ss → u < j + 4 → j ≤ i → cover ss i ≡ 0
unfolding cover
cut-end start u [] j i l c h p = refl
cut-end start u (s ∷ ss) j i l c h p =
    ⊎_elim
    (λ q. omega (arith, holds-past s i (omega arith), cut-end start u ss j i l.1 c.1 h p))
    (λ q. absurd (omega (arith, l.0.least, l.0.high)))
    c.0

-- ---- the loop: what the hops from a to j left
abbrev Once : (a e : ℕ) → List Span → Type 0
Once a e ss = (j : ℕ) → a ≤ j → j < e → cover ss j ≤ 1

pub record Hopped (m : List ℕ) (a e gaps j : ℕ) : Type 0 where
  pub least : (ss : List Span) → Backed m a e ss → zeros (cover ss) a (j - a) ≤ gaps
  pub exact : (ss : List Span) → Backed m a e ss → Kept m ss → Once a e ss → (gaps ≡ zeros (cover ss) a (j - a)) × Cut j ss

pub hopped-none : (m : List ℕ) (a e : ℕ) → Hopped m a e 0 a
unfolding zeros
hopped-none m a e =
    let z : a - a ≡ 0 = omega arith in
    record { least = λ ss b. rw z (omega arith); exact = λ ss b k o. (rw z, cut-start a e ss b.lie) }

module _ (m : List ℕ) (a e gaps j : ℕ) (f : Hopped m a e gaps j) (low : a ≤ j) where
  pub hopped-gap : length_at m j ≡ 0 → Hopped m a e (gaps + 1) (j + 1)
  hopped-gap z =
      record {
        least = λ ss b. omega (arith, f.least ss b, zeros-next (cover ss) a j low, one-most (cover ss j));
        exact = λ ss b k o.
            let g = f.exact ss b k o in
            let r = cut-gap m a e ss j b.lie k g.1 z in
            let q : one (eqb (cover ss j) 0) ≡ 1 = rw (eq-eqb (cover ss j) 0 r.0) in
            (omega (arith, g.0, zeros-next (cover ss) a j low), r.1);
      }

  module _ (high : j + 4 ≤ e) (n : ℕ) (is : n ≡ length_at m j) (some : n ≡ 0 → ⊥) where
    has_here : (ss : List Span) → Backed m a e ss → Has j (j + n) ss
    has_here ss b = rw is (⊎_elim (λ z. absurd (some (is ∙ z))) (λ h. h) (b.backs j low high))

    same : (ss : List Span) → Backed m a e ss → zeros (cover ss) a (j + n - a) ≡ zeros (cover ss) a (j - a)
    same ss b = zeros-past (cover ss) a j n low (λ i p q. has-cover ss j (j + n) i (has_here ss b) p q)

    pub hopped-span : Hopped m a e gaps (j + n)
    hopped-span =
        record {
          least = λ ss b. omega (arith, f.least ss b, same ss b);
          exact = λ ss b k o.
              let g = f.exact ss b k o in
              let apart = once-apart a e ss (all-within a e ss b.lie) o in
              (omega (arith, g.0, same ss b), cut-span a e ss j (j + n) (omega arith) b.lie apart (has_here ss b) g.1);
        }

  module _ (close : e < j + 4) (high : j ≤ e) where
    pub hopped-end : Counted m a e (gaps + (e - j))
    hopped-end =
        let d : j + (e - j) ≡ e = omega arith in
        record {
          least = λ ss b. omega (arith, f.least ss b, rw d at (zeros-most (cover ss) a j (e - j) low));
          exact = λ ss b k o.
              let g = f.exact ss b k o in
              omega (arith, g.0, rw d at (zeros-all (cover ss) a j (e - j) low (λ i p q. cut-end a e ss j i b.lie g.1 close p)));
        }

-- a turn of the loop
pub record Turn (m : List ℕ) (a e j gaps step : ℕ) : Type 0 where
  pub moves : 0 < step
  pub stops : j + step ≤ e
  pub counts : gaps + a ≤ j + step
  pub hopped : Hopped m a e gaps (j + step)

module _ (m : List ℕ) (a e gaps j : ℕ) (f : Hopped m a e gaps j) (low : a ≤ j) (few : gaps + a ≤ j) (high : j + 4 ≤ e) (i : Inside m a e)
    (step : ℕ) (h : Hop m j step) where
  pub turn : (gaps' : ℕ) → ((step ≡ 1) × (gaps' ≡ gaps + 1)) ⊎ ((step ≡ 1 → ⊥) × (gaps' ≡ gaps)) → Turn m a e j gaps' step
  turn gaps' =
      ⊎_elim
      (λ w. record {
        moves = omega (arith, w.0);
        stops = omega (arith, w.0);
        counts = omega (arith, w.0, w.1);
        hopped = rw (w.1, w.0) (hopped-gap m a e gaps j f low (h.gap w.0));
      })
      (λ w.
      let o = h.over w.0 in
      let some : step ≡ 0 → ⊥ = λ z. o.1 (sym o.0 ∙ z) in
      record {
        moves = omega arith;
        stops = omega (arith, o.0, i.stops j low high);
        counts = omega (arith, w.1);
        hopped = rw w.1 (hopped-span m a e gaps j f low high step o.0 some);
      })
