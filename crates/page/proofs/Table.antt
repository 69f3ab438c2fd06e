-- Laws of the table of lengths.
--     cleared-, noted-    clearing it, and noting one span
--     written-            spans noted one after the other
-- Assumes nothing.
use mathlib.Core.Path.{◌≡◌, refl, sym, ap, ◌∙◌, subst}
use mathlib.Core.List.{List, [], ◌∷◌, ◌++◌}
use mathlib.Core.Logic.{◌⊎◌, inl, inr, ⊎_elim, ◌≢◌}
use Prim.Native.Nat.{ℕ, zero, ◌+◌, ◌-◌, ◌*◌, ◌/◌, ◌%◌, ◌≤◌, ◌<◌, max}
use native.Mathlib.Decide.{ℕ_discrete}
use native.Mathlib.Omega.{arith}
use borrow.Author.Tests.{eq-eqb, ne_eqb}
use lib.ListN.{length, get_or, set, length-set}
use lib.Seq.{get_or-set_same, get_or-set_other}
use Rattle.page.specs.Sound.{Span, Within, AllWithin}
use Rattle.page.specs.Steps.{Past, Cleared, length_at, Noted, Hop, Lies, AllLie, Written, Has, Kept, Backed}
use Rattle.page.proofs.Spans.{order, EachApart, AllApart}

-- ---- clearing
-- a table of zeros notes nothing
pub cleared-empty : (m m' : List ℕ) (start u : ℕ) → Cleared m m' (start - start % 4) u → (j : ℕ) → start ≤ j → j + 4 ≤ u → length_at m' j ≡ 0
unfolding length_at
cleared-empty m m' start u c j low high =
    let z : get_or m' (j - j % 4) 0 ≡ 0 = c.zero (j - j % 4) (omega arith) (omega arith) in
    rw (ne_eqb (get_or m' (j - j % 4) 0) (j % 4 + 1) (λ (e : get_or m' (j - j % 4) 0 ≡ j % 4 + 1). omega arith))

-- ---- what is read
read_none : (m : List ℕ) (j : ℕ) → (get_or m (j - j % 4) 0 ≡ j % 4 + 1 → ⊥) → length_at m j ≡ 0
unfolding length_at
read_none m j x = rw (ne_eqb (get_or m (j - j % 4) 0) (j % 4 + 1) x)

read_some : (m : List ℕ) (j : ℕ) → get_or m (j - j % 4) 0 ≡ j % 4 + 1 → length_at m j ≡ get_or m (j - j % 4 + 1) 0 + 256 * get_or m (j - j % 4 + 2) 0 + 4
unfolding length_at
read_some m j e = rw (eq-eqb (get_or m (j - j % 4) 0) (j % 4 + 1) e)

read_alike :
    (m m' : List ℕ) (j k : ℕ) → k ≡ j - j % 4 → get_or m' k 0 ≡ get_or m k 0 → get_or m' (k + 1) 0 ≡ get_or m (k + 1) 0 →
    get_or m' (k + 2) 0 ≡ get_or m (k + 2) 0 → length_at m' j ≡ length_at m j
unfolding length_at
read_alike m m' j k e a b c = rw (← e, a, b, c)

pub hop-gap : (m : List ℕ) (j tag : ℕ) → tag ≡ get_or m (j - j % 4) 0 → (tag ≡ j % 4 + 1 → ⊥) → Hop m j 1
hop-gap m j tag e x = record { gap = λ _. read_none m j (λ q. x (e ∙ q)); over = λ y. absurd (y refl) }

pub hop-over :
    (m : List ℕ) (j tag a b : ℕ) → tag ≡ get_or m (j - j % 4) 0 → tag ≡ j % 4 + 1 → a ≡ get_or m (j - j % 4 + 1) 0 → b ≡ get_or m (j - j % 4 + 2) 0 →
    Hop m j (a + 256 * b + 4)
hop-over m j tag a b e t ea eb =
    let r : length_at m j ≡ get_or m (j - j % 4 + 1) 0 + 256 * get_or m (j - j % 4 + 2) 0 + 4 = read_some m j (sym e ∙ t) in
    record { gap = λ q. absurd (omega arith); over = λ _. (omega arith, λ z. omega arith) }

-- ---- noting a span
module _ (m : List ℕ) (at size k : ℕ) (is : k ≡ at - at % 4) (room : at + 4 ≤ length m) (least : 4 ≤ size) where
  abbrev after : List ℕ
  after = set (set (set m k (at % 4 + 1)) (k + 1) ((size - 4) % 256)) (k + 2) ((size - 4) / 256)

  first : get_or after k 0 ≡ at % 4 + 1
  first =
      get_or-set_other (set (set m k (at % 4 + 1)) (k + 1) ((size - 4) % 256)) (k + 2) k ((size - 4) / 256) 0 (omega arith) ∙
      get_or-set_other (set m k (at % 4 + 1)) (k + 1) k ((size - 4) % 256) 0 (omega arith) ∙
      get_or-set_same m k (at % 4 + 1) 0 (omega arith)

  second : get_or after (k + 1) 0 ≡ (size - 4) % 256
  second =
      get_or-set_other (set (set m k (at % 4 + 1)) (k + 1) ((size - 4) % 256)) (k + 2) (k + 1) ((size - 4) / 256) 0 (omega arith) ∙
      get_or-set_same (set m k (at % 4 + 1)) (k + 1) ((size - 4) % 256) 0 (simp length-set (omega arith))

  third : get_or after (k + 2) 0 ≡ (size - 4) / 256
  third =
      get_or-set_same (set (set m k (at % 4 + 1)) (k + 1) ((size - 4) % 256)) (k + 2) ((size - 4) / 256) 0 (simp length-set (omega arith))

  other : (j : ℕ) → (j ≡ k → ⊥) → (j ≡ k + 1 → ⊥) → (j ≡ k + 2 → ⊥) → get_or after j 0 ≡ get_or m j 0
  other j a b c =
      get_or-set_other (set (set m k (at % 4 + 1)) (k + 1) ((size - 4) % 256)) (k + 2) j ((size - 4) / 256) 0 c ∙
      get_or-set_other (set m k (at % 4 + 1)) (k + 1) j ((size - 4) % 256) 0 b ∙
      get_or-set_other m k j (at % 4 + 1) 0 a

  noted_here : length_at after at ≡ size
  noted_here = read_some after at (rw (← is) first) ∙ rw (← is) (omega (arith, second, third))

  noted-near : (j : ℕ) → j - j % 4 ≡ at - at % 4 → (j ≡ at → ⊥) → length_at after j ≡ 0
  noted-near j e x =
      let f : get_or after (j - j % 4) 0 ≡ at % 4 + 1 = rw (e, ← is) first in
      read_none after j (λ (h : get_or after (j - j % 4) 0 ≡ j % 4 + 1). x (omega arith))

  noted-far : (j : ℕ) → (j - j % 4 ≡ at - at % 4 → ⊥) → length_at after j ≡ length_at m j
  noted-far j x =
      let y : j - j % 4 ≢ k = λ e. x (e ∙ is) in
      read_alike m after j (j - j % 4) refl
      (other (j - j % 4) (λ e. x (e ∙ is)) (λ e. omega arith) (λ e. omega arith))
      (other (j - j % 4 + 1) (λ e. omega arith) (λ e. omega arith) (λ e. omega arith))
      (other (j - j % 4 + 2) (λ e. omega arith) (λ e. omega arith) (λ e. omega arith))

  pub noted-all : Noted m after at size
  noted-all =
      record {
        here = noted_here;
        near = noted-near;
        far = noted-far;
        past = λ j h. other j (λ e. omega arith) (λ e. omega arith) (λ e. omega arith);
      }

-- ---- spans noted one after the other
lies_within : (start u : ℕ) (s : Span) → Lies start u s → Within start u s
lies_within start u s l = record { low = l.low; order = omega (arith, l.least); high = l.high }

pub all-within : (start u : ℕ) (ss : List Span) → AllLie start u ss → AllWithin start u ss
all-within start u [] l = tt
all-within start u (s ∷ ss) l = (lies_within start u s l.0, all-within start u ss l.1)

module _ (start u : ℕ) where
  pub written-append : (m m' m'' : List ℕ) (ss ts : List Span) → Written start u m m' ss → Written start u m' m'' ts → Written start u m m'' (ss ++ ts)
  written-append m m' m'' [] ts e v = subst (λ (l : List ℕ). Written start u l m'' ts) e v
  written-append m m' m'' (s ∷ ss) ts w v = (w.0, w.1, w.2, written-append w.0 m' m'' ss ts w.3 v)

  pub written-lie : (m m' : List ℕ) (ss : List Span) → Written start u m m' ss → AllLie start u ss
  written-lie m m' [] w = tt
  written-lie m m' (s ∷ ss) w = (w.1, written-lie w.0 m' ss w.3)

  pub written-past : (m m' : List ℕ) (ss : List Span) → Written start u m m' ss → Past u m m'
  written-past m m' [] e j h = ap (λ (l : List ℕ). get_or l j 0) e
  written-past m m' (s ∷ ss) w j h =
      written-past w.0 m' ss w.3 j h ∙ w.2.past j (omega (arith, w.1.least, w.1.high))

  -- what is noted at j: what was there, or nothing, or one of the spans
  written-cases :
      (m m' : List ℕ) (ss : List Span) → Written start u m m' ss → (j : ℕ) →
      (length_at m' j ≡ length_at m j) ⊎ ((length_at m' j ≡ 0) ⊎ Has j (j + length_at m' j) ss)
  written-cases m m' [] e j = inl (ap (λ (l : List ℕ). length_at l j) e)
  written-cases m m' (s ∷ ss) w j =
      ⊎_elim
      (λ e. here e (ℕ_discrete j s.from) (ℕ_discrete (j - j % 4) (s.from - s.from % 4)))
      (⊎_elim (λ z. inr (inl z)) (λ h. inr (inr (inr h))))
      (written-cases w.0 m' ss w.3 j)
    where
      here :
          length_at m' j ≡ length_at w.0 j → Dec (j ≡ s.from) → Dec (j - j % 4 ≡ s.from - s.from % 4) →
          (length_at m' j ≡ length_at m j) ⊎ ((length_at m' j ≡ 0) ⊎ Has j (j + length_at m' j) (s ∷ ss))
      here e (yes i) d =
          let q : length_at m' j ≡ s.end - s.from = e ∙ rw i w.2.here in
          inr (inr (inl (sym i, omega (arith, w.1.least))))
      here e (no x) (yes i) = inr (inl (e ∙ w.2.near j i x))
      here e (no x) (no y) = inl (e ∙ w.2.far j y)

  pub written-backed : (m m' : List ℕ) (ss : List Span) → ((j : ℕ) → start ≤ j → j + 4 ≤ u → length_at m j ≡ 0) → Written start u m m' ss → Backed m' start u ss
  written-backed m m' ss empty w =
      record {
        lie = written-lie m m' ss w;
        backs = λ j l h. ⊎_elim (λ e. inl (e ∙ empty j l h)) (λ c. c) (written-cases m m' ss w j);
      }

  -- spans apart from s leave what is noted of it
  kept-one :
      (m m' : List ℕ) (ss : List Span) → Written start u m m' ss → (s : Span) → Lies start u s → EachApart s ss →
      length_at m' s.from ≡ length_at m s.from
  kept-one m m' [] e s l a = ap (λ (l : List ℕ). length_at l s.from) e
  kept-one m m' (t ∷ ts) w s l a =
      kept-one w.0 m' ts w.3 s l a.1 ∙
      w.2.far s.from
      (λ e. a.0.none (max s.from t.from) (omega arith) (omega (arith, l.least)) (omega arith) (omega (arith, w.1.least)))

  pub written-kept : (m m' : List ℕ) (ss : List Span) → Written start u m m' ss → AllApart ss → Kept m' ss
  written-kept m m' [] w a = tt
  written-kept m m' (s ∷ ss) w a =
      (kept-one w.0 m' ss w.3 s w.1 a.0 ∙ w.2.here, written-kept w.0 m' ss w.3 a.1)
