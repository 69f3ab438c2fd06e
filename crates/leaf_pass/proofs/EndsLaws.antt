-- Laws of the table of last bytes.
--     marks-, past-set, stopped-    how it is filled
--     gap-, below-, few             as many bytes as its gaps are, at most, lie in no span
--     ends-sound                    then a page whose spans and fragments fill the content is sound
--     marking-                      the loop that marks the freeblocks
--     counting-, summing-           the loops that add up the gaps before cells, before freeblocks
-- Assumes nothing.
use mathlib.Core.Path.{◌≡◌, refl, ap, ◌∙◌}
use mathlib.Core.Bool.{cond}
use mathlib.Core.List.{List, [], ◌∷◌, ◌++◌}
use mathlib.Core.Logic.{◌⊎◌, inl, inr, ⊎_elim}
use Prim.Native.Nat.{ℕ, zero, suc, ◌+◌, ◌-◌, ◌≤◌, ◌<◌}
use native.Mathlib.Decide.{ℕ_discrete, dec_lt}
use native.Mathlib.Nat.{add-zero}
use native.Mathlib.Omega.{arith}
use borrow.Author.Tests.{eq-eqb, ne_eqb, lt-ltb, le-ltb}
use lib.Dec.{ltb}
use lib.ListN.{get_or, set}
use lib.Seq.{get_or-set_other}
use Rattle.page.specs.Header.{first_freeblock, cell_count, content_start, fragment_bytes, array_end, pointer}
use Rattle.page.specs.Sound.{Span, span, block_next, block_size, Freeblock, Freeblocks, cell_spans, cover, zeros, Sound}
use Rattle.page.specs.Steps.{Past, Cleared, Lies, AllLie, Has, Fine, total}
use Rattle.leaf_pass.specs.Ends.{EndsAt, Marks, Stopped, gap_before, gaps_before, Blocks, FreeMarked}
use Rattle.page.proofs.Spans.{total-append, tiles}
use Rattle.page.proofs.Table.{all-within}
use Rattle.page.proofs.Hops.{zeros-past, zeros-most, has-cover}
use Rattle.page.proofs.Cells.{spans-more, spans-none}
use Rattle.page.proofs.Free.{unique, fine-block, fine-lies}

-- ---- spans, one list after another
ends-left : (e : ℕ) (ss ts : List Span) → EndsAt e ss → EndsAt e (ss ++ ts)
ends-left e [] ts h = absurd h
ends-left e (s ∷ ss) ts h = ⊎_elim (λ x. inl x) (λ x. inr (ends-left e ss ts x)) h

ends-right : (e : ℕ) (ss ts : List Span) → EndsAt e ts → EndsAt e (ss ++ ts)
ends-right e [] ts h = h
ends-right e (s ∷ ss) ts h = inr (ends-right e ss ts h)

lie-append : (start u : ℕ) (ss ts : List Span) → AllLie start u ss → AllLie start u ts → AllLie start u (ss ++ ts)
lie-append start u [] ts l k = k
lie-append start u (s ∷ ss) ts l k = (l.0, lie-append start u ss ts l.1 k)

gaps-append : (m : List ℕ) (start : ℕ) (ss ts : List Span) → gaps_before m start (ss ++ ts) ≡ gaps_before m start ss + gaps_before m start ts
unfolding gaps_before
gaps-append m start [] ts = omega arith
gaps-append m start (s ∷ ss) ts = omega (arith, gaps-append m start ss ts)

-- the span that ends there
ends-has : (start u e : ℕ) (ss : List Span) → AllLie start u ss → EndsAt e ss → (a : ℕ) × Has a e ss × (start ≤ a) × (a < e)
ends-has start u e [] l h = absurd h
ends-has start u e (s ∷ ss) l h =
    ⊎_elim
    (λ x. (s.from, inl (refl, x), l.0.low, omega (arith, l.0.least)))
    (λ x. let g = ends-has start u e ss l.1 x in (g.0, inr g.1, g.2, g.3))
    h

-- ---- how the table is filled
module _ (start u : ℕ) where
  marks-append : (m m' m'' : List ℕ) (ss ts : List Span) → Marks start u m m' ss → Marks start u m' m'' ts → Marks start u m m'' (ss ++ ts)
  marks-append m m' m'' ss ts a b =
      record {
        own = λ j l h. ⊎_elim
            (λ e. ⊎_elim (λ d. inl (e ∙ d)) (λ x. inr (ends-left (j + 1) ss ts x)) (a.own j l h))
            (λ x. inr (ends-right (j + 1) ss ts x))
            (b.own j l h);
        before = λ j h. b.before j h ∙ a.before j h;
      }

  marks-none : (m : List ℕ) → Marks start u m m []
  marks-none m = record { own = λ j l h. inl refl; before = λ j h. refl }

  marks-one : (m : List ℕ) (s : Span) → Lies start u s → Marks start u m (set m (s.end - 1) 1) (s ∷ [])
  marks-one m s l =
      record {
        own = λ j a b. here j (ℕ_discrete s.end (j + 1));
        before = λ j h. get_or-set_other m (s.end - 1) j 1 0 (λ (e : j ≡ s.end - 1). omega (arith, l.low, l.least));
      }
    where
      here : (j : ℕ) → Dec (s.end ≡ j + 1) → (get_or (set m (s.end - 1) 1) j 0 ≡ get_or m j 0) ⊎ EndsAt (j + 1) (s ∷ [])
      here j (yes e) = inr (inl e)
      here j (no x) = inl (get_or-set_other m (s.end - 1) j 1 0 (λ (e : j ≡ s.end - 1). x (omega (arith, l.least))))

pub past-set : (m₀ m₁ m₂ : List ℕ) (start u : ℕ) → Cleared m₀ m₁ start u → start ≤ u → 1 ≤ u → Past u (set m₁ (start - 1) 1) m₂ → Past u m₀ m₂
past-set m₀ m₁ m₂ start u c l some h j k = h j k ∙ get_or-set_other m₁ (start - 1) j 1 0 (omega arith) ∙ c.past j k

-- ---- gaps
gap-next : (m : List ℕ) (left at : ℕ) → get_or m (at - 1) 0 ≡ 0 → gap_before m (suc left) at ≡ gap_before m left (at - 1) + 1
unfolding gap_before
gap-next m left at z = rw (eq-eqb (get_or m (at - 1) 0) 0 z)

pub gap-none : (m : List ℕ) (left at : ℕ) → (get_or m (at - 1) 0 ≡ 0 → ⊥) → gap_before m left at ≡ 0
unfolding gap_before
gap-none m zero at x = refl
gap-none m (suc left) at x = rw (ne_eqb (get_or m (at - 1) 0) 0 x)

-- it ends with what is left, or behind a mark
gap-stop : (m : List ℕ) (left at : ℕ) → (gap_before m left at ≡ left) ⊎ ((gap_before m left at < left) × (get_or m (at - gap_before m left at - 1) 0 ≡ 0 → ⊥))
unfolding gap_before
gap-stop m zero at = inl refl
gap-stop m (suc left) at = go (ℕ_discrete (get_or m (at - 1) 0) 0) (gap-stop m left (at - 1))
  where
    go :
        Dec (get_or m (at - 1) 0 ≡ 0) →
        (gap_before m left (at - 1) ≡ left) ⊎ ((gap_before m left (at - 1) < left) × (get_or m (at - 1 - gap_before m left (at - 1) - 1) 0 ≡ 0 → ⊥)) →
        (gap_before m (suc left) at ≡ suc left) ⊎ ((gap_before m (suc left) at < suc left) × (get_or m (at - gap_before m (suc left) at - 1) 0 ≡ 0 → ⊥))
    go (yes z) r =
        let e : at - (gap_before m left (at - 1) + 1) - 1 ≡ at - 1 - gap_before m left (at - 1) - 1 = omega arith in
        rw (gap-next m left at z, e)
        (⊎_elim (λ d. inl (omega arith)) (λ d. inr (omega (arith, d.0), d.1)) r)
    go (no x) r =
        let e : at - 0 - 1 ≡ at - 1 = omega arith in
        rw (gap-none m (suc left) at x, e) (inr (omega arith, x))

-- the loop over the bytes before `at`, the last `gap` of which have no mark
module _ (m : List ℕ) (start at gap : ℕ) (s : Stopped m start) (low : start ≤ at) (h : gap ≤ at - start) (z : get_or m (at - gap - 1) 0 ≡ 0) where
  pub gap-inside : gap < at - start
  gap-inside = go (dec_lt gap (at - start))
    where
      go : Dec (gap < at - start) → gap < at - start
      go (yes l) = l
      go (no x) = let e : at - gap - 1 ≡ start - 1 = omega (arith, s.some) in absurd (s.mark (rw e at z))

  pub gap_more :
      gap_before m (at - start) at ≡ gap + gap_before m (at - start - gap) (at - gap) →
      gap_before m (at - start) at ≡ gap + 1 + gap_before m (at - start - (gap + 1)) (at - (gap + 1))
  gap_more is =
      let l = gap-inside in
      let d : at - start - gap ≡ suc (at - start - (gap + 1)) = omega arith in
      let e : at - gap - 1 ≡ at - (gap + 1) = omega arith in
      let n = rw e at (gap-next m (at - start - (gap + 1)) (at - gap) z) in
      omega (arith, rw d at is, n)

-- ---- what lies in no span
-- the gaps before the spans that begin before e
unfoldable below : List ℕ → (start e : ℕ) → List Span → ℕ
below m start e [] = 0
below m start e (s ∷ ss) = cond (ltb s.from e) (gap_before m (s.from - start) s.from) 0 + below m start e ss

module _ (m : List ℕ) (start : ℕ) where
  below_in : (e : ℕ) (s : Span) (ss : List Span) → s.from < e → below m start e (s ∷ ss) ≡ gap_before m (s.from - start) s.from + below m start e ss
  unfolding below
  below_in e s ss h = rw (lt-ltb s.from e h)

  below_out : (e : ℕ) (s : Span) (ss : List Span) → e ≤ s.from → below m start e (s ∷ ss) ≡ below m start e ss
  unfolding below
  below_out e s ss h = rw (le-ltb s.from e h) (omega arith)

  below_all : (e : ℕ) (ss : List Span) → below m start e ss ≤ gaps_before m start ss
  unfolding below gaps_before
  below_all e [] = omega arith
  below_all e (s ∷ ss) = go (dec_lt s.from e) (below_all e ss)
    where
      go : Dec (s.from < e) → below m start e ss ≤ gaps_before m start ss → below m start e (s ∷ ss) ≤ gaps_before m start (s ∷ ss)
      go (yes h) r = omega (arith, below_in e s ss h)
      go (no h) r = omega (arith, below_out e s ss (omega arith))

  -- one span more, and g beside
  below_step :
      (d e g : ℕ) (s : Span) (ss : List Span) → d ≤ e → below m start d ss + g ≤ below m start e ss → below m start d (s ∷ ss) + g ≤ below m start e (s ∷ ss)
  below_step d e g s ss l r = go (dec_lt s.from d) (dec_lt s.from e)
    where
      go : Dec (s.from < d) → Dec (s.from < e) → below m start d (s ∷ ss) + g ≤ below m start e (s ∷ ss)
      go (yes h) k = omega (arith, below_in d s ss h, below_in e s ss (omega arith))
      go (no h) (yes k) = omega (arith, below_out d s ss (omega arith), below_in e s ss k)
      go (no h) (no k) = omega (arith, below_out d s ss (omega arith), below_out e s ss (omega arith))

  below_more : (d e : ℕ) → d ≤ e → (ss : List Span) → below m start d ss + 0 ≤ below m start e ss
  unfolding below
  below_more d e l [] = omega arith
  below_more d e l (s ∷ ss) = below_step d e 0 s ss l (below_more d e l ss)

  below_span : (d a e : ℕ) → d ≤ a → a < e → (ss : List Span) → Has a e ss → below m start d ss + gap_before m (a - start) a ≤ below m start e ss
  below_span d a e l k [] h = absurd h
  below_span d a e l k (s ∷ ss) h =
      ⊎_elim
      (λ x.
      let g : gap_before m (s.from - start) s.from ≡ gap_before m (a - start) a = rw x.0 refl in
      let f = x.0 in
      omega (arith, below_out d s ss (omega arith), below_in e s ss (omega arith), below_more d e (omega arith) ss))
      (λ x. below_step d e (gap_before m (a - start) a) s ss (omega arith) (below_span d a e l k ss x))
      h

  module _ (u : ℕ) (ss : List Span) (lie : AllLie start u ss) (own : (j : ℕ) → start ≤ j → j < u → (get_or m j 0 ≡ 0) ⊎ EndsAt (j + 1) ss) where
    abbrev gap : ℕ → ℕ
    gap at = gap_before m (at - start) at

    -- where a gap begins is the content start, or the end of a span
    stop-before : (at : ℕ) → start ≤ at → at ≤ u → (gap at ≤ at - start) × ((at - gap at ≡ start) ⊎ EndsAt (at - gap at) ss)
    stop-before at l h =
        ⊎_elim
        (λ e. (omega arith, inl (omega arith)))
        (λ d.
        let e : at - gap at - 1 + 1 ≡ at - gap at = omega (arith, d.0) in
        let o = own (at - gap at - 1) (omega (arith, d.0)) (omega (arith, d.0)) in
        (omega (arith, d.0), inr (rw e at (⊎_elim (λ z. absurd (d.1 z)) (λ x. x) o))))
        (gap-stop m (at - start) at)

    few-gap : (at : ℕ) → start ≤ at → gap at ≤ at - start → zeros (cover ss) start (at - start) ≤ zeros (cover ss) start (at - gap at - start) + gap at
    few-gap at l g =
        let e : at - gap at + gap at ≡ at = omega arith in
        rw e at (zeros-most (cover ss) start (at - gap at) (gap at) (omega arith))

    few-none : (e : ℕ) → e ≡ start → zeros (cover ss) start (e - start) ≤ below m start e ss
    unfolding zeros
    few-none e x =
        let z : e - start ≡ 0 = omega arith in
        rw z (omega arith)

    -- up to the end of a span: none in it, those of the gap before it, and those up to where that begins
    few-to : (k e : ℕ) → e ≤ k → e ≤ u → (e ≡ start) ⊎ EndsAt e ss → zeros (cover ss) start (e - start) ≤ below m start e ss
    few-to zero e l h = ⊎_elim (few-none e) (λ x. absurd (omega (arith, (ends-has start u e ss lie x).3)))
    few-to (suc k) e l h =
        ⊎_elim
        (few-none e)
        (λ x.
        let c = ends-has start u e ss lie x in
        let a = c.0 in
        let low : start ≤ a = c.2 in
        let less : a < e = c.3 in
        let s = stop-before a low (omega arith) in
        let whole : a + (e - a) ≡ e = omega arith in
        let inner = rw whole at (zeros-past (cover ss) start a (e - a) low (λ i p q. has-cover ss a e i c.1 p (omega arith))) in
        let before = few-to k (a - gap a) (omega arith) (omega arith) s.1 in
        omega (arith, inner, few-gap a low s.0, before, below_span (a - gap a) a e (omega arith) less ss c.1))

    few : start ≤ u → zeros (cover ss) start (u - start) ≤ gap u + gaps_before m start ss
    few l =
        let s = stop-before u l (omega arith) in
        omega (arith, few-gap u l s.0, few-to u (u - gap u) (omega arith) (omega arith) s.1, below_all (u - gap u) ss)

-- ---- a page whose spans and fragments fill the content
module _ (p : List ℕ) (u head : ℕ) (m₀ m m' : List ℕ) (free : List Span) where
  abbrev start : ℕ
  start = content_start p head

  abbrev cells : List Span
  cells = cell_spans p u head 0 (cell_count p head)

  pub ends-sound :
      array_end p head ≤ start → start ≤ u → fragment_bytes p head ≤ 60 → ((j : ℕ) → start ≤ j → j < u → get_or m₀ j 0 ≡ 0) → Marks start u m₀ m cells →
      Marks start u m m' free → AllLie start u cells → AllLie start u free → Freeblocks p u (first_freeblock p head) free →
      total cells + total free + fragment_bytes p head ≡ u - start →
      gap_before m' (u - start) u + gaps_before m' start cells + gaps_before m' start free ≡ fragment_bytes p head → Sound p u head
  ends-sound array content low empty a b l k chain sum count =
      let marks = marks-append start u m₀ m m' cells free a b in
      let lie = lie-append start u cells free l k in
      let within = all-within start u (cells ++ free) lie in
      let own : (j : ℕ) → start ≤ j → j < u → (get_or m' j 0 ≡ 0) ⊎ EndsAt (j + 1) (cells ++ free) =
      λ j h i. ⊎_elim (λ e. inl (e ∙ empty j h i)) (λ x. inr x) (marks.own j h i) in
      let t =
      tiles start u (fragment_bytes p head) (cells ++ free) content within
      (omega (arith, total-append cells free))
      (omega (arith, few m' start u (cells ++ free) lie own content, gaps-append m' start cells free)) in
      record { array = array; content = content; few = low; free = free; chain = chain; within = within; once = t.0; fragments = t.1 }

-- ---- the loop that marks freeblocks: whatever becomes of those from `at` on, marked in the table m, becomes of all, marked in the table m₀, with b bytes more
pub record Marking (p : List ℕ) (u start first : ℕ) (m₀ m : List ℕ) (at b : ℕ) : Type 0 where
  pub go : (mf : List ℕ) (k : ℕ) → FreeMarked p start u at m mf k → FreeMarked p start u first m₀ mf (b + k)
  pub past : Past u m₀ m

module _ (p : List ℕ) (u start first : ℕ) (m₀ m : List ℕ) (at b : ℕ) (f : Marking p u start first m₀ m at b) where
  pub marking-done : at ≡ 0 → FreeMarked p start u first m₀ m b
  marking-done e = rw add-zero at (f.go m 0 ([], e, tt, marks-none start u m, refl))

  module _ (some : at ≡ 0 → ⊥) (h : at + 4 ≤ u) (next size : ℕ) (en : next ≡ block_next p at) (es : size ≡ block_size p at)
      (w : Fine start u at next size) where
    pub marking-next : Marking p u start first m₀ (set m (at + size - 1) 1) next (b + size)
    marking-next =
        record {
          go = λ mf k g.
              let e : b + (size + k) ≡ b + size + k = omega arith in
              let block = fine-block start u at next size w p some h en es in
              let lies = fine-lies start u at next size w in
              let one = marks-one start u m (span at (at + size)) lies in
              rw e at
              (f.go mf (size + k)
              (span at (at + size) ∷ g.0, (block, rw en at g.1), (lies, g.2), marks-append start u m _ mf _ g.0 one g.3, omega (arith, g.4)));
          past = λ j l. get_or-set_other m (at + size - 1) j 1 0 (omega (arith, w.high, w.least)) ∙ f.past j l;
        }

-- ---- the loop that adds up the gaps before the cells: those from the ith on are left
pub record Counting (m p : List ℕ) (u head start n gaps most all i : ℕ) : Type 0 where
  pub lie : AllLie start u (cell_spans p u head i (n - i))
  pub sum : all ≤ most → all + gaps_before m start (cell_spans p u head i (n - i)) ≡ gaps + gaps_before m start (cell_spans p u head 0 n)

module _ (m p : List ℕ) (u head start n gaps most all i : ℕ) (f : Counting m p u head start n gaps most all i) where
  pub counting-done : n ≤ i → all ≤ most → all ≡ gaps + gaps_before m start (cell_spans p u head 0 n)
  unfolding gaps_before
  counting-done h l = omega (arith, rw (spans-none p u head i n h) at (f.sum l))

  module _ (h : i < n) (at : ℕ) (is : at ≡ pointer p head i) where
    pub counting-at : (start ≤ at) × (at ≤ u)
    counting-at =
        let l = rw (spans-more p u head i n h) at f.lie in
        (omega (arith, l.0.low), omega (arith, l.0.least, l.0.high))

    pub counting-next : (g : ℕ) → (g ≤ most → g ≡ gap_before m (at - start) at) → Counting m p u head start n gaps most (all + g) (i + 1)
    unfolding gaps_before
    counting-next g e =
        record {
          lie = (rw (spans-more p u head i n h) at f.lie).1;
          sum = λ l. let d = rw is at (e (omega arith)) in omega (arith, d, rw (spans-more p u head i n h) at (f.sum (omega arith)));
        }

-- ---- the loop that adds up the gaps before freeblocks: those from `at` on are left
pub record Summing (m p : List ℕ) (u start first gaps most all at : ℕ) : Type 0 where
  pub blocks : Blocks p start u at
  pub sum :
      (ts : List Span) → Freeblocks p u at ts → (ss : List Span) → Freeblocks p u first ss → all ≤ most →
      all + gaps_before m start ts ≡ gaps + gaps_before m start ss

-- the freeblock at `at`, and those after it
pub record BlockHere (p : List ℕ) (u start at : ℕ) : Type 0 where
  pub block : Freeblock p u at (span at (at + block_size p at))
  pub low : start ≤ at
  pub next : Blocks p start u (block_next p at)

pub summing-all : (m p : List ℕ) (u start first gaps most : ℕ) → Blocks p start u first → Summing m p u start first gaps most gaps first
summing-all m p u start first gaps most b =
    record { blocks = b; sum = λ ts c ss d l. ap (λ (xs : List Span). gaps + gaps_before m start xs) (unique p u first ts ss c d) }

module _ (m p : List ℕ) (u start first gaps most all at : ℕ) (f : Summing m p u start first gaps most all at) where
  pub summing-done : at ≡ 0 → (ss : List Span) → Freeblocks p u first ss → all ≤ most → all ≡ gaps + gaps_before m start ss
  unfolding gaps_before
  summing-done e ss c l = omega (arith, f.sum [] e ss c l)

  module _ (some : at ≡ 0 → ⊥) where
    pub summing-here : BlockHere p u start at
    summing-here = go f.blocks.0 f.blocks.1 f.blocks.2
      where
        go : (ss : List Span) → Freeblocks p u at ss → AllLie start u ss → BlockHere p u start at
        go [] c l = absurd (some c)
        go (s ∷ ss) c l =
            let k = rw c.0.is at l.0 in
            record { block = rw c.0.is at c.0; low = k.low; next = (ss, c.1, l.1) }

    pub summing-next :
        (g next : ℕ) → (g ≤ most → g ≡ gap_before m (at - start) at) → next ≡ block_next p at → Summing m p u start first gaps most (all + g) next
    unfolding gaps_before
    summing-next g next e en =
        let w = summing-here in
        record {
          blocks = rw en w.next;
          sum = λ ts c ss d l. omega (arith, e (omega arith), f.sum (span at (at + block_size p at) ∷ ts) (w.block, rw en at c) ss d (omega arith));
        }
