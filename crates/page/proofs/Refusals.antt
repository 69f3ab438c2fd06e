-- The page's refusal once its type suits, from what the parts of the check did.
-- Assumes nothing.
use mathlib.Core.Path.{◌≡◌, refl, sym, ◌∙◌, subst}
use mathlib.Core.Bool.{Bool, true, false, cond}
use mathlib.Core.List.{List, [], ◌∷◌, ◌++◌, append-nil}
use mathlib.Core.Logic.{◌⊎◌, inl, inr, ⊎_elim}
use Prim.Native.Nat.{ℕ, zero, suc, ◌+◌, ◌-◌, ◌≤◌, ◌<◌}
use native.Mathlib.Decide.{dec_lt}
use native.Mathlib.Omega.{arith}
use borrow.Author.Tests.{eq-eqb, ne_eqb, lt-ltb, le-ltb, le-leb}
use lib.Dec.{leb, ltb}
use Rattle.page.specs.Header.{first_freeblock, cell_count, content_start, fragment_bytes, pointer_place, array_end, pointer, cell_of}
use Rattle.page.specs.Sound.{Span, Freeblocks, AllWithin, cell_spans, cover, zeros, Sound}
use Rattle.page.specs.Fault.{cell_fault, cells_fault, sound_fault}
use Rattle.page.specs.Steps.{AllLie, Written, Falls, Inside, Backed, Counted, AllNoted, FreePlaced, total}
use Rattle.page.proofs.Spans.{within-left, within-right, total-append, once-apart, gaps, tiles, falls-once}
use Rattle.page.proofs.Table.{all-within, written-append, written-lie, written-backed, written-kept}
use Rattle.page.proofs.Hops.{backed-inside}
use Rattle.page.proofs.Free.{unique}
use Rattle.page.proofs.SoundTest.{sound-test, not-sound-test}

module _ (p : List ℕ) (u head : ℕ) where
  -- ---- the definition, way by way
  pub refused-cell : (number : ℕ) → number ≡ cells_fault p u head 0 (cell_count p head) → (number ≡ 0 → ⊥) → number ≡ sound_fault p u head
  unfolding sound_fault
  refused-cell number e x =
      rw (ne_eqb (cells_fault p u head 0 (cell_count p head)) 0 (λ (z : cells_fault p u head 0 (cell_count p head) ≡ 0). x (e ∙ z))) e

  module _ (none : 0 ≡ cells_fault p u head 0 (cell_count p head)) where
    pub refused-rest : (Sound p u head → ⊥) → 23 ≡ sound_fault p u head
    unfolding sound_fault
    refused-rest n = rw (eq-eqb (cells_fault p u head 0 (cell_count p head)) 0 (sym none), not-sound-test p u head n)

    pub refused-not : Sound p u head → 0 ≡ sound_fault p u head
    unfolding sound_fault
    refused-not s = rw (eq-eqb (cells_fault p u head 0 (cell_count p head)) 0 (sym none), sound-test p u head s)

  -- ---- a content start past u
  high-cell : (i : ℕ) → u < content_start p head → cell_fault p u head i ≡ 23
  unfolding cell_fault
  high-cell i h = outer (cell_of p u head i).fault (dec_lt u (pointer_place p head i + 2)) (dec_lt (pointer p head i) (content_start p head))
    where
      outer :
          (x : ℕ) → Dec (u < pointer_place p head i + 2) → Dec (pointer p head i < content_start p head) →
          ◌≡◌ {A = ℕ}
          (cond (ltb u (pointer_place p head i + 2)) 23 (cond (ltb (pointer p head i) (content_start p head)) 23 (cond (leb u (pointer p head i)) 23 x)))
          23
      outer x (yes a) d = rw (lt-ltb u (pointer_place p head i + 2) a)
      outer x (no a) (yes b) = rw (le-ltb u (pointer_place p head i + 2) (omega arith), lt-ltb (pointer p head i) (content_start p head) b)
      outer x (no a) (no b) =
          rw (le-ltb u (pointer_place p head i + 2) (omega arith), le-ltb (pointer p head i) (content_start p head) (omega arith))
          (rw (le-leb u (pointer p head i) (omega arith)) refl)

  high-cells : (k : ℕ) → u < content_start p head → (cells_fault p u head 0 k ≡ 0) ⊎ (cells_fault p u head 0 k ≡ 23)
  unfolding cells_fault
  high-cells zero h = inl refl
  high-cells (suc k) h = inr (rw (high-cell 0 h))

  pub refused-high : u < content_start p head → 23 ≡ sound_fault p u head
  refused-high h =
      ⊎_elim
      (λ e. refused-rest (sym e) (λ s. omega (arith, s.content)))
      (λ e. refused-cell 23 (sym e) (λ z. omega arith))
      (high-cells (cell_count p head) h)

  abbrev cells : List Span
  cells = cell_spans p u head 0 (cell_count p head)

  -- ---- no freeblock, and cells that fall
  pub falls-sound :
      array_end p head ≤ content_start p head → content_start p head ≤ u → fragment_bytes p head ≤ 60 → first_freeblock p head ≡ 0 →
      AllWithin (content_start p head) u cells → Falls u cells → total cells + fragment_bytes p head ≡ u - content_start p head → Sound p u head
  falls-sound array content few none w d q =
      let only : cells ++ [] ≡ cells = append-nil cells in
      let once : (j : ℕ) → content_start p head ≤ j → j < u → cover cells j ≤ 1 = λ j l h. falls-once u (content_start p head) u cells w d j in
      let left : zeros (cover cells) (content_start p head) (u - content_start p head) ≡ fragment_bytes p head =
      omega (arith, gaps (content_start p head) u cells content w once) in
      record {
        array = array;
        content = content;
        few = few;
        free = [];
        chain = none;
        within = rw only w;
        once = λ j l h. rw only (once j l h);
        fragments = rw only left;
      }

  -- ---- what the table says: m with the cells, m' with the freeblocks
  module _ (m m' : List ℕ) (held low : ℕ) (k : AllNoted p u head m held low) (r : Bool) (taken : ℕ)
      (f : FreePlaced p (content_start p head) u (first_freeblock p head) m m' r taken) where
    pub clash-free : r ≡ false → Sound p u head → ⊥
    clash-free q s = f.no q s.free s.chain (within-right (content_start p head) u cells s.free s.within)

    module _ (done : r ≡ true) (content : content_start p head ≤ u) where
      abbrev free : List Span
      free = (f.yes done).0

      written : Written (content_start p head) u k.before m' (cells ++ free)
      written = written-append (content_start p head) u k.before m m' cells free k.written (f.yes done).2

      backed : Backed m' (content_start p head) u (cells ++ free)
      backed = written-backed (content_start p head) u k.before m' (cells ++ free) k.empty written

      within : AllWithin (content_start p head) u (cells ++ free)
      within = all-within (content_start p head) u (cells ++ free) backed.lie

      pub inside : Inside m' (content_start p head) u
      inside = backed-inside m' (content_start p head) u (cells ++ free) backed

      counted : total (cells ++ free) ≡ held + taken
      counted = omega (arith, k.bytes, total-append cells free, (f.yes done).3)

      -- a sound page's freeblocks are those
      same : (s : Sound p u head) → s.free ≡ free
      same s = unique p u (first_freeblock p head) s.free free s.chain (f.yes done).1

      once-of : Sound p u head → (j : ℕ) → content_start p head ≤ j → j < u → cover (cells ++ free) j ≤ 1
      once-of s = subst (λ (ss : List Span). (j : ℕ) → content_start p head ≤ j → j < u → cover (cells ++ ss) j ≤ 1) (same s) s.once

      zeros_of : Sound p u head → zeros (cover (cells ++ free)) (content_start p head) (u - content_start p head) ≡ fragment_bytes p head
      zeros_of s =
          subst (λ (ss : List Span). zeros (cover (cells ++ ss)) (content_start p head) (u - content_start p head) ≡ fragment_bytes p head) (same s) s.fragments

      pub sums-clash : (held + taken + fragment_bytes p head ≡ u - content_start p head → ⊥) → Sound p u head → ⊥
      sums-clash x s =
          x (omega (arith, gaps (content_start p head) u (cells ++ free) content within (once-of s), zeros_of s, counted))

      -- freeblocks that take no bytes are none
      none : (ss : List Span) → AllLie (content_start p head) u ss → taken ≡ total ss → taken ≡ 0 → ss ≡ []
      none [] l e z = refl
      none (s ∷ ss) l e z = absurd (omega (arith, l.0.least))

      pub falls-noted :
          array_end p head ≤ content_start p head → fragment_bytes p head ≤ 60 → held + taken + fragment_bytes p head ≡ u - content_start p head →
          taken ≡ 0 → Falls u cells → Sound p u head
      falls-noted array few q z d =
          let only : free ≡ [] = none free (written-lie (content_start p head) u m m' free (f.yes done).2) (f.yes done).3 z in
          falls-sound array content few (subst (λ (ss : List Span). Freeblocks p u (first_freeblock p head) ss) only (f.yes done).1)
          (within-left (content_start p head) u cells free within) d (omega (arith, k.bytes))

      module _ (count : ℕ) (g : Counted m' (content_start p head) u count) where
        pub gaps-clash : (count ≡ fragment_bytes p head → ⊥) → Sound p u head → ⊥
        gaps-clash x s =
            let apart = once-apart (content_start p head) u (cells ++ free) within (once-of s) in
            let kept = written-kept (content_start p head) u k.before m' (cells ++ free) written apart in
            x (g.exact (cells ++ free) backed kept (once-of s) ∙ zeros_of s)

        pub gaps-sound :
            array_end p head ≤ content_start p head → fragment_bytes p head ≤ 60 → held + taken + fragment_bytes p head ≡ u - content_start p head →
            count ≡ fragment_bytes p head → Sound p u head
        gaps-sound array few q e =
            let t =
            tiles (content_start p head) u (fragment_bytes p head) (cells ++ free) content within
            (omega (arith, counted))
            (omega (arith, g.least (cells ++ free) backed)) in
            record {
              array = array;
              content = content;
              few = few;
              free = free;
              chain = (f.yes done).1;
              within = within;
              once = t.0;
              fragments = t.1;
            }
