-- The test `soundb` is true exactly where the page is sound.
-- Assumes nothing.
use mathlib.Core.Path.{◌≡◌, refl}
use mathlib.Core.Bool.{Bool, true, false, cond, ◌&&◌, ◌||◌, false≢true}
use mathlib.Core.List.{List, [], ◌∷◌, ◌++◌}
use mathlib.Core.Logic.{◌⊎◌, inl, inr, ⊎_elim, ◌↔◌}
use Prim.Native.Nat.{ℕ, zero, suc, ◌+◌, ◌-◌, ◌≤◌, ◌<◌}
use native.Mathlib.Omega.{arith}
use borrow.Author.Tests.{eqb-true, eqb-false, leb-true, ltb-true, le-leb, lt-ltb, eq-eqb, ne_eqb}
use lib.Dec.{ltb, eqb}
use Rattle.number.proofs.Cases.{true-or-false}
use Rattle.page.specs.Header.{first_freeblock, cell_count, content_start, fragment_bytes, array_end}
use Rattle.page.specs.Sound.{Span, block_next, block_size, block_span, Freeblock, Freeblocks, AllWithin, cover}
use Rattle.page.specs.Sound.{cell_spans, Sound, freeblockb, freeblocks, freeblocksb, all_withinb, onceb, soundb, fragment_limit}
use Rattle.page.proofs.Spans.{order}

pub and_split : (a b : Bool) → (a && b) ≡ true → (a ≡ true) × (b ≡ true)
and_split true b e = (refl, e)
and_split false b e = absurd (false≢true e)

pub and-join : (a b : Bool) → a ≡ true → b ≡ true → (a && b) ≡ true
and-join a b e f = rw (e, f)

pub or_split : (a b : Bool) → (a || b) ≡ true → (a ≡ true) ⊎ (b ≡ true)
or_split true b e = inl refl
or_split false b e = inr e

pub or_left : (a b : Bool) → a ≡ true → (a || b) ≡ true
or_left a b e = rw e

pub or_right : (a b : Bool) → b ≡ true → (a || b) ≡ true
or_right true b e = refl
or_right false b e = e

-- ---- spans
module _ (start u : ℕ) where
  within_of : (ss : List Span) → all_withinb start u ss ≡ true → AllWithin start u ss
  unfolding all_withinb
  within_of [] e = tt
  within_of (s ∷ ss) e =
      let a = and_split _ _ e in
      let b = and_split _ _ a.1 in
      let c = and_split _ _ b.1 in
      (record { low = leb-true _ _ a.0; order = leb-true _ _ b.0; high = leb-true _ _ c.0 }, within_of ss c.1)

  of-within : (ss : List Span) → AllWithin start u ss → all_withinb start u ss ≡ true
  unfolding all_withinb
  of-within [] w = refl
  of-within (s ∷ ss) w =
      rw (le-leb start s.from w.0.low, le-leb s.from s.end w.0.order, le-leb s.end u w.0.high) (of-within ss w.1)

module _ (f : ℕ → ℕ) (a : ℕ) where
  once-of : (k : ℕ) → onceb f a k ≡ true → (j : ℕ) → a ≤ j → j < a + k → f j ≤ 1
  unfolding onceb
  once-of zero e j l h = absurd (omega arith)
  once-of (suc k) e j l h =
      let b = and_split _ _ e in
      ⊎_elim
      (λ q. once-of k b.1 j l q)
      (⊎_elim (λ q. rw q (leb-true _ _ b.0)) (λ q. absurd (omega arith)))
      (order j (a + k))

  of-once : (k : ℕ) → ((j : ℕ) → a ≤ j → j < a + k → f j ≤ 1) → onceb f a k ≡ true
  unfolding onceb
  of-once zero h = refl
  of-once (suc k) h =
      rw (le-leb (f (a + k)) 1 (h (a + k) (omega arith) (omega arith))) (of-once k (λ j l q. h j l (omega arith)))

-- ---- freeblocks
module _ (p : List ℕ) (u : ℕ) where
  block_of : (at : ℕ) → (at ≡ 0 → ⊥) → freeblockb p u at ≡ true → Freeblock p u at (block_span p at)
  block_of at x e =
      let a = and_split _ _ e in
      let b = and_split _ _ a.1 in
      record { there = positive at x; head = leb-true _ _ a.0; size = leb-true _ _ b.0; rises = last (block_next p at) b.1; is = refl }
    where
      positive : (n : ℕ) → (n ≡ 0 → ⊥) → 0 < n
      positive n h = omega arith

      last : (next : ℕ) → (eqb next 0 || ltb at next) ≡ true → 0 < next → at < next
      last zero h q = absurd (omega arith)
      last (suc n) h q = ltb-true at (suc n) (rw (ne_eqb (suc n) 0 (λ (z : suc n ≡ 0). omega arith)) at h)

  of-block : (at : ℕ) (s : Span) → Freeblock p u at s → freeblockb p u at ≡ true
  of-block at s b =
      rw (le-leb (at + 4) u b.head, le-leb 4 (block_size p at) b.size) (last (block_next p at) b.rises)
    where
      last : (next : ℕ) → (0 < next → at < next) → (eqb next 0 || ltb at next) ≡ true
      last zero h = refl
      last (suc n) h = or_right (eqb (suc n) 0) (ltb at (suc n)) (lt-ltb at (suc n) (h (omega arith)))

  free_of : (left at : ℕ) → freeblocksb left p u at ≡ true → Freeblocks p u at (freeblocks left p at)
  unfolding freeblocksb freeblocks
  free_of zero at e = eqb-true _ _ e
  free_of (suc left) at e = go (free_of left (block_next p at)) (true-or-false (eqb at 0))
    where
      go :
          (freeblocksb left p u (block_next p at) ≡ true → Freeblocks p u (block_next p at) (freeblocks left p (block_next p at))) →
          (eqb at 0 ≡ true) ⊎ (eqb at 0 ≡ false) → Freeblocks p u at (cond (eqb at 0) [] (block_span p at ∷ freeblocks left p (block_next p at)))
      go next (inl z) = rw z (eqb-true _ _ z)
      go next (inr x) =
          let b = and_split (freeblockb p u at) (freeblocksb left p u (block_next p at)) (rw x at e) in
          rw x (block_of at (eqb-false _ _ x) b.0, next b.1)

  -- offsets rise, so u freeblocks are enough
  of-free : (left at : ℕ) (ss : List Span) → Freeblocks p u at ss → (0 < at → u < left + at) → (freeblocksb left p u at ≡ true) × (freeblocks left p at ≡ ss)
  unfolding freeblocksb freeblocks
  of-free zero at [] c h = (eq-eqb at 0 c, refl)
  of-free (suc left) at [] c h = (or_left (eqb at 0) _ (eq-eqb at 0 c), rw (eq-eqb at 0 c))
  of-free zero at (s ∷ ss) c h =
      let b = c.0 in
      let l : u < 0 + at = h b.there in
      absurd (omega arith)
  of-free (suc left) at (s ∷ ss) c h =
      let b = c.0 in
      let l : u < suc left + at = h b.there in
      let r = of-free left (block_next p at) ss c.1 (λ q. let m : at < block_next p at = b.rises q in omega arith) in
      let x : eqb at 0 ≡ false = ne_eqb at 0 (λ (z : at ≡ 0). omega (arith, b.there)) in
      (rw (x, of-block at s b) r.0, rw (x, r.1, ← b.is))

-- ---- the whole
module _ (p : List ℕ) (u head : ℕ) where
  pub test-sound : soundb p u head ≡ true → Sound p u head
  unfolding soundb
  test-sound e =
      let a = and_split _ _ e in
      let b = and_split _ _ a.1 in
      let c = and_split _ _ b.1 in
      let d = and_split _ _ c.1 in
      let f = and_split _ _ d.1 in
      let g = and_split _ _ f.1 in
      record {
        array = leb-true _ _ a.0;
        content = leb-true _ _ b.0;
        few = leb-true _ _ c.0;
        free = freeblocks u p (first_freeblock p head);
        chain = free_of p u u (first_freeblock p head) d.0;
        within = within_of (content_start p head) u _ f.0;
        once = λ j l h.
            once-of (cover (cell_spans p u head 0 (cell_count p head) ++ freeblocks u p (first_freeblock p head)))
            (content_start p head) (u - content_start p head) g.0 j l (omega arith);
        fragments = eqb-true _ _ g.1;
      }

  pub sound-test : Sound p u head → soundb p u head ≡ true
  unfolding soundb
  sound-test s =
      let r = of-free p u u (first_freeblock p head) s.free s.chain (λ q. omega arith) in
      rw (le-leb (array_end p head) (content_start p head) s.array, le-leb (content_start p head) u s.content)
      (rw (le-leb (fragment_bytes p head) fragment_limit s.few, r.0, r.1)
      (and-join _ _ (of-within (content_start p head) u _ s.within)
      (and-join _ _ (of-once _ (content_start p head) (u - content_start p head) (λ j l h. s.once j l (omega (arith, s.content))))
      (eq-eqb _ _ s.fragments))))

  pub sound-exactly : (soundb p u head ≡ true) ↔ Sound p u head
  sound-exactly = (test-sound, sound-test)

  pub not-sound-test : (Sound p u head → ⊥) → soundb p u head ≡ false
  not-sound-test n = ⊎_elim (λ e. absurd (n (test-sound e))) (λ e. e) (true-or-false (soundb p u head))
