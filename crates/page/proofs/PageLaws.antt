-- What a page that was checked gives its callers.
--     page-none            no refusal: the type suits, and no refusal of a cell, and sound
--     Checks, page-checks  what then holds of the page and of each of its cells
--     answer-page, answer-refused    what the check's answer says
--     sound-known          a refusal other than 22 is 23 or 26
-- Assumes nothing.
use mathlib.Core.Path.{◌≡◌, refl}
use mathlib.Core.Bool.{true, false, cond}
use mathlib.Core.List.{List, ◌++◌}
use mathlib.Core.Logic.{◌⊎◌, inl, inr, ◌↔◌}
use Prim.Native.Nat.{ℕ, zero, suc, ◌+◌, ◌≤◌, ◌<◌}
use native.Mathlib.Nat.{add-zero}
use native.Mathlib.Omega.{arith}
use borrow.Author.Tests.{eqb-true, eqb-false, ltb-false, leb-false, eq-eqb, le-ltb, lt-leb}
use lib.Dec.{leb, ltb, eqb}
use Rattle.number.proofs.Cases.{true-or-false, by_cond}
use Rattle.cell.proofs.CellLaws.{CellRead, cell-read, cell-fault}
use Rattle.page.specs.declared.Place.{Place}
use Rattle.page.specs.Checked.{Refused, Page}
use Rattle.page.specs.Header.{page_type, cell_count, content_start, right_pointer, pointer_place, array_end, pointer, cell_of}
use Rattle.page.specs.Place.{allowed}
use Rattle.page.specs.Sound.{Span, cell_span, cell_spans, Sound, soundb}
use Rattle.page.specs.Fault.{cell_fault, cells_fault, sound_fault, page_fault, checked_of}
use Rattle.page.proofs.Spans.{Apart, EachApart, AllApart, once-apart}
use Rattle.page.proofs.SoundTest.{test-sound, sound-test}

-- ---- cells
module _ (p : List ℕ) (u head : ℕ) where
  -- no refusal among k cells: none of each
  pub faults-none : (i k : ℕ) → cells_fault p u head i k ≡ 0 → (j : ℕ) → j < k → cell_fault p u head (i + j) ≡ 0
  unfolding cells_fault
  faults-none i zero e j h = absurd (omega arith)
  faults-none i (suc k) e j h = go (faults-none (i + 1) k) (true-or-false (eqb (cell_fault p u head i) 0)) j h
    where
      go :
          (cells_fault p u head (i + 1) k ≡ 0 → (j : ℕ) → j < k → cell_fault p u head (i + 1 + j) ≡ 0) →
          (eqb (cell_fault p u head i) 0 ≡ true) ⊎ (eqb (cell_fault p u head i) 0 ≡ false) → (j : ℕ) → j < suc k → cell_fault p u head (i + j) ≡ 0
      go f (inl z) zero l = rw add-zero (eqb-true _ _ z)
      go f (inl z) (suc j) l =
          let d : i + 1 + j ≡ i + suc j = omega arith in
          rw d at (f (rw z at e) j (omega arith))
      go f (inr x) j l = absurd (eqb-false _ _ x (rw x at e))

  pub none-faults : (i k : ℕ) → ((j : ℕ) → j < k → cell_fault p u head (i + j) ≡ 0) → cells_fault p u head i k ≡ 0
  unfolding cells_fault
  none-faults i zero f = refl
  none-faults i (suc k) f =
      let z : cell_fault p u head i ≡ 0 = rw add-zero at (f 0 (omega arith)) in
      rw (eq-eqb (cell_fault p u head i) 0 z)
      (none-faults (i + 1) k (λ j l. let d : i + suc j ≡ i + 1 + j = omega arith in rw d at (f (suc j) (omega arith))))

  -- a cell with no refusal: its pointer stands before u and lies from the content start to below u, and the cell was read
  pub record CellLies (i : ℕ) : Type 0 where
    pub place : pointer_place p head i + 2 ≤ u
    pub low : content_start p head ≤ pointer p head i
    pub below : pointer p head i < u
    pub fault : (cell_of p u head i).fault ≡ 0

  pub cell_lies : (i : ℕ) → cell_fault p u head i ≡ 0 → CellLies i
  unfolding cell_fault
  cell_lies i e = place (true-or-false (ltb u (pointer_place p head i + 2)))
    where
      below :
          ltb u (pointer_place p head i + 2) ≡ false → ltb (pointer p head i) (content_start p head) ≡ false →
          (leb u (pointer p head i) ≡ true) ⊎ (leb u (pointer p head i) ≡ false) → CellLies i
      below a b (inl c) = absurd (let d : 23 ≡ 0 = rw (a, b, c) at e in omega arith)
      below a b (inr c) =
          record { place = ltb-false _ _ a; low = ltb-false _ _ b; below = leb-false _ _ c; fault = rw (a, b, c) at e }

      low :
          ltb u (pointer_place p head i + 2) ≡ false →
          (ltb (pointer p head i) (content_start p head) ≡ true) ⊎ (ltb (pointer p head i) (content_start p head) ≡ false) → CellLies i
      low a (inl b) = absurd (let d : 23 ≡ 0 = rw (a, b) at e in omega arith)
      low a (inr b) = below a b (true-or-false (leb u (pointer p head i)))

      place : (ltb u (pointer_place p head i + 2) ≡ true) ⊎ (ltb u (pointer_place p head i + 2) ≡ false) → CellLies i
      place (inl a) = absurd (let d : 23 ≡ 0 = rw a at e in omega arith)
      place (inr a) = low a (true-or-false (ltb (pointer p head i) (content_start p head)))

  pub lies-cell : (i : ℕ) → CellLies i → cell_fault p u head i ≡ 0
  unfolding cell_fault
  lies-cell i c =
      rw (le-ltb u (pointer_place p head i + 2) c.place, le-ltb (pointer p head i) (content_start p head) c.low)
      (rw (lt-leb u (pointer p head i) c.below) c.fault)

  -- ---- cells apart
  each_at : (s : Span) (ts : List Span) (i k b : ℕ) → EachApart s (cell_spans p u head i k ++ ts) → b < k → Apart s (cell_span p u head (i + b))
  unfolding cell_spans
  each_at s ts i zero b h l = absurd (omega arith)
  each_at s ts i (suc k) zero h l = rw add-zero h.0
  each_at s ts i (suc k) (suc b) h l =
      let d : i + 1 + b ≡ i + suc b = omega arith in
      rw d at (each_at s ts (i + 1) k b h.1 (omega arith))

  all-at :
      (ts : List Span) (i k a b : ℕ) → AllApart (cell_spans p u head i k ++ ts) → a < b → b < k →
      Apart (cell_span p u head (i + a)) (cell_span p u head (i + b))
  unfolding cell_spans
  all-at ts i zero a b h l m = absurd (omega arith)
  all-at ts i (suc k) a zero h l m = absurd (omega arith)
  all-at ts i (suc k) zero (suc b) h l m =
      let d : i + 1 + b ≡ i + suc b = omega arith in
      rw (add-zero, ← d) (each_at (cell_span p u head i) ts (i + 1) k b h.0 (omega arith))
  all-at ts i (suc k) (suc a) (suc b) h l m =
      let d : i + 1 + a ≡ i + suc a = omega arith in
      let e : i + 1 + b ≡ i + suc b = omega arith in
      rw (← d, ← e) (all-at ts (i + 1) k a b h.1 (omega arith) (omega arith))

  -- ---- the page
  pub sound_none : (sound_fault p u head ≡ 0) ↔ (((i : ℕ) → i < cell_count p head → CellLies i) × Sound p u head)
  unfolding sound_fault
  sound_none = (λ e. to e (true-or-false (eqb (cells_fault p u head 0 (cell_count p head)) 0)) (true-or-false (soundb p u head)), from)
    where
      index : (i : ℕ) → 0 + i ≡ i
      index i = omega arith

      to :
          cond (eqb (cells_fault p u head 0 (cell_count p head)) 0) (cond (soundb p u head) 0 23) (cells_fault p u head 0 (cell_count p head)) ≡ 0 →
          (eqb (cells_fault p u head 0 (cell_count p head)) 0 ≡ true) ⊎ (eqb (cells_fault p u head 0 (cell_count p head)) 0 ≡ false) →
          (soundb p u head ≡ true) ⊎ (soundb p u head ≡ false) → ((i : ℕ) → i < cell_count p head → CellLies i) × Sound p u head
      to e (inl z) (inl s) =
          (λ i l. cell_lies i (rw (index i) at (faults-none 0 (cell_count p head) (eqb-true _ _ z) i l)), test-sound p u head s)
      to e (inl z) (inr n) = absurd (let d : 23 ≡ 0 = rw (z, n) at e in omega arith)
      to e (inr x) s = absurd (eqb-false _ _ x (rw x at e))

      from :
          ((i : ℕ) → i < cell_count p head → CellLies i) × Sound p u head →
          cond (eqb (cells_fault p u head 0 (cell_count p head)) 0) (cond (soundb p u head) 0 23) (cells_fault p u head 0 (cell_count p head)) ≡ 0
      from g =
          let none = none-faults 0 (cell_count p head) (λ j l. rw (index j) (lies-cell j (g.0 j l))) in
          rw (eq-eqb (cells_fault p u head 0 (cell_count p head)) 0 none, sound-test p u head g.1)

  -- what holds of a page with no 23 and no 26, and of each of its cells
  pub record Checks : Type 0 where
    pub sound : Sound p u head
    pub array : array_end p head ≤ u
    pub cell : (i : ℕ) → i < cell_count p head → CellLies i
    pub read : (i : ℕ) → i < cell_count p head → CellRead p u (page_type p head) (pointer p head i) (cell_of p u head i)
    pub apart : (i j : ℕ) → i < j → j < cell_count p head → Apart (cell_span p u head i) (cell_span p u head j)

  pub sound-checks : 480 ≤ u → sound_fault p u head ≡ 0 → Checks
  sound-checks h e =
      let g = sound_none.0 e in
      let s = g.1 in
      record {
        sound = s;
        array = omega (arith, s.array, s.content);
        cell = g.0;
        read = λ i l. cell-read p u (page_type p head) (pointer p head i) h (g.0 i l).fault;
        apart = λ i j l m. apart i j
            (all-at s.free 0 (cell_count p head) i j (once-apart (content_start p head) u _ s.within s.once) l m);
      }
    where
      apart : (i j : ℕ) → Apart (cell_span p u head (0 + i)) (cell_span p u head (0 + j)) → Apart (cell_span p u head i) (cell_span p u head j)
      apart i j a =
          let d : 0 + i ≡ i = omega arith in
          let e : 0 + j ≡ j = omega arith in
          rw (d, e) at a

-- ---- refusals by number
abbrev pub Known : ℕ → Type 0
Known n = (n ≡ 0) ⊎ ((n ≡ 23) ⊎ (n ≡ 26))

module _ (p : List ℕ) (u head : ℕ) (h : 480 ≤ u) where
  pub cell-known : (i : ℕ) → Known (cell_fault p u head i)
  unfolding cell_fault
  cell-known i =
      by_cond Known (ltb u (pointer_place p head i + 2)) _ _ (λ _. inr (inl refl))
      (λ _. by_cond Known (ltb (pointer p head i) (content_start p head)) _ _ (λ _. inr (inl refl))
      (λ _. by_cond Known (leb u (pointer p head i)) _ _ (λ _. inr (inl refl))
      (λ _. cell-fault p u (page_type p head) (pointer p head i) h)))

  cells-known : (i k : ℕ) → Known (cells_fault p u head i k)
  unfolding cells_fault
  cells-known i zero = inl refl
  cells-known i (suc k) =
      by_cond Known (eqb (cell_fault p u head i) 0) _ _ (λ _. cells-known (i + 1) k) (λ _. cell-known i)

  pub sound-known : Known (sound_fault p u head)
  unfolding sound_fault
  sound-known =
      by_cond Known (eqb (cells_fault p u head 0 (cell_count p head)) 0) _ _
      (λ _. by_cond Known (soundb p u head) _ _ (λ _. inl refl) (λ _. inr (inl refl)))
      (λ _. cells-known 0 (cell_count p head))

module _ (place : Place) (p : List ℕ) (u head : ℕ) where
  -- no refusal: the type suits, and there is no 23 or 26
  pub page-none : (page_fault place p u head ≡ 0) ↔ ((allowed place (page_type p head) ≡ true) × (sound_fault p u head ≡ 0))
  unfolding page_fault
  page-none = (to (true-or-false (allowed place (page_type p head))), λ g. rw g.0 g.1)
    where
      to :
          (allowed place (page_type p head) ≡ true) ⊎ (allowed place (page_type p head) ≡ false) →
          cond (allowed place (page_type p head)) (sound_fault p u head) 22 ≡ 0 → (allowed place (page_type p head) ≡ true) × (sound_fault p u head ≡ 0)
      to (inl a) e = (a, rw a at e)
      to (inr a) e = absurd (let d : 22 ≡ 0 = rw a at e in omega arith)

  pub page-checks : 480 ≤ u → page_fault place p u head ≡ 0 → Checks p u head
  page-checks h e = sound-checks p u head h (page-none.0 e).1

  -- ---- what the check's answer says
  -- the page was not refused
  pub record Accepts (kind count right : ℕ) : Type 0 where
    pub none : page_fault place p u head ≡ 0
    pub suits : allowed place (page_type p head) ≡ true
    pub kind_is : kind ≡ page_type p head
    pub count_is : count ≡ cell_count p head
    pub right_is : right ≡ right_pointer p head

  pub answer-page : (kind count right : ℕ) → Page kind count right ≡ checked_of place p u head → Accepts kind count right
  answer-page kind count right e = go (true-or-false (eqb (page_fault place p u head) 0))
    where
      go : (eqb (page_fault place p u head) 0 ≡ true) ⊎ (eqb (page_fault place p u head) 0 ≡ false) → Accepts kind count right
      go (inl z) =
          let d : Page kind count right ≡ Page (page_type p head) (cell_count p head) (right_pointer p head) = rw z at e in
          record {
            none = eqb-true _ _ z;
            suits = (page-none.0 (eqb-true _ _ z)).0;
            kind_is = cc;
            count_is = cc;
            right_is = cc;
          }
      go (inr x) =
          let d : Page kind count right ≡ Refused (page_fault place p u head) = rw x at e in
          absurd (let z : ◌≡◌ {A = ℕ} 0 1 = cc in omega arith)

  pub answer-refused : (number : ℕ) → Refused number ≡ checked_of place p u head → (number ≡ page_fault place p u head) × (page_fault place p u head ≡ 0 → ⊥)
  answer-refused number e = go (true-or-false (eqb (page_fault place p u head) 0))
    where
      go :
          (eqb (page_fault place p u head) 0 ≡ true) ⊎ (eqb (page_fault place p u head) 0 ≡ false) →
          (number ≡ page_fault place p u head) × (page_fault place p u head ≡ 0 → ⊥)
      go (inl z) =
          let d : Refused number ≡ Page (page_type p head) (cell_count p head) (right_pointer p head) = rw z at e in
          absurd (let w : ◌≡◌ {A = ℕ} 0 1 = cc in omega arith)
      go (inr x) =
          let d : Refused number ≡ Refused (page_fault place p u head) = rw x at e in
          (cc, eqb-false _ _ x)
