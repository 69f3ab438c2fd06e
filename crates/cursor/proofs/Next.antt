-- The ways of a step, as the code goes.
-- Assumes nothing.
use Rattle.std.specs.Prelude.{Result, Ok, Err, Option}
use Prim.Native.Nat.{ℕ, zero, suc, ◌+◌, ◌-◌, ◌<◌, ◌≤◌}
use mathlib.Core.Path.{◌≡◌, refl, sym, ap, ◌∙◌}
use mathlib.Core.Bool.{Bool, true, false, cond}
use mathlib.Core.Logic.{◌≢◌}
use mathlib.Core.List.{List, [], ◌∷◌}
use lib.Dec.{eqb}
use lib.IntN.{ℤ}
use lib.ListN.{length, get_or}
use native.Mathlib.Omega.{arith}
use borrow.Author.Tests.{eq-eqb, ne_eqb, eqb-true, eqb-false}
use Rattle.header.specs.declared.Header.{Header}
use Rattle.header.specs.Header.{header_in}
use Rattle.header.specs.Told as HT
use Rattle.refusal.specs.declared.Rule.{Rule}
use Rattle.refusal.specs.declared.Refusal.{Refusal}
use Rattle.refusal.specs.Rule.{number_of}
use Rattle.page.specs.declared.Place.TheVariants.{TablePage}
use Rattle.page.specs.Checked as K
use Rattle.page.specs.Fault.{checked_of}
use Rattle.dealing.specs.File.{File, is_leaf, table_page, level_limit}
use Rattle.dealing.specs.Walk.{in_range, fault_in}
use Rattle.dealing.specs.Cursor as L
use Rattle.dealing.proofs.Passed.{range-in, in-range}
use Rattle.dealing.proofs.Listing.{or_else}
use Rattle.dealing.proofs.CursorLaws as W
use Rattle.image.specs.Pages.{page_in, head_of}
use Rattle.image.specs.Image.{file_of}
use Rattle.image.specs.Ready.{Opened, PageAt}
use Rattle.image.proofs.Shape.{shape}
use Rattle.lookup.proofs.Ways.{Fit, refused-at, fault-table, inner-kind, leaf_type, inner_type}
use Rattle.cursor.specs.Answers.{put_at, blank, above_from, last_page, last_index, path_of, shown_of, stepped, answer_of, step_of, next_in, Stored}
use Rattle.cursor.specs.Shown as Sh
use Rattle.cursor.specs.declared.Cursor as Cu
use Rattle.cursor.specs.Stepped as St
use Rattle.cursor.specs.declared.Standing.{Standing}
use Rattle.cursor.specs.Told.{told}
use Rattle.cursor.proofs.Ways.{answer-refused, below-ends, below_row, below-refuses, header-stops, header-passes, keeps}

no : (b : Bool) → b ≡ true → b ≡ false → ⊥
no b t f = let z : ◌≡◌ {A = ℕ} 0 1 = cc in omega arith

one_less : (n x y : ℕ) → y ≡ suc x → x < n → n ≢ x + 1 → n - 1 - x ≡ suc (n - 1 - y)
one_less n x y e h m = omega arith

-- ---- a stored path, level by level
module _ (f : File) (c : Cu.Cursor) (l : ℕ) (stored : Stored c l) where
  abbrev page-at-level : ℕ
  page-at-level = get_or c.pages (20 - l) 0

  abbrev index-at-level : ℕ
  index-at-level = get_or c.cells (20 - l) 0

  abbrev above-rest : List (ℕ × ℕ)
  above-rest = above_from c (20 - (l - 1)) (c.levels - 1 - (20 - (l - 1)))

  some_level : l ≢ 0
  some_level z = omega arith

  -- the last level
  pub at_last : c.levels ≡ 20 - l + 1 → next_in f c l ≡ L.step_in f l [] page-at-level index-at-level
  unfolding next_in above_from
  at_last e =
      let z : c.levels - 1 - (20 - l) ≡ 0 = omega arith in
      let k : c.levels - 1 ≡ 20 - l = omega arith in
      ap (λ n. L.step_in f l (above_from c (20 - l) n) (last_page c) (last_index c)) z
      ∙ ap (λ n. L.step_in f l [] (get_or c.pages n 0) (get_or c.cells n 0)) k

  -- a level above it
  pub at_inner : c.levels ≢ 20 - l + 1 → next_in f c l ≡ L.step_in f l ((page-at-level, index-at-level) ∷ above-rest) (last_page c) (last_index c)
  unfolding next_in above_from
  at_inner n =
      let k : suc (20 - l) ≡ 20 - (l - 1) = omega arith in
      let z : c.levels - 1 - (20 - l) ≡ suc (c.levels - 1 - (20 - (l - 1))) = one_less c.levels (20 - l) (20 - (l - 1)) (sym k) stored.2 n in
      ap (λ n. L.step_in f l (above_from c (20 - l) n) (last_page c) (last_index c)) z
      ∙ ap (λ m. L.step_in f l ((page-at-level, index-at-level) ∷ above_from c m (c.levels - 1 - (20 - (l - 1)))) (last_page c) (last_index c)) k

  pub next-page : c.levels ≢ 20 - l + 1 → L.top_of above-rest (last_page c) ≡ get_or c.pages (20 - l + 1) 0
  unfolding above_from
  next-page n = go (c.levels - 1 - (20 - (l - 1))) refl
    where
      go : (m : ℕ) → c.levels - 1 - (20 - (l - 1)) ≡ m → L.top_of (above_from c (20 - (l - 1)) m) (last_page c) ≡ get_or c.pages (20 - l + 1) 0
      go zero e = let k : c.levels - 1 ≡ 20 - l + 1 = omega arith in ap (λ n. get_or c.pages n 0) k
      go (suc m) e = let k : 20 - (l - 1) ≡ 20 - l + 1 = omega arith in ap (λ n. get_or c.pages n 0) k

  -- what a path that stands says of its page at this level
  abbrev Lost : Type 0
  Lost = next_in f c l ≡ L.refuses 49 0

  pub lost-last : c.levels ≡ 20 - l + 1 → (W.EndsAt f l page-at-level index-at-level → ⊥) → Lost
  lost-last e h = at_last e ∙ W.not-standing f l [] page-at-level index-at-level (λ s. h (W.ends_at f l page-at-level index-at-level s))

  pub lost-inner : c.levels ≢ 20 - l + 1 → (W.Passes f l page-at-level index-at-level above-rest (last_page c) (last_index c) → ⊥) → Lost
  lost-inner n h =
      at_inner n
      ∙ W.not-standing f l ((page-at-level, index-at-level) ∷ above-rest) (last_page c) (last_index c) (λ s. h (W.passes f l page-at-level index-at-level above-rest (last_page c) (last_index c) s))

  pub lost-both : (in_range f.N page-at-level ≡ true → fault_in f table_page page-at-level ≡ 0 → ⊥) → Lost
  lost-both h = go (eqb c.levels (20 - l + 1)) refl
    where
      go : (t : Bool) → eqb c.levels (20 - l + 1) ≡ t → Lost
      go true t = lost-last (eqb-true c.levels (20 - l + 1) t) (λ w. h w.range w.fit)
      go false t = lost-inner (eqb-false c.levels (20 - l + 1) t) (λ w. h w.range w.fit)

-- ---- as the code goes
module _ {b : List ℕ} {h : Header} (o : Opened b h) (c : Cu.Cursor) (l : ℕ) (stored : Stored c l) where
  abbrev p : ℕ
  p = get_or c.pages (20 - l) 0

  abbrev i : ℕ
  i = get_or c.cells (20 - l) 0

  abbrev Next : St.Stepped → Type 0
  Next r = r ≡ answer_of (file_of b) blank (20 - l) (next_in (file_of b) c l)

  lost : next_in (file_of b) c l ≡ L.refuses 49 0 → Next (stepped (Sh.Refused 49 0) blank)
  lost q = answer-refused (file_of b) (20 - l) _ 49 0 q

  module _ where
    pub next-range : in_range h.pages p ≡ false → Next (stepped (Sh.Refused 49 0) blank)
    next-range out =
        let s = shape o in
        lost (lost-both (file_of b) c l stored
        (λ w z. let k = in-range (file_of b).N p w in let n : in_range h.pages p ≡ true = range-in h.pages p k.0 (omega (arith, s.N-is)) in cc))

    module _ (a : PageAt b h p) where
      pub next-fault : (number : ℕ) → K.Refused number ≡ checked_of TablePage (page_in b p) h.usable (head_of p) → Next (stepped (Sh.Refused 49 0) blank)
      next-fault number k = let w = refused-at TablePage a number k in lost (lost-both (file_of b) c l stored (λ y z. w.1 (w.0 ∙ sym (fault-table b p) ∙ z)))

      module _ {kind count right : ℕ} (w : Fit TablePage a kind count right) where
        pub next-short : kind ≡ 13 → c.levels ≢ 20 - l + 1 → Next (stepped (Sh.Refused 49 0) blank)
        next-short k n = lost (lost-inner (file_of b) c l stored n (λ x. no (is_leaf (file_of b) p) (leaf_type (file_of b) p kind w.tree.kind_is k) x.inner))

        pub next_past : c.levels ≡ 20 - l + 1 → count ≤ i → Next (stepped (Sh.Refused 49 0) blank)
        next_past n m = lost (lost-last (file_of b) c l stored n (λ x. omega (arith, x.index, w.tree.count_is)))

        pub next-deep : kind ≢ 13 → c.levels ≡ 20 - l + 1 → Next (stepped (Sh.Refused 49 0) blank)
        next-deep k n =
            lost (lost-last (file_of b) c l stored n
            (λ x. no (is_leaf (file_of b) p) x.leaf (inner_type (file_of b) p kind w.tree.kind_is (inner-kind a l 0 (some_level (file_of b) c l stored) w k))))

        pub next-wide : c.levels ≢ 20 - l + 1 → count < i → Next (stepped (Sh.Refused 49 0) blank)
        next-wide n m = lost (lost-inner (file_of b) c l stored n (λ x. omega (arith, x.index, w.tree.count_is)))

        pub next-other : c.levels ≢ 20 - l + 1 → (target : ℕ) → target ≡ L.child_at (file_of b) p i → target ≢ get_or c.pages (20 - l + 1) 0 → Next (stepped (Sh.Refused 49 0) blank)
        next-other n target is m = lost (lost-inner (file_of b) c l stored n (λ x. m (is ∙ x.child ∙ next-page (file_of b) c l stored n)))

  module _ (a : PageAt b h p) {kind count right : ℕ} (w : Fit TablePage a kind count right) where
    in-file : in_range (file_of b).N p ≡ true
    in-file = let s = shape o in range-in (file_of b).N p a.low (omega (arith, s.N-is, a.high))

    fit : fault_in (file_of b) table_page p ≡ 0
    fit = fault-table b p ∙ w.none

    pub next-leaf : kind ≡ 13 → c.levels ≡ 20 - l + 1 → i < count
        → (r : St.Stepped) → r ≡ answer_of (file_of b) blank (20 - l) (L.shown_from (file_of b) 0 (L.leaf_met p (i + 1) (count - (i + 1)))) → Next r
    next-leaf k n m r e =
        e ∙ ap (λ n. answer_of (file_of b) blank (20 - l) (L.shown_from (file_of b) 0 (L.leaf_met p (i + 1) (n - (i + 1))))) w.tree.count_is
        ∙ ap (answer_of (file_of b) blank (20 - l))
        (sym (at_last (file_of b) c l stored n
        ∙ W.step-leaf (file_of b) l p i (some_level (file_of b) c l stored)
        (record { range = in-file; fit = fit; leaf = leaf_type (file_of b) p kind w.tree.kind_is k; index = omega (arith, w.tree.count_is) })))

    module _ (k : kind ≢ 13) (n : c.levels ≢ 20 - l + 1) (m : i ≤ count) (target : ℕ) (is : target ≡ L.child_at (file_of b) p i) (same : target ≡ get_or c.pages (20 - l + 1) 0) where
      others : L.Shown
      others = L.shown_from (file_of b) 0 (L.inner_met (file_of b) (L.listing (file_of b) (l - 1)) p (i + 1) (count + 1 - (i + 1)))

      goes : next_in (file_of b) c l ≡ or_else p i (next_in (file_of b) c (l - 1)) others
      unfolding others next_in
      goes =
          at_inner (file_of b) c l stored n
          ∙ W.step-under (file_of b) l p i (above_from c (20 - (l - 1)) (c.levels - 1 - (20 - (l - 1)))) (last_page c) (last_index c) (some_level (file_of b) c l stored)
          (record {
            range = in-file;
            fit = fit;
            inner = inner_type (file_of b) p kind w.tree.kind_is (inner-kind a l 0 (some_level (file_of b) c l stored) w k);
            index = omega (arith, w.tree.count_is);
            child = sym is ∙ same ∙ sym (next-page (file_of b) c l stored n);
          })
          ∙ ap (λ m. or_else p i (L.step_in (file_of b) (l - 1) (above_from c (20 - (l - 1)) (c.levels - 1 - (20 - (l - 1)))) (last_page c) (last_index c))
          (L.shown_from (file_of b) 0 (L.inner_met (file_of b) (L.listing (file_of b) (l - 1)) p (i + 1) (m + 1 - (i + 1))))) (sym w.tree.count_is)

      module _ (s : St.Stepped) (e : s ≡ answer_of (file_of b) blank (20 - (l - 1)) (next_in (file_of b) c (l - 1))) where
        one_down : s ≡ answer_of (file_of b) blank (suc (20 - l)) (next_in (file_of b) c (l - 1))
        one_down = let z : 20 - (l - 1) ≡ suc (20 - l) = omega arith in e ∙ ap (λ k. answer_of (file_of b) blank k (next_in (file_of b) c (l - 1))) z

        to : (r : St.Stepped) → r ≡ answer_of (file_of b) blank (20 - l) (or_else p i (next_in (file_of b) c (l - 1)) others) → Next r
        to r q = q ∙ ap (answer_of (file_of b) blank (20 - l)) (sym goes)

        pub next-on : s.shown ≡ Sh.End → (r : St.Stepped)
            → r ≡ answer_of (file_of b) blank (19 - (l - 1)) (L.shown_from (file_of b) 0 (L.inner_met (file_of b) (L.listing (file_of b) (l - 1)) p (i + 1) (count + 1 - (i + 1)))) → Next r
        unfolding others
        next-on z r q =
            let y : 19 - (l - 1) ≡ 20 - l = omega arith in
            to r (q ∙ ap (λ k. answer_of (file_of b) blank k others) y
            ∙ ap (answer_of (file_of b) blank (20 - l)) (sym (below-ends (file_of b) (20 - l) p i (next_in (file_of b) c (l - 1)) others s one_down z)))

        pub next_row : (x y n : ℕ) (z : ℤ) → s.shown ≡ Sh.Row x y n z → (d : Cu.Cursor) → d ≡ put_at s.cursor (20 - l) p i → Next (stepped s.shown d)
        next_row x y n z q d d-is = to (stepped s.shown d) (below_row (file_of b) (20 - l) p i (next_in (file_of b) c (l - 1)) others s one_down x y n z q d d-is)

        pub next-stop : (n q : ℕ) → s.shown ≡ Sh.Refused n q → Next s
        next-stop n q z = to s (below-refuses (file_of b) (20 - l) p i (next_in (file_of b) c (l - 1)) others s one_down n q z)

-- ---- the whole step
module _ (b : List ℕ) (c : Cu.Cursor) where
  pub step-refused : (rule : Rule) → HT.told (Err rule) ≡ header_in b → stepped (Sh.Refused (number_of rule) 0) c ≡ step_of b c
  unfolding step_of
  step-refused rule e = ap (answer_of (file_of b) c 0) (sym (header-stops b rule e (cond (eqb c.levels 0) L.end (L.step (file_of b) (path_of c)))))

  module _ {h : Header} (o : Opened b h) where
    opens : step_of b c ≡ answer_of (file_of b) c 0 (cond (eqb c.levels 0) L.end (L.step (file_of b) (path_of c)))
    unfolding step_of
    opens = ap (answer_of (file_of b) c 0) (header-passes o (cond (eqb c.levels 0) L.end (L.step (file_of b) (path_of c))))

    pub step_end : c.levels ≡ 0 → stepped Sh.End blank ≡ step_of b c
    step_end z = sym (opens ∙ rw (eq-eqb c.levels 0 z))

    module _ (n : c.levels ≢ 0) where
      pub steps : step_of b c ≡ answer_of (file_of b) c 0 (L.step (file_of b) (path_of c))
      steps = opens ∙ rw (ne_eqb c.levels 0 n)

      above-length : (k m : ℕ) → length (above_from c k m) ≡ m
      unfolding above_from
      above-length k zero = refl
      above-length k (suc m) = ap suc (above-length (suc k) m)

      pub step-long : 20 < c.levels → stepped (Sh.Refused 49 0) c ≡ step_of b c
      step-long l =
          sym (steps ∙ ap (answer_of (file_of b) c 0)
          (W.not-standing (file_of b) level_limit (above_from c 0 (c.levels - 1)) (last_page c) (last_index c)
          (W.too_long (file_of b) level_limit (above_from c 0 (c.levels - 1)) (last_page c) (last_index c) (omega (arith, above-length 0 (c.levels - 1))))))

      pub step-down : (r : Result (Option Standing) Refusal) → told blank r ≡ answer_of (file_of b) blank 0 (next_in (file_of b) c level_limit) → told c r ≡ step_of b c
      unfolding next_in
      step-down r e =
          let z : c.levels - 1 - 0 ≡ c.levels - 1 = omega arith in
          let same = ap (λ m. L.step_in (file_of b) level_limit (above_from c 0 m) (last_page c) (last_index c)) z in
          keeps (file_of b) c 0 (L.step (file_of b) (path_of c)) r (e ∙ ap (answer_of (file_of b) blank 0) same) ∙ sym steps
