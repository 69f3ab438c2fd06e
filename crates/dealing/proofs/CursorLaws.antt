-- Laws of the cursor, for the proofs of code that makes it: each taken apart as the code goes, by index.
use mathlib.Core.Path.{◌≡◌, refl, sym, ◌∙◌, ap}
use mathlib.Core.Bool.{Bool, true, false, cond, not}
use mathlib.Core.Logic.{◌≢◌}
use mathlib.Core.List.{List, [], ◌∷◌, ◌++◌, append-nil}
use Prim.Native.Nat.{ℕ, zero, suc, ◌+◌, ◌-◌, ◌≤◌, ◌<◌}
use native.Mathlib.Omega.{arith}
use lib.Dec.{eqb, leb, ltb}
use lib.ListN.{length}
use borrow.Author.Tests.{eq-eqb, eqb-true, le-leb, leb-true, lt-leb, lt-ltb, le-ltb, ltb-true}
use Rattle.dealing.specs.File.{Cell, File, is_leaf, cells_from, cells_of, table_page, level_limit}
use Rattle.dealing.specs.Walk.{fault_in, in_range}
use Rattle.dealing.specs.Lookup.{child_for, cell_for, unless, lookup_page, lookup}
use Rattle.dealing.specs.Lookup as K
use Rattle.dealing.specs.Cursor.{Met, cell, stop, leaf_met, under, child_at, child_met, inner_met, unless_stop, listing, index_for, listing_from}
use Rattle.dealing.specs.Cursor.{top_of, stands_in, after_in}
use Rattle.dealing.specs.Cursor.{Shown, end, at, refuses, row_at, shown_from, first, seek, step_in}
use Rattle.dealing.proofs.Passed.{range-in}
use Rattle.dealing.proofs.LookupLaws.{out_of_range}
use Rattle.dealing.proofs.Listing.{or_else, shown-under, child-met, child-lost, both, not-true}

-- ---- one list after the other
abbrev pub or_next : Shown → Shown → Shown
or_next end b = b
or_next (at y) b = at y
or_next (refuses n p) b = refuses n p

pub shown-append : (f : File) (x : ℕ) (a b : List Met) → shown_from f x (a ++ b) ≡ or_next (shown_from f x a) (shown_from f x b)
unfolding shown_from
shown-append f x [] b = refl
shown-append f x (stop n p ∷ a) b = refl
shown-append f x (cell y ∷ a) b = go (leb x (row_at f y)) (shown-append f x a b)
  where
    go : (t : Bool) → shown_from f x (a ++ b) ≡ or_next (shown_from f x a) (shown_from f x b)
        → cond t (at y) (shown_from f x (a ++ b)) ≡ or_next (cond t (at y) (shown_from f x a)) (shown_from f x b)
    go true e = refl
    go false e = e

pub shown-stop : (f : File) (x n p : ℕ) → shown_from f x (stop n p ∷ []) ≡ refuses n p
unfolding shown_from
shown-stop f x n p = refl

pub shown-none : (f : File) (x : ℕ) → shown_from f x [] ≡ end
unfolding shown_from
shown-none f x = refl

-- ---- from the least number all is listed
module _ (f : File) where
  pub child-same : (g h : ℕ → List Met) (p i : ℕ) → g (child_at f p i) ≡ h (child_at f p i) → child_met f g p i ≡ child_met f h p i
  unfolding child_met
  child-same g h p i e = rw e

  index-0 : (p i k : ℕ) → index_for f 0 p i k ≡ i
  unfolding index_for
  index-0 p i zero = refl
  index-0 p i (suc k) = rw (le-leb 0 (f.cell p i).row (omega arith))

  inner-0 : (l p : ℕ) → ((q : ℕ) → listing_from f 0 l q ≡ listing f l q) → (i : ℕ) → i ≡ 0
      → child_met f (listing_from f 0 l) p i ++ inner_met f (listing f l) p (suc i) (f.count p - i) ≡ inner_met f (listing f l) p 0 (suc (f.count p))
  unfolding inner_met
  inner-0 l p ih i e =
      let z : f.count p - 0 ≡ f.count p = omega arith in
      ap (λ i. child_met f (listing_from f 0 l) p i ++ inner_met f (listing f l) p (suc i) (f.count p - i)) e
      ∙ ap (λ m. m ++ inner_met f (listing f l) p 1 (f.count p - 0)) (child-same (listing_from f 0 l) (listing f l) p 0 (ih (child_at f p 0)))
      ∙ ap (λ k. child_met f (listing f l) p 0 ++ inner_met f (listing f l) p 1 k) z

  pub from-0 : (l p : ℕ) → listing_from f 0 l p ≡ listing f l p
  unfolding listing listing_from
  from-0 zero p = refl
  from-0 (suc l) p = rw (inner-0 l p (from-0 l) (index_for f 0 p 0 (f.count p)) (index-0 p 0 (f.count p)))

-- ---- the child is lookup's
module _ (f : File) (x p : ℕ) where
  index-at-least : (i k : ℕ) → (i ≤ index_for f x p i k) × (index_for f x p i k ≤ i + k)
  unfolding index_for
  index-at-least i zero = (omega arith, omega arith)
  index-at-least i (suc k) = go (leb x (f.cell p i).row) (index-at-least (suc i) k)
    where
      go : (t : Bool) → (suc i ≤ index_for f x p (suc i) k) × (index_for f x p (suc i) k ≤ suc i + k)
          → (i ≤ cond t i (index_for f x p (suc i) k)) × (cond t i (index_for f x p (suc i) k) ≤ i + suc k)
      go true w = (omega arith, omega arith)
      go false w = (omega arith, omega arith)

  child-from : (i k : ℕ) → i + k ≡ f.count p → child_at f p (index_for f x p i k) ≡ child_for x (f.right p) (cells_from f p i k)
  unfolding index_for child_for cells_from child_at
  child-from i zero e = rw (le-ltb i (f.count p) (omega arith))
  child-from i (suc k) e = go (leb x (f.cell p i).row) (child-from (suc i) k (omega arith))
    where
      m : ℕ
      m = index_for f x p (suc i) k

      go : (t : Bool) → cond (ltb m (f.count p)) (f.cell p m).child (f.right p) ≡ child_for x (f.right p) (cells_from f p (suc i) k)
          → cond (ltb (cond t i m) (f.count p)) (f.cell p (cond t i m)).child (f.right p)
          ≡ cond t (f.cell p i).child (child_for x (f.right p) (cells_from f p (suc i) k))
      go true ih = rw (lt-ltb i (f.count p) (omega arith))
      go false ih = ih

  -- seek goes down to the child that lookup goes to
  pub child-as-lookup : child_at f p (index_for f x p 0 (f.count p)) ≡ child_for x (f.right p) (cells_of f p)
  unfolding cells_of
  child-as-lookup = child-from 0 (f.count p) (omega arith)

-- ---- where lookup refuses, seek refuses
module _ (f : File) (x n q : ℕ) where
  cells-pass : (p i : ℕ) (cs : List Cell) → cell_for x p i cs ≡ K.refuses n q → ⊥
  unfolding cell_for
  cells-pass p i [] e = let z : ◌≡◌ {A = ℕ} 0 1 = cc in omega arith
  cells-pass p i (c ∷ cs) e = go (eqb c.row x) (cells-pass p (suc i) cs) e
    where
      go : (t : Bool) → (cell_for x p (suc i) cs ≡ K.refuses n q → ⊥) → cond t (K.shows p i c.length) (cell_for x p (suc i) cs) ≡ K.refuses n q → ⊥
      go true ih e = let z : ◌≡◌ {A = ℕ} 0 1 = cc in omega arith
      go false ih e = ih e

  same-refusal : (n' q' : ℕ) → K.refuses n' q' ≡ K.refuses n q → refuses n' q' ≡ refuses n q
  same-refusal n' q' e =
      let e₀ : n' ≡ n = cc in
      let e₁ : q' ≡ q = cc in
      cc

  page-refuses : (l p : ℕ) → lookup_page f l p x ≡ K.refuses n q → shown_from f x (listing_from f x l p) ≡ refuses n q
  unfolding lookup_page listing_from
  page-refuses zero p e = shown-stop f x 24 p ∙ same-refusal 24 p e
  page-refuses (suc l) p e = go (fault_in f table_page p) (is_leaf f p) (page-refuses l) e
    where
      i : ℕ
      i = index_for f x p 0 (f.count p)

      rest : List Met
      rest = inner_met f (listing f l) p (suc i) (f.count p - i)

      child : ℕ
      child = child_for x (f.right p) (cells_of f p)

      inner : (t : Bool) → in_range f.N child ≡ t → ((c : ℕ) → lookup_page f l c x ≡ K.refuses n q → shown_from f x (listing_from f x l c) ≡ refuses n q)
          → cond t (lookup_page f l child x) (K.refuses 20 p) ≡ K.refuses n q → shown_from f x (child_met f (listing_from f x l) p i ++ rest) ≡ refuses n q
      inner true t ih e =
          let c : child_at f p i ≡ child = child-as-lookup f x p in
          let r : in_range f.N (child_at f p i) ≡ true = ap (in_range f.N) c ∙ t in
          ap (λ m. shown_from f x (m ++ rest)) (child-met f (listing_from f x l) p i r)
          ∙ shown-under f x p i (listing_from f x l (child_at f p i)) rest
          ∙ ap (λ s. or_else p i s (shown_from f x rest)) (ap (λ c. shown_from f x (listing_from f x l c)) c ∙ ih child e)
      inner false t ih e =
          let r : in_range f.N (child_at f p i) ≡ false = ap (in_range f.N) (child-as-lookup f x p) ∙ t in
          ap (λ m. shown_from f x (m ++ rest)) (child-lost f (listing_from f x l) p i r)
          ∙ shown-append f x (stop 20 p ∷ []) rest ∙ ap (λ s. or_next s (shown_from f x rest)) (shown-stop f x 20 p) ∙ same-refusal 20 p e

      go : (k : ℕ) (t : Bool) → ((c : ℕ) → lookup_page f l c x ≡ K.refuses n q → shown_from f x (listing_from f x l c) ≡ refuses n q)
          → unless k p (cond t (cell_for x p 0 (cells_of f p)) (cond (in_range f.N child) (lookup_page f l child x) (K.refuses 20 p))) ≡ K.refuses n q
          → shown_from f x (unless_stop k p (cond t (leaf_met p 0 (f.count p)) (child_met f (listing_from f x l) p i ++ rest))) ≡ refuses n q
      go (suc k) t ih e = shown-stop f x (suc k) p ∙ same-refusal (suc k) p e
      go zero true ih e = absurd (cells-pass p 0 (cells_of f p) e)
      go zero false ih e = inner (in_range f.N child) refl ih e

  -- in any file and under any root
  pub seek-refuses : (r : ℕ) → lookup f r x ≡ K.refuses n q → seek f r x ≡ refuses n q
  unfolding lookup seek
  seek-refuses r e = go (in_range f.N r) e
    where
      go : (t : Bool) → cond t (lookup_page f level_limit r x) (K.refuses 20 0) ≡ K.refuses n q
          → cond t (shown_from f x (listing_from f x level_limit r)) (refuses 20 0) ≡ refuses n q
      go true e = page-refuses level_limit r e
      go false e = same-refusal 20 0 e

-- ---- the root
module _ (f : File) (r : ℕ) where
  pub first-outside : (1 ≤ r → r ≤ f.N → ⊥) → first f r ≡ refuses 20 0
  unfolding first
  first-outside h = rw (out_of_range f.N r h)

  pub first-inside : 1 ≤ r → r ≤ f.N → first f r ≡ shown_from f 0 (listing_from f 0 level_limit r)
  unfolding first
  first-inside a b = rw (range-in f.N r a b) (ap (shown_from f 0) (sym (from-0 f level_limit r)))

  pub seek-outside : (x : ℕ) → (1 ≤ r → r ≤ f.N → ⊥) → seek f r x ≡ refuses 20 0
  unfolding seek
  seek-outside x h = rw (out_of_range f.N r h)

  pub seek-inside : (x : ℕ) → 1 ≤ r → r ≤ f.N → seek f r x ≡ shown_from f x (listing_from f x level_limit r)
  unfolding seek
  seek-inside x a b = rw (range-in f.N r a b)

-- ---- a page that is entered
module _ (f : File) (x levels p : ℕ) where
  pub from_deep : levels ≡ 0 → listing_from f x levels p ≡ stop 24 p ∷ []
  unfolding listing_from
  from_deep z = rw z

  module _ (some : levels ≢ 0) where
    opened : listing_from f x levels p ≡ listing_from f x (suc (levels - 1)) p
    opened = let e : levels ≡ suc (levels - 1) = omega arith in ap (λ l. listing_from f x l p) e

    pub from-fault : fault_in f table_page p ≢ 0 → listing_from f x levels p ≡ stop (fault_in f table_page p) p ∷ []
    unfolding listing_from
    from-fault n = opened ∙ go (fault_in f table_page p) n _
      where
        go : (n : ℕ) → n ≢ 0 → (ms : List Met) → unless_stop n p ms ≡ stop n p ∷ []
        go zero h ms = absurd (h refl)
        go (suc n) h ms = refl

    module _ (fit : fault_in f table_page p ≡ 0) where
      pub from-leaf : is_leaf f p ≡ true → listing_from f x levels p ≡ leaf_met p 0 (f.count p)
      unfolding listing_from
      from-leaf l = opened ∙ rw (fit, l)

      pub from_inner : is_leaf f p ≡ false → (i : ℕ) → i ≡ index_for f x p 0 (f.count p)
          → listing_from f x levels p ≡ child_met f (listing_from f x (levels - 1)) p i ++ inner_met f (listing f (levels - 1)) p (i + 1) (f.count p + 1 - (i + 1))
      unfolding listing_from
      from_inner l i e =
          let z : suc i ≡ i + 1 = omega arith in
          let k : f.count p - i ≡ f.count p + 1 - (i + 1) = omega arith in
          opened ∙ rw (fit, l, ← e, k, z)

-- ---- a leaf's cells from index i on, and an interior page's keys
module _ (f : File) (x p i : ℕ) where
  pub leaf-end : f.count p ≤ i → shown_from f x (leaf_met p i (f.count p - i)) ≡ end
  unfolding shown_from leaf_met
  leaf-end h = let e : f.count p - i ≡ 0 = omega arith in rw e

  pub index-end : f.count p ≤ i → index_for f x p i (f.count p - i) ≡ i
  unfolding index_for
  index-end h = let e : f.count p - i ≡ 0 = omega arith in rw e

  module _ (h : i < f.count p) where
    pub leaf-here : x ≤ (f.cell p i).row → shown_from f x (leaf_met p i (f.count p - i)) ≡ at (record { above = []; page = p; index = i })
    unfolding shown_from leaf_met
    leaf-here l = let e : f.count p - i ≡ suc (f.count p - (i + 1)) = omega arith in rw (e, le-leb x (f.cell p i).row l)

    pub leaf-on : (f.cell p i).row < x → shown_from f x (leaf_met p i (f.count p - i)) ≡ shown_from f x (leaf_met p (i + 1) (f.count p - (i + 1)))
    unfolding shown_from leaf_met
    leaf-on l =
        let e : f.count p - i ≡ suc (f.count p - (i + 1)) = omega arith in
        let z : suc i ≡ i + 1 = omega arith in
        rw (e, lt-leb x (f.cell p i).row l, z)

    pub index-here : x ≤ (f.cell p i).row → index_for f x p i (f.count p - i) ≡ i
    unfolding index_for
    index-here l = let e : f.count p - i ≡ suc (f.count p - (i + 1)) = omega arith in rw (e, le-leb x (f.cell p i).row l)

    pub index_on : (f.cell p i).row < x → index_for f x p i (f.count p - i) ≡ index_for f x p (i + 1) (f.count p - (i + 1))
    unfolding index_for
    index_on l =
        let e : f.count p - i ≡ suc (f.count p - (i + 1)) = omega arith in
        let z : suc i ≡ i + 1 = omega arith in
        rw (e, lt-leb x (f.cell p i).row l, z)

-- ---- an interior page's children from index i on
module _ (f : File) (p i : ℕ) where
  pub child-cell : i < f.count p → child_at f p i ≡ (f.cell p i).child
  unfolding child_at
  child-cell h = rw (lt-ltb i (f.count p) h)

  pub child-right : f.count p ≤ i → child_at f p i ≡ f.right p
  unfolding child_at
  child-right h = rw (le-ltb i (f.count p) h)

  module _ (below : ℕ → List Met) where
    pub inner-end : f.count p < i → inner_met f below p i (f.count p + 1 - i) ≡ []
    unfolding inner_met
    inner-end h = let e : f.count p + 1 - i ≡ 0 = omega arith in rw e

    pub inner-more : i ≤ f.count p → inner_met f below p i (f.count p + 1 - i) ≡ child_met f below p i ++ inner_met f below p (i + 1) (f.count p + 1 - (i + 1))
    unfolding inner_met
    inner-more h =
        let e : f.count p + 1 - i ≡ suc (f.count p + 1 - (i + 1)) = omega arith in
        let z : suc i ≡ i + 1 = omega arith in
        rw (e, z)

    module _ (x : ℕ) where
      pub child-shown : 1 ≤ child_at f p i → child_at f p i ≤ f.N → shown_from f x (child_met f below p i) ≡ or_else p i (shown_from f x (below (child_at f p i))) end
      unfolding shown_from
      child-shown a b =
          ap (shown_from f x) (child-met f below p i (range-in f.N (child_at f p i) a b) ∙ sym (append-nil (under p i (below (child_at f p i)))))
          ∙ shown-under f x p i (below (child_at f p i)) []

      pub child-refused : (1 ≤ child_at f p i → child_at f p i ≤ f.N → ⊥) → shown_from f x (child_met f below p i) ≡ refuses 20 p
      unfolding shown_from
      child-refused h = ap (shown_from f x) (child-lost f below p i (out_of_range f.N (child_at f p i) h))

-- ---- a stored path
module _ (f : File) (l : ℕ) (up : List (ℕ × ℕ)) (q j : ℕ) where
  pub not-standing : (stands_in f l up q j ≡ true → ⊥) → step_in f l up q j ≡ refuses 49 0
  unfolding step_in
  not-standing h = go (stands_in f l up q j) refl
    where
      go : (t : Bool) → stands_in f l up q j ≡ t → cond t (shown_from f 0 (after_in f l up q j)) (refuses 49 0) ≡ refuses 49 0
      go true e = absurd (h e)
      go false e = refl

  pub standing : stands_in f l up q j ≡ true → step_in f l up q j ≡ shown_from f 0 (after_in f l up q j)
  unfolding step_in
  standing e = rw e

-- it has no more levels than there are
pub too_long : (f : File) (l : ℕ) (up : List (ℕ × ℕ)) (q j : ℕ) → l ≤ length up → stands_in f l up q j ≡ true → ⊥
unfolding stands_in
too_long f zero up q j h e = let z : ◌≡◌ {A = ℕ} 0 1 = cc in omega arith
too_long f (suc l) [] q j h e = omega arith
too_long f (suc l) ((p, i) ∷ up) q j h e =
    let a = both (in_range f.N p) _ e in
    let b = both (eqb (fault_in f table_page p) 0) _ a.1 in
    let c = both (not (is_leaf f p)) _ b.1 in
    let d = both (leb i (f.count p)) _ c.1 in
    let g = both (eqb (child_at f p i) (top_of up q)) _ d.1 in
    too_long f l up q j (omega arith) g.1

module _ (f : File) (l q j : ℕ) where
  pub record EndsAt : Type 0 where
    pub range : in_range f.N q ≡ true
    pub fit : fault_in f table_page q ≡ 0
    pub leaf : is_leaf f q ≡ true
    pub index : j < f.count q

  pub ends_at : stands_in f l [] q j ≡ true → EndsAt
  unfolding stands_in
  ends_at e = go l e
    where
      go : (l : ℕ) → stands_in f l [] q j ≡ true → EndsAt
      go zero e = absurd (let z : ◌≡◌ {A = ℕ} 0 1 = cc in omega arith)
      go (suc l) e =
          let a = both (in_range f.N q) _ e in
          let b = both (eqb (fault_in f table_page q) 0) _ a.1 in
          let c = both (is_leaf f q) _ b.1 in
          record { range = a.0; fit = eqb-true _ _ b.0; leaf = c.0; index = ltb-true _ _ c.1 }

  pub step-leaf : l ≢ 0 → EndsAt → step_in f l [] q j ≡ shown_from f 0 (leaf_met q (j + 1) (f.count q - (j + 1)))
  unfolding step_in stands_in after_in
  step-leaf n w =
      let e : l ≡ suc (l - 1) = omega arith in
      let z : suc j ≡ j + 1 = omega arith in
      rw (e, w.range, eq-eqb (fault_in f table_page q) 0 w.fit, w.leaf, lt-ltb j (f.count q) w.index, z)

module _ (f : File) (l p i : ℕ) (up : List (ℕ × ℕ)) (q j : ℕ) where
  pub record Passes : Type 0 where
    pub range : in_range f.N p ≡ true
    pub fit : fault_in f table_page p ≡ 0
    pub inner : is_leaf f p ≡ false
    pub index : i ≤ f.count p
    pub child : child_at f p i ≡ top_of up q

  pub passes : stands_in f l ((p, i) ∷ up) q j ≡ true → Passes
  unfolding stands_in
  passes e = go l e
    where
      go : (l : ℕ) → stands_in f l ((p, i) ∷ up) q j ≡ true → Passes
      go zero e = absurd (let z : ◌≡◌ {A = ℕ} 0 1 = cc in omega arith)
      go (suc l) e =
          let a = both (in_range f.N p) _ e in
          let b = both (eqb (fault_in f table_page p) 0) _ a.1 in
          let c = both (not (is_leaf f p)) _ b.1 in
          let d = both (leb i (f.count p)) _ c.1 in
          let g = both (eqb (child_at f p i) (top_of up q)) _ d.1 in
          record { range = a.0; fit = eqb-true _ _ b.0; inner = not-true _ c.0; index = leb-true _ _ d.0; child = eqb-true _ _ g.0 }

  pub step-under : l ≢ 0 → Passes
      → step_in f l ((p, i) ∷ up) q j
      ≡ or_else p i (step_in f (l - 1) up q j) (shown_from f 0 (inner_met f (listing f (l - 1)) p (i + 1) (f.count p + 1 - (i + 1))))
  unfolding step_in stands_in after_in
  step-under n w =
      let e : l ≡ suc (l - 1) = omega arith in
      let z : suc i ≡ i + 1 = omega arith in
      let k : f.count p - i ≡ f.count p + 1 - (i + 1) = omega arith in
      ap (λ l. step_in f l ((p, i) ∷ up) q j) e
      ∙ rw (
        w.range,
        eq-eqb (fault_in f table_page p) 0 w.fit,
        w.inner,
        le-leb i (f.count p) w.index,
        eq-eqb (child_at f p i) (top_of up q) w.child,
        z,
        k,
      )
      (go (stands_in f (l - 1) up q j))
    where
      rest : List Met
      rest = inner_met f (listing f (l - 1)) p (i + 1) (f.count p + 1 - (i + 1))

      go : (t : Bool) → cond t (shown_from f 0 (under p i (after_in f (l - 1) up q j) ++ rest)) (refuses 49 0)
          ≡ or_else p i (cond t (shown_from f 0 (after_in f (l - 1) up q j)) (refuses 49 0)) (shown_from f 0 rest)
      go true = shown-under f 0 p i (after_in f (l - 1) up q j) rest
      go false = refl
