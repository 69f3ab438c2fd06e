-- Laws of lookup and of a payload's chain, for the proofs of code that makes them: each taken apart as the code goes, by index.
use mathlib.Core.Path.{◌≡◌, refl, ◌∙◌, ap}
use mathlib.Core.Bool.{true, false}
use mathlib.Core.Logic.{◌≢◌}
use Prim.Native.Nat.{ℕ, zero, suc, ◌+◌, ◌-◌, ◌≤◌, ◌<◌}
use native.Mathlib.Omega.{arith}
use borrow.Author.Tests.{eq-eqb, ne_eqb, le-leb, lt-leb}
use Rattle.dealing.specs.File.{File, is_leaf, table_page, level_limit}
use Rattle.dealing.specs.Walk.{in_range, not0, fault_in}
use Rattle.dealing.specs.Lookup.{Answer, nowhere, shows, refuses, child_for, cell_for, unless, lookup_page, lookup, whole, stops, follow}
use Rattle.dealing.specs.Lookup.{follow_cell}
use Rattle.dealing.proofs.WalkLaws.{rest_of, rest_all, rest_more, rest_end}
use Rattle.dealing.proofs.Passed.{range-in}

pub out_of_range : (N t : ℕ) → (1 ≤ t → t ≤ N → ⊥) → in_range N t ≡ false
out_of_range N zero h = refl
out_of_range N (suc t) h = lt-leb (suc t) N (omega (arith, h (omega arith)))

-- the root
module _ (f : File) (r row : ℕ) where
  pub lookup-outside : (1 ≤ r → r ≤ f.N → ⊥) → lookup f r row ≡ refuses 20 0
  unfolding lookup
  lookup-outside h = rw (out_of_range f.N r h)

  pub lookup-inside : 1 ≤ r → r ≤ f.N → lookup f r row ≡ lookup_page f level_limit r row
  unfolding lookup
  lookup-inside a b = rw (range-in f.N r a b)

-- a page on the path
module _ (f : File) (levels p row : ℕ) where
  pub lookup-deep : levels ≡ 0 → lookup_page f levels p row ≡ refuses 24 p
  unfolding lookup_page
  lookup-deep z = rw z

  module _ (some : levels ≢ 0) where
    opened : lookup_page f levels p row ≡ lookup_page f (suc (levels - 1)) p row
    opened = let e : levels ≡ suc (levels - 1) = omega arith in ap (λ l. lookup_page f l p row) e

    pub lookup-fault : fault_in f table_page p ≢ 0 → lookup_page f levels p row ≡ refuses (fault_in f table_page p) p
    unfolding lookup_page
    lookup-fault n = opened ∙ go (fault_in f table_page p) n _
      where
        go : (n : ℕ) → n ≢ 0 → (a : Answer) → unless n p a ≡ refuses n p
        go zero h a = absurd (h refl)
        go (suc n) h a = refl

    module _ (fit : fault_in f table_page p ≡ 0) where
      pub lookup-leaf : is_leaf f p ≡ true → lookup_page f levels p row ≡ cell_for row p 0 (rest_of f p 0)
      unfolding lookup_page
      lookup-leaf l = opened ∙ rw (fit, l, rest_all f p)

      module _ (t : ℕ) (child : t ≡ child_for row (f.right p) (rest_of f p 0)) (l : is_leaf f p ≡ false) where
        pub lookup-lost : (1 ≤ t → t ≤ f.N → ⊥) → lookup_page f levels p row ≡ refuses 20 p
        unfolding lookup_page
        lookup-lost h = opened ∙ rw (fit, l, rest_all f p, ← child, out_of_range f.N t h)

        pub lookup-down : 1 ≤ t → t ≤ f.N → lookup_page f levels p row ≡ lookup_page f (levels - 1) t row
        unfolding lookup_page
        lookup-down a b = opened ∙ rw (fit, l, rest_all f p, ← child, range-in f.N t a b)

-- the cells of a page from index i on
module _ (f : File) (row p i : ℕ) where
  pub cell-end : f.count p ≤ i → cell_for row p i (rest_of f p i) ≡ nowhere
  unfolding cell_for
  cell-end h = rw (rest_end f p i h)

  pub child-end : f.count p ≤ i → child_for row (f.right p) (rest_of f p i) ≡ f.right p
  unfolding child_for
  child-end h = rw (rest_end f p i h)

  module _ (h : i < f.count p) where
    pub cell-here : (f.cell p i).row ≡ row → cell_for row p i (rest_of f p i) ≡ shows p i (f.cell p i).length
    unfolding cell_for
    cell-here e = rw (rest_more f p i h, eq-eqb (f.cell p i).row row e)

    pub cell-on : (f.cell p i).row ≢ row → cell_for row p i (rest_of f p i) ≡ cell_for row p (i + 1) (rest_of f p (i + 1))
    unfolding cell_for
    cell-on n = let e : suc i ≡ i + 1 = omega arith in rw (rest_more f p i h, ne_eqb (f.cell p i).row row n, e)

    pub child-here : row ≤ (f.cell p i).row → child_for row (f.right p) (rest_of f p i) ≡ (f.cell p i).child
    unfolding child_for
    child-here e = rw (rest_more f p i h, le-leb row (f.cell p i).row e)

    pub child-on : (f.cell p i).row < row → child_for row (f.right p) (rest_of f p i) ≡ child_for row (f.right p) (rest_of f p (i + 1))
    unfolding child_for
    child-on e = rw (rest_more f p i h, lt-leb row (f.cell p i).row e)

-- a payload's chain
module _ (f : File) (p links t : ℕ) where
  pub follow-none : links ≡ 0 → follow_cell f p links t ≡ whole
  unfolding follow_cell
  follow-none z = rw z

  pub follow-some : links ≢ 0 → follow_cell f p links t ≡ follow f p links t
  unfolding follow_cell
  follow-some n = let e : links ≡ suc (links - 1) = omega arith in rw e

module _ (f : File) (h n t : ℕ) where
  pub follow-end : n ≡ 0 → t ≡ 0 → follow f h n t ≡ whole
  unfolding follow
  follow-end z e = rw (z, eq-eqb t 0 e)

  pub follow-over : n ≡ 0 → t ≢ 0 → follow f h n t ≡ stops 27 h
  unfolding follow
  follow-over z e = rw (z, ne_eqb t 0 e)

  module _ (some : n ≢ 0) where
    follow-opened : follow f h n t ≡ follow f h (suc (n - 1)) t
    follow-opened = let e : n ≡ suc (n - 1) = omega arith in ap (λ n. follow f h n t) e

    pub follow-short : t ≡ 0 → follow f h n t ≡ stops 27 h
    unfolding follow
    follow-short e = follow-opened ∙ rw e

    not-zero : t ≢ 0 → not0 t ≡ true
    not-zero z = go t z
      where
        go : (t : ℕ) → t ≢ 0 → not0 t ≡ true
        go zero z = absurd (z refl)
        go (suc t) z = refl

    pub follow-lost : t ≢ 0 → f.N < t → follow f h n t ≡ stops 20 h
    unfolding follow
    follow-lost z r = follow-opened ∙ rw (not-zero z, out_of_range f.N t (λ a b. omega arith))

    pub follow-more : t ≢ 0 → t ≤ f.N → follow f h n t ≡ follow f t (n - 1) (f.next t)
    unfolding follow
    follow-more z r = follow-opened ∙ rw (not-zero z, range-in f.N t (omega arith) r)
