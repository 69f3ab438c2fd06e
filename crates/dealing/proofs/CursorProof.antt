-- The cursor in a good file: it lists the leaf cells of a table root's tree.
use mathlib.Core.Path.{◌≡◌, refl, sym, ◌∙◌, ap, subst}
use mathlib.Core.Bool.{Bool, true, false, cond}
use mathlib.Core.Logic.{◌⊎◌, inl, inr}
use mathlib.Core.List.{List, [], ◌∷◌, ◌++◌, append-nil}
use mathlib.Core.List.Memᴰ.{append_cases}
use mathlib.Core.List.Memᴰ.{head as here}
use mathlib.Core.List.Memᴰ.{tail as there}
use mathlib.Core.List.{Memᴰ as Mem}
use mathlib.Core.List.Memᴰ.{append_right}
use Prim.Native.Nat.{ℕ, zero, suc, ◌+◌, ◌-◌, ◌≤◌, ◌<◌}
use native.Mathlib.Omega.{arith}
use lib.Dec.{leb, ltb}
use borrow.Author.Tests.{leb-false, lt-leb, lt-ltb, le-ltb, ltb-true, ltb-false}
use Rattle.dealing.specs.File.{Cell, File, Page, is_leaf, is_table, cells_from, cells_of, root_kind}
use Rattle.dealing.proofs.Lists.{At}
use Rattle.dealing.specs.Good.{Dealing, LeafCell, Mark, a_row, a_key, a_record, rows_of, key_of, inner_of, reading, Ordered, Good}
use Rattle.dealing.specs.Walk.{in_range, over_children}
use Rattle.dealing.specs.Cursor.{Path, Met, cell, stop, leaf_met, under, child_at, child_met, inner_met, listing, index_for, listing_from, top_of, stands, after}
use Rattle.dealing.specs.Cursor.{end, row_at, shown_from, first, seek, step, Runs, Rising, RowsFrom}
use Rattle.dealing.proofs.Cells.{at-is, is_at}
use Rattle.dealing.proofs.Passed.{range-in}
use Rattle.dealing.proofs.Trees.{collect}
use Rattle.dealing.proofs.LookupProof.{ordered-left, ordered-right, ordered-apart, Spot, spots, spots_from, Sure, sure-root, right-sure}
use Rattle.dealing.proofs.LookupProof.{cell-sure, marked, read-inner, spot-cell, cell-spot}
use Rattle.dealing.proofs.Listing.{or_else, shown-under, Chained, chained, Clean, paths_of, paths_from, runs-all, runs-from, from_each, from_all}
use Rattle.dealing.proofs.Listing.{from-rising, step-on, listed, paths-append, clean-right, chained-right, chained-stands, rising-right}
use Rattle.dealing.proofs.Listing.{rising-apart}

-- ---- the cells that are met, as spots
abbrev spot_of : File → Path → Spot
spot_of f y = (y.page, y.index, f.cell y.page y.index)

module _ (f : File) where
  unfoldable spots_met : List Met → List Spot
  spots_met [] = []
  spots_met (cell y ∷ ms) = spot_of f y ∷ spots_met ms
  spots_met (stop n p ∷ ms) = spots_met ms

  spots-append : (a b : List Met) → spots_met (a ++ b) ≡ spots_met a ++ spots_met b
  unfolding spots_met
  spots-append [] b = refl
  spots-append (cell y ∷ a) b = ap (λ l. spot_of f y ∷ l) (spots-append a b)
  spots-append (stop n p ∷ a) b = spots-append a b

  spots-under : (p i : ℕ) (a : List Met) → spots_met (under p i a) ≡ spots_met a
  unfolding spots_met under
  spots-under p i [] = refl
  spots-under p i (cell y ∷ a) = ap (λ l. spot_of f y ∷ l) (spots-under p i a)
  spots-under p i (stop n q ∷ a) = spots-under p i a

  spots-leaf : (p i k : ℕ) → spots_met (leaf_met p i k) ≡ spots p i (cells_from f p i k)
  unfolding spots_met leaf_met spots cells_from
  spots-leaf p i zero = refl
  spots-leaf p i (suc k) = ap (λ l. (p, i, f.cell p i) ∷ l) (spots-leaf p (suc i) k)

  path-spot : (y : Path) (ms : List Met) → Mem y (paths_of ms) → Mem (spot_of f y) (spots_met ms)
  unfolding spots_met paths_of
  path-spot y [] m = elim m [ ]
  path-spot y (cell z ∷ ms) (here e) = here (ap (spot_of f) e)
  path-spot y (cell z ∷ ms) (there m) = there (path-spot y ms m)
  path-spot y (stop n p ∷ ms) m = path-spot y ms m

  spot-path : (s : Spot) (ms : List Met) → Mem s (spots_met ms) → (y : Path) × Mem y (paths_of ms) × (spot_of f y ≡ s)
  unfolding spots_met paths_of
  spot-path s [] m = elim m [ ]
  spot-path s (cell z ∷ ms) (here e) = (z, here refl, sym e)
  spot-path s (cell z ∷ ms) (there m) = let w = spot-path s ms m in (w.0, there w.1, w.2)
  spot-path s (stop n p ∷ ms) m = spot-path s ms m

clean-append : (a b : List Met) → Clean a → Clean b → Clean (a ++ b)
clean-append [] b c d = d
clean-append (cell y ∷ a) b c d = clean-append a b c d
clean-append (stop n p ∷ a) b c d = absurd c

clean-under : (p i : ℕ) (a : List Met) → Clean a → Clean (under p i a)
unfolding under
clean-under p i [] c = tt
clean-under p i (cell y ∷ a) c = clean-under p i a c
clean-under p i (stop n q ∷ a) c = absurd c

clean-leaf : (p i k : ℕ) → Clean (leaf_met p i k)
unfolding leaf_met
clean-leaf p i zero = tt
clean-leaf p i (suc k) = clean-leaf p (suc i) k

-- ---- an interior page by the index of its children, and by the list of its cells
module _ (f : File) (p : ℕ) where
  child-cell : (i : ℕ) → i < f.count p → child_at f p i ≡ (f.cell p i).child
  unfolding child_at
  child-cell i h = rw (lt-ltb i (f.count p) h)

  child-right : (i : ℕ) → f.count p ≤ i → child_at f p i ≡ f.right p
  unfolding child_at
  child-right i h = rw (le-ltb i (f.count p) h)

  module _ (l : ℕ) (g : ℕ → List Spot)
      (fine : (j : ℕ) → j ≤ f.count p
      → (in_range f.N (child_at f p j) ≡ true) × Clean (listing f l (child_at f p j))
      × (spots_met f (listing f l (child_at f p j)) ≡ g (child_at f p j))) where
    child-spots : (i : ℕ) → i ≤ f.count p → Clean (child_met f (listing f l) p i) × (spots_met f (child_met f (listing f l) p i) ≡ g (child_at f p i))
    unfolding child_met
    child-spots i h =
        let w = fine i h in
        rw w.0 (clean-under p i (listing f l (child_at f p i)) w.1, spots-under f p i (listing f l (child_at f p i)) ∙ w.2)

    inner-spots : (i k : ℕ) → i + k ≡ f.count p
        → Clean (inner_met f (listing f l) p i (suc k)) × (spots_met f (inner_met f (listing f l) p i (suc k)) ≡ over_children g (f.right p) (cells_from f p i k))
    unfolding inner_met over_children cells_from
    inner-spots i zero e =
        let w = child-spots i (omega arith) in (
          clean-append (child_met f (listing f l) p i) [] w.0 tt,
          ap (spots_met f) (append-nil (child_met f (listing f l) p i)) ∙ w.1 ∙ ap g (child-right i (omega arith)),
        )
    inner-spots i (suc k) e =
        let w = child-spots i (omega arith) in
        let u = inner-spots (suc i) k (omega arith) in (
          clean-append (child_met f (listing f l) p i) (inner_met f (listing f l) p (suc i) (suc k)) w.0 u.0,
          spots-append f (child_met f (listing f l) p i) (inner_met f (listing f l) p (suc i) (suc k))
              ∙ ap (λ s. s ++ spots_met f (inner_met f (listing f l) p (suc i) (suc k))) (w.1 ∙ ap g (child-cell i (omega arith)))
              ∙ ap (λ s. g (f.cell p i).child ++ s) u.1,
        )

-- ---- rows in a reading
unfoldable rows_in : List Mark → List ℕ
rows_in [] = []
rows_in (a_row x ∷ m) = x ∷ rows_in m
rows_in (a_key x ∷ m) = rows_in m
rows_in (a_record v ∷ m) = rows_in m

rows_append : (a b : List Mark) → rows_in (a ++ b) ≡ rows_in a ++ rows_in b
unfolding rows_in
rows_append [] b = refl
rows_append (a_row x ∷ a) b = ap (λ l. x ∷ l) (rows_append a b)
rows_append (a_key x ∷ a) b = rows_append a b
rows_append (a_record v ∷ a) b = rows_append a b

row-mark : (x : ℕ) (m : List Mark) → Mem x (rows_in m) → Mem (a_row x) m
unfolding rows_in
row-mark x [] k = elim k [ ]
row-mark x (a_row y ∷ m) (here e) = here (ap a_row e)
row-mark x (a_row y ∷ m) (there k) = there (row-mark x m k)
row-mark x (a_key y ∷ m) k = there (row-mark x m k)
row-mark x (a_record v ∷ m) k = there (row-mark x m k)

abbrev Climbs : List ℕ → Type 0
Climbs [] = Unit {0}
Climbs (x ∷ xs) = ((y : ℕ) → Mem y xs → x < y) × Climbs xs

ordered-climbs : (m : List Mark) → Ordered m → Climbs (rows_in m)
unfolding rows_in
ordered-climbs [] o = tt
ordered-climbs (a_row x ∷ m) o = (λ y k. o.0 (a_row y) (row-mark y m k), ordered-climbs m o.1)
ordered-climbs (a_key x ∷ m) o = ordered-climbs m o.1
ordered-climbs (a_record v ∷ m) o = ordered-climbs m o.1

unfoldable spot_rows : List Spot → List ℕ
spot_rows [] = []
spot_rows (s ∷ ss) = s.2.row ∷ spot_rows ss

spot-rows-append : (a b : List Spot) → spot_rows (a ++ b) ≡ spot_rows a ++ spot_rows b
unfolding spot_rows
spot-rows-append [] b = refl
spot-rows-append (s ∷ a) b = ap (λ l. s.2.row ∷ l) (spot-rows-append a b)

spot-row : (s : Spot) (ss : List Spot) → Mem s ss → Mem s.2.row (spot_rows ss)
unfolding spot_rows
spot-row s (t ∷ ss) (here e) = here (ap (λ (s : Spot). s.2.row) e)
spot-row s (t ∷ ss) (there m) = there (spot-row s ss m)
spot-row s [] x' = elim x' [ ]

rising : (f : File) (ms : List Met) → Climbs (spot_rows (spots_met f ms)) → Rising f (paths_of ms)
unfolding spots_met paths_of spot_rows
rising f [] c = tt
rising f (cell y ∷ ms) c = (λ z m. c.0 (row_at f z) (spot-row (spot_of f z) (spots_met f ms) (path-spot f z ms m)), rising f ms c.1)
rising f (stop n p ∷ ms) c = rising f ms c

leaf-rows : (p i : ℕ) (cs : List Cell) → rows_in (rows_of false true cs) ≡ spot_rows (spots p i cs)
unfolding rows_in rows_of spot_rows spots
leaf-rows p i [] = refl
leaf-rows p i (c ∷ cs) = ap (λ l. c.row ∷ l) (leaf-rows p (suc i) cs)

inner-rows : (g : ℕ → List Mark) (h : ℕ → List Spot) (r : ℕ) (cs : List Cell) → rows_in (g r) ≡ spot_rows (h r)
    → ((j : ℕ) (c : Cell) → At cs j c → rows_in (g c.child) ≡ spot_rows (h c.child)) → rows_in (inner_of g false true r cs) ≡ spot_rows (over_children h r cs)
unfolding inner_of over_children key_of rows_in
inner-rows g h r [] e k = e
inner-rows g h r (c ∷ cs) e k =
    rows_append (g c.child) (a_key c.row ∷ inner_of g false true r cs)
    ∙ ap (λ l. l ++ rows_in (inner_of g false true r cs)) (k 0 c refl)
    ∙ ap (λ l. spot_rows (h c.child) ++ l) (inner-rows g h r cs e (λ j x a. k (suc j) x a))
    ∙ sym (spot-rows-append (h c.child) (over_children h r cs))

-- ---- parts of an interior page's reading
module _ (g : ℕ → List Mark) (r : ℕ) where
  right-ordered : (cs : List Cell) → Ordered (inner_of g false true r cs) → Ordered (g r)
  unfolding inner_of
  right-ordered [] o = o
  right-ordered (c ∷ cs) o =
      right-ordered cs (ordered-right (key_of false true c) (inner_of g false true r cs)
      (ordered-right (g c.child) (key_of false true c ++ inner_of g false true r cs) o))

  child-ordered : (cs : List Cell) → Ordered (inner_of g false true r cs) → (j : ℕ) (c : Cell) → At cs j c → Ordered (g c.child)
  unfolding inner_of
  child-ordered [] o j c a = absurd (let z : ◌≡◌ {A = ℕ} 0 1 = cc in omega arith)
  child-ordered (x ∷ cs) o zero c a =
      let e : x ≡ c = cc in
      subst (λ (c : Cell). Ordered (g c.child)) e (ordered-left (g x.child) (key_of false true x ++ inner_of g false true r cs) o)
  child-ordered (x ∷ cs) o (suc j) c a =
      child-ordered cs (ordered-right (key_of false true x) (inner_of g false true r cs)
      (ordered-right (g x.child) (key_of false true x ++ inner_of g false true r cs) o)) j c a

  -- rows under a cell's child are at most its key
  key_above : (cs : List Cell) → Ordered (inner_of g false true r cs) → (j : ℕ) (c : Cell) → At cs j c → (y : ℕ) → Mem (a_row y) (g c.child) → y ≤ c.row
  unfolding inner_of key_of
  key_above [] o j c a y m = absurd (let z : ◌≡◌ {A = ℕ} 0 1 = cc in omega arith)
  key_above (x ∷ cs) o zero c a y m =
      let e : c ≡ x = cc in
      subst (λ (c : Cell). y ≤ c.row) (sym e)
      (ordered-apart (g x.child) (a_key x.row ∷ inner_of g false true r cs) o (a_row y) (a_key x.row)
      (subst (λ (c : Cell). Mem (a_row y) (g c.child)) e m) (here refl))
  key_above (x ∷ cs) o (suc j) c a y m =
      key_above cs (ordered-right (key_of false true x) (inner_of g false true r cs)
      (ordered-right (g x.child) (key_of false true x ++ inner_of g false true r cs) o)) j c a y m

-- ---- the children that are passed over show nothing
all-low : (f : File) (x : ℕ) (ms : List Met) → Clean ms → ((y : Path) → Mem y (paths_of ms) → row_at f y < x) → shown_from f x ms ≡ end
unfolding shown_from paths_of
all-low f x [] c h = refl
all-low f x (cell y ∷ ms) c h = rw (lt-leb x (row_at f y) (h y (here refl))) (all-low f x ms c (λ z m. h z (there m)))
all-low f x (stop n p ∷ ms) c h = absurd c

module _ (f : File) (x l p : ℕ)
    (ranged : (j : ℕ) → j ≤ f.count p → in_range f.N (child_at f p j) ≡ true)
    (same : (j : ℕ) → j ≤ f.count p → shown_from f x (listing_from f x l (child_at f p j)) ≡ shown_from f x (listing f l (child_at f p j)))
    (low : (j : ℕ) → j < f.count p → (f.cell p j).row < x → shown_from f x (listing f l (child_at f p j)) ≡ end) where
  opened : (below : ℕ → List Met) (i : ℕ) (rest : List Met) → i ≤ f.count p
      → shown_from f x (child_met f below p i ++ rest) ≡ or_else p i (shown_from f x (below (child_at f p i))) (shown_from f x rest)
  unfolding child_met
  opened below i rest h = rw (ranged i h) (shown-under f x p i (below (child_at f p i)) rest)

  here-same : (i k : ℕ) → i + k ≡ f.count p
      → shown_from f x (child_met f (listing_from f x l) p i ++ inner_met f (listing f l) p (suc i) (f.count p - i))
      ≡ shown_from f x (inner_met f (listing f l) p i (suc k))
  unfolding inner_met
  here-same i k e =
      let z : f.count p - i ≡ k = omega arith in
      ap (λ k. shown_from f x (child_met f (listing_from f x l) p i ++ inner_met f (listing f l) p (suc i) k)) z
      ∙ opened (listing_from f x l) i (inner_met f (listing f l) p (suc i) k) (omega arith)
      ∙ ap (λ a. or_else p i a (shown_from f x (inner_met f (listing f l) p (suc i) k))) (same i (omega arith))
      ∙ sym (opened (listing f l) i (inner_met f (listing f l) p (suc i) k) (omega arith))

  inner-same : (i k : ℕ) → i + k ≡ f.count p
      → shown_from f x (child_met f (listing_from f x l) p (index_for f x p i k)
      ++ inner_met f (listing f l) p (suc (index_for f x p i k)) (f.count p - index_for f x p i k))
      ≡ shown_from f x (inner_met f (listing f l) p i (suc k))
  unfolding index_for
  inner-same i zero e = here-same i zero e
  inner-same i (suc k) e = go (leb x (f.cell p i).row) refl (inner-same (suc i) k (omega arith))
    where
      m : ℕ
      m = index_for f x p (suc i) k

      go : (t : Bool) → leb x (f.cell p i).row ≡ t
          → shown_from f x (child_met f (listing_from f x l) p m ++ inner_met f (listing f l) p (suc m) (f.count p - m))
          ≡ shown_from f x (inner_met f (listing f l) p (suc i) (suc k))
          → shown_from f x (child_met f (listing_from f x l) p (cond t i m) ++ inner_met f (listing f l) p (suc (cond t i m)) (f.count p - cond t i m))
          ≡ shown_from f x (inner_met f (listing f l) p i (suc (suc k)))
      go true t ih = here-same i (suc k) e
      go false t ih =
          let h = leb-false x (f.cell p i).row t in
          ih
          ∙ sym (ap (λ a. or_else p i a (shown_from f x (inner_met f (listing f l) p (suc i) (suc k)))) (low i (omega arith) (omega arith)))
          ∙ sym (opened (listing f l) i (inner_met f (listing f l) p (suc i) (suc k)) (omega arith))
          ∙ unfold inner_met in refl

-- ---- a good file, at a table root
module _ (f : File) (d : Dealing) (g : Good f d) (r : ℕ) (root-page : Page f r) (root-kind : d.kind r ≡ root_kind) (root-table : is_table f r ≡ true) where
  abbrev Tree : ℕ → ℕ → Type 0
  Tree n q = Sure f d g r root-page root-kind root-table n q

  abbrev cells_under : ℕ → ℕ → List Spot
  cells_under = spots_from f d g r root-page root-kind root-table

  child-sure : (n q : ℕ) → Tree n q → is_leaf f q ≡ false → (j : ℕ) → Tree (suc n) (child_at f q j)
  child-sure n q S e j = go (ltb j (f.count q)) refl
    where
      go : (t : Bool) → ltb j (f.count q) ≡ t → Tree (suc n) (child_at f q j)
      go true t =
          let h = ltb-true j (f.count q) t in
          subst (Tree (suc n)) (sym (child-cell f q j h)) (cell-sure f d g r root-page root-kind root-table n q S e j (f.cell q j) (is_at f q j h))
      go false t = subst (Tree (suc n)) (sym (child-right f q j (ltb-false j (f.count q) t))) (right-sure f d g r root-page root-kind root-table n q S e)

  -- nothing is refused, and the cells are those of the tree
  whole : (l n q : ℕ) → Tree n q → n + l ≡ 21 → Clean (listing f l q) × (spots_met f (listing f l q) ≡ cells_under l q)
  unfolding listing collect cells_of
  whole zero n q S e = absurd (let h = S.depth in omega arith)
  whole (suc l) n q S e = rw S.fault (go (λ c T. whole l (suc n) c T (omega arith)) (is_leaf f q) refl)
    where
      go : ((c : ℕ) → Tree (suc n) c → Clean (listing f l c) × (spots_met f (listing f l c) ≡ cells_under l c)) → (t : Bool) → is_leaf f q ≡ t
          → Clean (cond t (leaf_met q 0 (f.count q)) (inner_met f (listing f l) q 0 (suc (f.count q))))
          × (spots_met f (cond t (leaf_met q 0 (f.count q)) (inner_met f (listing f l) q 0 (suc (f.count q))))
          ≡ cond t (spots q 0 (cells_from f q 0 (f.count q))) (over_children (cells_under l) (f.right q) (cells_from f q 0 (f.count q))))
      go ih true t = (clean-leaf q 0 (f.count q), spots-leaf f q 0 (f.count q))
      go ih false t =
          inner-spots f q l (cells_under l)
          (λ j h. let T = child-sure n q S t j in let w = ih (child_at f q j) T in (range-in f.N (child_at f q j) T.page.0 T.page.1, w.0, w.1))
          0 (f.count q) (omega arith)

  rows-read : (l n q : ℕ) → Tree n q → rows_in (reading f false l q) ≡ spot_rows (cells_under l q)
  unfolding reading collect rows_in spot_rows
  rows-read zero n q S = refl
  rows-read (suc l) n q S = rw S.table (go (λ c T. rows-read l (suc n) c T) (is_leaf f q) refl)
    where
      go : ((c : ℕ) → Tree (suc n) c → rows_in (reading f false l c) ≡ spot_rows (cells_under l c)) → (t : Bool) → is_leaf f q ≡ t
          → rows_in (cond t (rows_of false true (cells_of f q)) (inner_of (reading f false l) false true (f.right q) (cells_of f q)))
          ≡ spot_rows (cond t (spots q 0 (cells_of f q)) (over_children (cells_under l) (f.right q) (cells_of f q)))
      go ih true t = leaf-rows q 0 (cells_of f q)
      go ih false t =
          inner-rows (reading f false l) (cells_under l) (f.right q) (cells_of f q) (ih (f.right q) (right-sure f d g r root-page root-kind root-table n q S t))
          (λ j c a. ih c.child (cell-sure f d g r root-page root-kind root-table n q S t j c a))

  -- from where lookup goes down it shows the same
  shown-same : (x l n q : ℕ) → Tree n q → n + l ≡ 21 → Ordered (reading f false l q) → shown_from f x (listing_from f x l q) ≡ shown_from f x (listing f l q)
  unfolding listing listing_from
  shown-same x zero n q S e o = refl
  shown-same x (suc l) n q S e o = rw S.fault (go (λ c T. shown-same x l (suc n) c T (omega arith)) (is_leaf f q) refl)
    where
      k : ℕ
      k = f.count q

      go : ((c : ℕ) → Tree (suc n) c → Ordered (reading f false l c) → shown_from f x (listing_from f x l c) ≡ shown_from f x (listing f l c))
          → (t : Bool) → is_leaf f q ≡ t
          → shown_from f x (cond t (leaf_met q 0 k)
          (child_met f (listing_from f x l) q (index_for f x q 0 k) ++ inner_met f (listing f l) q (suc (index_for f x q 0 k)) (k - index_for f x q 0 k)))
          ≡ shown_from f x (cond t (leaf_met q 0 k) (inner_met f (listing f l) q 0 (suc k)))
      go ih true t = refl
      go ih false t = inner-same f x l q ranged same low 0 k (omega arith)
        where
          inner : Ordered (inner_of (reading f false l) false true (f.right q) (cells_of f q))
          inner = read-inner f d g r root-page root-kind root-table l n q S t o

          ranged : (j : ℕ) → j ≤ k → in_range f.N (child_at f q j) ≡ true
          ranged j h = let T = child-sure n q S t j in range-in f.N (child_at f q j) T.page.0 T.page.1

          ordered : (j : ℕ) → Ordered (reading f false l (child_at f q j))
          ordered j = by-case (ltb j k) refl
            where
              by-case : (u : Bool) → ltb j k ≡ u → Ordered (reading f false l (child_at f q j))
              by-case true u =
                  let h = ltb-true j k u in
                  subst (λ c. Ordered (reading f false l c)) (sym (child-cell f q j h))
                  (child-ordered (reading f false l) (f.right q) (cells_of f q) inner j (f.cell q j) (is_at f q j h))
              by-case false u =
                  subst (λ c. Ordered (reading f false l c)) (sym (child-right f q j (ltb-false j k u)))
                  (right-ordered (reading f false l) (f.right q) (cells_of f q) inner)

          same : (j : ℕ) → j ≤ k → shown_from f x (listing_from f x l (child_at f q j)) ≡ shown_from f x (listing f l (child_at f q j))
          same j h = ih (child_at f q j) (child-sure n q S t j) (ordered j)

          low : (j : ℕ) → j < k → (f.cell q j).row < x → shown_from f x (listing f l (child_at f q j)) ≡ end
          low j h less =
              let T = child-sure n q S t j in
              let w = whole l (suc n) (child_at f q j) T (omega arith) in
              all-low f x (listing f l (child_at f q j)) w.0
              (λ y m.
              let s : Mem (spot_of f y) (cells_under l (child_at f q j)) =
              subst (λ ss. Mem (spot_of f y) ss) w.1 (path-spot f y (listing f l (child_at f q j)) m) in
              let a = marked f d g r root-page root-kind root-table l (suc n) (child_at f q j) T (spot_of f y) s in
              let b =
              key_above (reading f false l) (f.right q) (cells_of f q) inner j (f.cell q j) (is_at f q j h) (row_at f y)
              (subst (λ c. Mem (a_row (row_at f y)) (reading f false l c)) (child-cell f q j h) a) in
              omega arith)

  root-sure : Tree 1 r
  root-sure = sure-root f d g r root-page root-kind root-table

  abbrev all-met : List Met
  all-met = listing f 20 r

  met-clean : Clean all-met
  met-clean = (whole 20 1 r root-sure (omega arith)).0

  met-spots : spots_met f all-met ≡ cells_under 20 r
  met-spots = (whole 20 1 r root-sure (omega arith)).1

  met-rising : Rising f (paths_of all-met)
  met-rising =
      rising f all-met (subst Climbs (rows-read 20 1 r root-sure ∙ ap spot_rows (sym met-spots))
      (ordered-climbs (reading f false 20 r) (g.rule_25 r root-page root-kind)))

  met-each : (y : Path) → Mem y (paths_of all-met) → LeafCell f d r y.page y.index
  met-each y m =
      let t = spot-cell f d g r root-page root-kind root-table (spot_of f y) (subst (λ ss. Mem (spot_of f y) ss) met-spots (path-spot f y all-met m)) in
      (t.0, t.1, (at-is f y.page y.index (f.cell y.page y.index) t.2).0)

  met_all : (q j : ℕ) → LeafCell f d r q j → (y : Path) × Mem y (paths_of all-met) × (y.page ≡ q) × (y.index ≡ j)
  met_all q j t =
      let m = cell-spot f d g r root-page root-kind root-table q j (f.cell q j) (t.0, t.1, is_at f q j t.2) in
      let w = spot-path f (q, j, f.cell q j) all-met (subst (λ ss. Mem (q, j, f.cell q j) ss) (sym met-spots) m) in
      (w.0, w.1, ap (λ (s : Spot). s.0) w.2, ap (λ (s : Spot). s.1) w.2)

  ranged-root : in_range f.N r ≡ true
  ranged-root = range-in f.N r root-page.0 root-page.1

  met-chained : Chained f 20 r all-met
  met-chained = chained f 20 r ranged-root

  rows-from : (x : ℕ) → RowsFrom f d r x (paths_from f x all-met)
  rows-from x =
      record {
        standing = λ y m. chained-stands f r all-met met-chained y (from_each f x all-met met-rising y m).0;
        each = λ y m. let w = from_each f x all-met met-rising y m in (met-each y w.0, w.1);
        all = λ q j t h.
            let w = met_all q j t in
            let e : row_at f w.0 ≡ (f.cell q j).row = ap (λ p. (f.cell p w.0.index).row) w.2 ∙ ap (λ i. (f.cell q i).row) w.3 in
            (w.0, from_all f x all-met met-clean w.0 w.1 (omega arith), w.2, w.3);
        rising = from-rising f x all-met met-rising;
      }

  pub first_runs : (ys : List Path) × Runs f (first f r) ys × RowsFrom f d r 0 ys
  first_runs = (
    paths_from f 0 all-met,
    unfold first in rw ranged-root (runs-from f r 0 all-met met-clean met-chained),
    rows-from 0,
  )

  pub seek-runs : (x : ℕ) → (ys : List Path) × Runs f (seek f r x) ys × RowsFrom f d r x ys
  seek-runs x = (
    paths_from f x all-met,
    unfold seek in rw ranged-root
        (subst (λ a. Runs f a (paths_from f x all-met)) (sym (shown-same x 20 1 r root-sure (omega arith) (g.rule_25 r root-page root-kind)))
        (runs-from f r x all-met met-clean met-chained)),
    rows-from x,
  )

  -- from a path that stands under the root
  module _ (y : Path) (top : top_of y.above y.page ≡ r) (standing : stands f y ≡ true) where
    split : (pre : List Met) × (all-met ≡ pre ++ cell y ∷ after f y)
    split = subst (λ p. (pre : List Met) × (listing f 20 p ≡ pre ++ cell y ∷ after f y)) top (listed f 20 y.above y.page y.index standing)

    paths-split : paths_of all-met ≡ paths_of split.0 ++ (y ∷ paths_of (after f y))
    unfolding paths_of
    paths-split = ap paths_of split.1 ∙ paths-append split.0 (cell y ∷ after f y)

    rising-split : Rising f (paths_of split.0 ++ (y ∷ paths_of (after f y)))
    rising-split = subst (Rising f) paths-split met-rising

    rising-here : Rising f (y ∷ paths_of (after f y))
    rising-here = rising-right f (paths_of split.0) (y ∷ paths_of (after f y)) rising-split

    clean_after : Clean (after f y)
    clean_after = clean-right split.0 (cell y ∷ after f y) (subst Clean split.1 met-clean)

    chained-after : Chained f 20 r (after f y)
    chained-after = (chained-right f 20 r split.0 (cell y ∷ after f y) (subst (Chained f 20 r) split.1 met-chained)).3

    later : (z : Path) → Mem z (paths_of split.0 ++ (y ∷ paths_of (after f y))) → row_at f y < row_at f z → Mem z (paths_of (after f y))
    later z m h = go (append_cases (paths_of split.0) m)
      where
        go : Mem z (paths_of split.0) ⊎ Mem z (y ∷ paths_of (after f y)) → Mem z (paths_of (after f y))
        go (inl a) = absurd (let b = rising-apart f (paths_of split.0) (y ∷ paths_of (after f y)) rising-split z y a (here refl) in omega arith)
        go (inr (here e)) = absurd (let b : row_at f z ≡ row_at f y = ap (row_at f) e in omega arith)
        go (inr (there m)) = m

    pub step-runs : (ys : List Path) × Runs f (step f y) ys × RowsFrom f d r (suc (row_at f y)) ys
    step-runs = (
      paths_of (after f y),
      subst (λ a. Runs f a (paths_of (after f y))) (sym (step-on f r y (after f y) standing refl)) (runs-all f r (after f y) clean_after chained-after),
      record {
        standing = λ z m. chained-stands f r (after f y) chained-after z m;
        each = λ z m.
            let n : Mem z (paths_of all-met) = subst (λ l. Mem z l) (sym paths-split) (append_right (paths_of split.0) (there m)) in
            let h = rising-here.0 z m in
            (met-each z n, omega arith);
        all = λ q j t h.
            let w = met_all q j t in
            let e : row_at f w.0 ≡ (f.cell q j).row = ap (λ p. (f.cell p w.0.index).row) w.2 ∙ ap (λ i. (f.cell q i).row) w.3 in
            (w.0, later w.0 (subst (λ l. Mem w.0 l) paths-split w.1) (omega arith), w.2, w.3);
        rising = rising-here.1;
      },
    )
