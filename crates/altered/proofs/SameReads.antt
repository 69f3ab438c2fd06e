-- Two files that agree where a good dealing of the first looks: count, lookup, cursor and chains are alike in both.
use mathlib.Core.Path.{◌≡◌, refl, sym, ◌∙◌, ap, ap₂, subst}
use mathlib.Core.Bool.{Bool, true, false, cond, not, ◌&&◌}
use mathlib.Core.Logic.{◌⊎◌, inl, inr}
use mathlib.Core.List.{List, [], ◌∷◌, ◌++◌}
use Prim.Native.Nat.{ℕ, zero, suc, ◌+◌, ◌-◌, ◌≤◌, ◌<◌}
use native.Mathlib.Omega.{arith}
use lib.Dec.{eqb, leb, ltb}
use lib.ListN.{length, get_or}
use borrow.Author.Tests.{eqb-true, ltb-true}
use Rattle.page.proofs.Spans.{order}
use Rattle.dealing.specs.File.{Cell, File, Page, is_leaf, is_table, Interior, HasPayload, cells_from, cells_of, Place, table_page, level_limit}
use Rattle.dealing.specs.Good.{Dealing, TreePage, Good}
use Rattle.dealing.specs.Walk.{fault_in, in_range}
use Rattle.dealing.specs.Spelling.{long_cells, is_tree, long_on, long_to, long_in}
use Rattle.dealing.specs.Lookup.{child_for, cell_for, unless, lookup_page, lookup, follow_cell}
use Rattle.dealing.specs.Lookup as L
use Rattle.dealing.specs.Cursor.{Path, Met, cell, stop, leaf_met, under, child_at, child_met, inner_met, unless_stop, listing, index_for}
use Rattle.dealing.specs.Cursor.{listing_from, top_of, stands_in, after_in}
use Rattle.dealing.specs.Cursor.{Shown, end, at, refuses, row_at, shown_from, first, seek, step_in, step}
use Rattle.dealing.proofs.Lists.{At}
use Rattle.dealing.proofs.Spelled.{tree_is}
use Rattle.dealing.proofs.Listing.{both, not-true}
use Rattle.dealing.proofs.Theorems.{payload-followed}
use Rattle.altered.proofs.Same.{bares, by_bare, Same, AllNumbers, same_good, page-to, leaf-same, has_same, all-cells, right-tree, cell-tree, listed-tree}

-- lists of one length with the same entries are one list
pub entries-same : (l m : List ℕ) → length l ≡ length m → ((i : ℕ) → i < length l → get_or l i 0 ≡ get_or m i 0) → l ≡ m
entries-same [] [] e k = refl
entries-same [] (y ∷ m) e k = absurd (omega arith)
entries-same (x ∷ l) [] e k = absurd (omega arith)
entries-same (x ∷ l) (y ∷ m) e k = ap₂ ◌∷◌ (k 0 (omega arith)) (entries-same l m (omega arith) (λ i h. k (suc i) (omega arith)))

-- the child that lookup goes to is the right child or a cell's
child-for : (P : ℕ → Type 0) (x r : ℕ) (cs : List Cell) → P r → ((j : ℕ) (c : Cell) → At cs j c → P c.child) → P (child_for x r cs)
unfolding child_for
child-for P x r [] e k = e
child-for P x r (c ∷ cs) e k = go (leb x c.row) (child-for P x r cs e (λ j y a. k (suc j) y a))
  where
    go : (t : Bool) → P (child_for x r cs) → P (cond t c.child (child_for x r cs))
    go true ih = k 0 c refl
    go false ih = ih

child-for-bare : (x r : ℕ) (t : Bool) (cs : List Cell) → child_for x r (bares t cs) ≡ child_for x r cs
unfolding child_for bares
child-for-bare x r t [] = refl
child-for-bare x r t (c ∷ cs) = ap (cond (leb x c.row) c.child) (child-for-bare x r t cs)

-- an answer of lookup with the length that its cell has in f
abbrev pub answer_in : File → L.Answer → L.Answer
answer_in f L.nowhere = L.nowhere
answer_in f (L.shows p i n) = L.shows p i (f.cell p i).length
answer_in f (L.refuses n p) = L.refuses n p

and_same : (a x y : Bool) → (a ≡ true → x ≡ y) → (a && x) ≡ (a && y)
and_same true x y e = e refl
and_same false x y e = refl

module _ (f f' : File) (d : Dealing) (some : 1 ≤ f.N) (S : Same f f' d) (g : Good f d) where
  good : Good f' d
  good = same_good f f' d some S g

  abbrev Tree : ℕ → Type 0
  Tree q = Page f q × TreePage d q

  range_same : (t : ℕ) → in_range f'.N t ≡ in_range f.N t
  range_same t = ap (λ n. in_range n t) S.N

  pub row_is : (q : ℕ) → Tree q → (i : ℕ) → i < f.count q → (f'.cell q i).row ≡ (f.cell q i).row
  row_is q t i h = ap (λ (c : Cell). c.row) (S.cell q i t.0 t.1 h)

  -- ---- the count
  abbrev Long : (q j : ℕ) → Type 0
  Long q j = (f'.cell q j).long ≡ (f.cell q j).long

  cells-long : (q n : ℕ) → ((j : ℕ) → j < n → Long q j) → long_cells f' q n ≡ long_cells f q n
  unfolding long_cells
  cells-long q zero w = refl
  cells-long q (suc n) w = omega (arith, cells-long q n (λ j l. w j (omega arith)), w n (omega arith))

  page-long : (q : ℕ) → Page f q → (TreePage d q → (j : ℕ) → j < f.count q → Long q j) → long_on f' (d.kind q) q ≡ long_on f (d.kind q) q
  unfolding long_on
  page-long q h w = go (is_tree (d.kind q)) refl
    where
      go : (t : Bool) → is_tree (d.kind q) ≡ t → cond t (long_cells f' q (f'.count q)) 0 ≡ cond t (long_cells f q (f.count q)) 0
      go true e = let t = tree_is d q e in ap (long_cells f' q) (S.count q h t) ∙ cells-long q (f.count q) (w t)
      go false e = refl

  to-long : (n : ℕ) → n ≤ f.N → ((q j : ℕ) → q ≤ n → Page f q → TreePage d q → j < f.count q → Long q j)
      → long_to f' d.kind n ≡ long_to f d.kind n
  unfolding long_to
  to-long zero h w = refl
  to-long (suc n) h w =
      omega (
        arith,
        to-long n (omega arith) (λ q j a b t l. w q j (omega arith) b t l),
        page-long (suc n) (omega arith) (λ t j l. w (suc n) j (omega arith) (omega arith) t l),
      )

  -- the numbers spelled long are as many
  pub long_same : AllNumbers f f' d → long_in f' d ≡ long_in f d
  long_same w = ap (long_to f' d.kind) S.N ∙ to-long f.N (omega arith) (λ q j a h t l. (w q j h t l).long)

  -- one cell alone has another count
  module _ (page cell : ℕ) (tree : Tree page) (index : cell < f.count page)
      (rest : (q j : ℕ) → Page f q → TreePage d q → j < f.count q → ((q ≡ page) × (j ≡ cell) → ⊥) → Long q j) where
    abbrev now : ℕ
    now = (f'.cell page cell).long

    abbrev was : ℕ
    was = (f.cell page cell).long

    cells-but : (n : ℕ) → n ≤ f.count page → cell < n → long_cells f' page n + was ≡ long_cells f page n + now
    unfolding long_cells
    cells-but zero h l = absurd (omega arith)
    cells-but (suc n) h l = go (cells-but n (omega arith)) (order cell n)
      where
        go : (cell < n → long_cells f' page n + was ≡ long_cells f page n + now) → (cell < n) ⊎ ((cell ≡ n) ⊎ (n < cell))
            → long_cells f' page (suc n) + was ≡ long_cells f page (suc n) + now
        go ih (inl m) = unfold long_cells in omega (arith, ih m, rest page n tree.0 tree.1 (omega arith) (λ z. omega (arith, z.1)))
        go ih (inr (inl e)) =
            let x : (f'.cell page n).long ≡ now = ap (λ i. (f'.cell page i).long) (sym e) in
            let y : (f.cell page n).long ≡ was = ap (λ i. (f.cell page i).long) (sym e) in
            unfold long_cells in omega (arith, cells-long page n (λ j a. rest page j tree.0 tree.1 (omega arith) (λ z. omega (arith, z.1))), x, y)
        go ih (inr (inr m)) = absurd (omega arith)

    page-but : long_on f' (d.kind page) page + was ≡ long_on f (d.kind page) page + now
    unfolding long_on
    page-but =
        let e = is-tree tree.1 in
        rw (e, S.count page tree.0 tree.1) (cells-but (f.count page) (omega arith) index)
      where
        is-tree : TreePage d page → is_tree (d.kind page) ≡ true
        is-tree (inl k) = rw k refl
        is-tree (inr k) = rw k refl

    to-but : (n : ℕ) → n ≤ f.N → page ≤ n → long_to f' d.kind n + was ≡ long_to f d.kind n + now
    unfolding long_to
    to-but zero h l = absurd (omega (arith, tree.0.0))
    to-but (suc n) h l = go (to-but n (omega arith)) (order page (suc n))
      where
        go : (page ≤ n → long_to f' d.kind n + was ≡ long_to f d.kind n + now) → (page < suc n) ⊎ ((page ≡ suc n) ⊎ (suc n < page))
            → long_to f' d.kind (suc n) + was ≡ long_to f d.kind (suc n) + now
        go ih (inl m) =
            unfold long_to in omega (arith, ih (omega arith), page-long (suc n) (omega arith) (λ t j i. rest (suc n) j (omega arith) t i (λ z. omega (arith, z.0))))
        go ih (inr (inl e)) =
            let x : long_on f' (d.kind (suc n)) (suc n) ≡ long_on f' (d.kind page) page = ap (λ q. long_on f' (d.kind q) q) (sym e) in
            let y : long_on f (d.kind (suc n)) (suc n) ≡ long_on f (d.kind page) page = ap (λ q. long_on f (d.kind q) q) (sym e) in
            unfold long_to in omega (arith, page-but, x, y, to-long n (omega arith) (λ q j a b t i. rest q j b t i (λ z. omega (arith, z.0))))
        go ih (inr (inr m)) = absurd (omega arith)

    pub long-but : long_in f' d + was ≡ long_in f d + now
    long-but =
        let e : long_in f' d ≡ long_to f' d.kind f.N = ap (long_to f' d.kind) S.N in
        omega (arith, e, to-but f.N (omega arith) tree.0.1)

  -- ---- chains: in both they are followed to their end
  pub chain-followed : (q j : ℕ) → Tree q → HasPayload f q → j < f.count q
      → follow_cell f' q (f'.cell q j).links (f'.cell q j).first ≡ follow_cell f q (f.cell q j).links (f.cell q j).first
  chain-followed q j t p i =
      payload-followed f' d good q j (page-to f f' d some S g q t.0) t.1 (has_same f f' d some S g q t.0 t.1 ∙ p)
      (omega (arith, S.count q t.0 t.1))
      ∙ sym (payload-followed f d g q j t.0 t.1 p i)

  -- ---- lookup, from any tree page
  fault-same : (q : ℕ) → Tree q → (place : Place) → fault_in f' place q ≡ fault_in f place q
  unfolding fault_in
  fault-same q t place = rw (S.type q t.0 t.1, S.broken q t.0 t.1) refl

  leaf-is : (q : ℕ) → Tree q → is_leaf f' q ≡ is_leaf f q
  leaf-is q t = leaf-same f f' d some S g q t.0 t.1

  child-for-same : (q : ℕ) → Tree q → (x r : ℕ) → child_for x r (cells_of f' q) ≡ child_for x r (cells_of f q)
  child-for-same q t x r =
      by_bare (child_for x r) (is_table f q) (child-for-bare x r (is_table f q)) (cells_of f' q) (cells_of f q) (all-cells f f' d some S g q t.0 t.1)

  -- a cell that is shown is one of a tree page, with its own length
  abbrev Sees : L.Answer → Type 0
  Sees L.nowhere = Unit {0}
  Sees (L.shows p i n) = Tree p × (i < f.count p) × (n ≡ (f.cell p i).length)
  Sees (L.refuses n p) = Unit {0}

  -- the same answer but for the length, which is the cell's in f'
  abbrev pub Looked : (a' a : L.Answer) → Type 0
  Looked a' a = (a' ≡ answer_in f' a) × Sees a

  cells-looked : (q : ℕ) → Tree q → (x i k : ℕ) → i + k ≤ f.count q → Looked (cell_for x q i (cells_from f' q i k)) (cell_for x q i (cells_from f q i k))
  unfolding cell_for cells_from
  cells-looked q t x i zero h = (refl, tt)
  cells-looked q t x i (suc k) h =
      subst (λ r. Looked (cond (eqb r x) (L.shows q i (f'.cell q i).length) (cell_for x q (suc i) (cells_from f' q (suc i) k)))
      (cond (eqb (f.cell q i).row x) (L.shows q i (f.cell q i).length) (cell_for x q (suc i) (cells_from f q (suc i) k))))
      (sym (row_is q t i (omega arith))) (go (eqb (f.cell q i).row x) (cells-looked q t x (suc i) k (omega arith)))
    where
      go : (b : Bool) → Looked (cell_for x q (suc i) (cells_from f' q (suc i) k)) (cell_for x q (suc i) (cells_from f q (suc i) k))
          → Looked (cond b (L.shows q i (f'.cell q i).length) (cell_for x q (suc i) (cells_from f' q (suc i) k)))
          (cond b (L.shows q i (f.cell q i).length) (cell_for x q (suc i) (cells_from f q (suc i) k)))
      go true ih = (refl, (t, omega arith, refl))
      go false ih = ih

  cell-for-looked : (q : ℕ) → Tree q → (x : ℕ) → Looked (cell_for x q 0 (cells_of f' q)) (cell_for x q 0 (cells_of f q))
  unfolding cells_of
  cell-for-looked q t x =
      subst (λ n. Looked (cell_for x q 0 (cells_from f' q 0 n)) (cell_for x q 0 (cells_from f q 0 (f.count q)))) (sym (S.count q t.0 t.1))
      (cells-looked q t x 0 (f.count q) (omega arith))

  unless-looked : (n q : ℕ) (a' a : L.Answer) → Looked a' a → Looked (unless n q a') (unless n q a)
  unless-looked zero q a' a w = w
  unless-looked (suc n) q a' a w = (refl, tt)

  for-tree : (q : ℕ) → Tree q → Interior f q → (x : ℕ) → Tree (child_for x (f.right q) (cells_of f q))
  for-tree q t e x =
      child-for Tree x (f.right q) (cells_of f q) (right-tree f f' d some S g q t.0 t.1 e)
      (λ j c a. listed-tree f f' d some S g q j c t.0 t.1 e a)

  pub page-looked : (l q x : ℕ) → Tree q → Looked (lookup_page f' l q x) (lookup_page f l q x)
  unfolding lookup_page
  page-looked zero q x t = (refl, tt)
  page-looked (suc l) q x t =
      rw (
        fault-same q t table_page,
        leaf-is q t,
        S.right q t.0 t.1,
        child-for-same q t x (f.right q),
        range_same
            (child_for x (f.right q) (cells_of f q)),
      ) (unless-looked (fault_in f table_page q) q _ _ (go (λ c w. page-looked l c x w) (is_leaf f q) refl))
    where
      to : ℕ
      to = child_for x (f.right q) (cells_of f q)

      ranged : (b : Bool) → Looked (lookup_page f' l to x) (lookup_page f l to x)
          → Looked (cond b (lookup_page f' l to x) (L.refuses 20 q)) (cond b (lookup_page f l to x) (L.refuses 20 q))
      ranged true w = w
      ranged false w = (refl, tt)

      go : ((c : ℕ) → Tree c → Looked (lookup_page f' l c x) (lookup_page f l c x)) → (b : Bool) → is_leaf f q ≡ b
          → Looked (cond b (cell_for x q 0 (cells_of f' q)) (cond (in_range f.N to) (lookup_page f' l to x) (L.refuses 20 q)))
          (cond b (cell_for x q 0 (cells_of f q)) (cond (in_range f.N to) (lookup_page f l to x) (L.refuses 20 q)))
      go ih true e = cell-for-looked q t x
      go ih false e = ranged (in_range f.N to) (ih to (for-tree q t e x))

  pub looked-like : (r x : ℕ) → Tree r → Looked (lookup f' r x) (lookup f r x)
  unfolding lookup
  looked-like r x t = rw (range_same r) (go (in_range f.N r))
    where
      go : (b : Bool) → Looked (cond b (lookup_page f' level_limit r x) (L.refuses 20 0)) (cond b (lookup_page f level_limit r x) (L.refuses 20 0))
      go true = page-looked level_limit r x t
      go false = (refl, tt)

  -- with the same lengths it is the same answer
  pub looked-same : AllNumbers f f' d → (r x : ℕ) → Tree r → lookup f' r x ≡ lookup f r x
  looked-same w r x t = let a = looked-like r x t in a.0 ∙ go (lookup f r x) a.1
    where
      go : (a : L.Answer) → Sees a → answer_in f' a ≡ a
      go L.nowhere s = refl
      go (L.shows p i n) s = ap (L.shows p i) ((w p i s.0.0 s.0.1 s.1).length ∙ sym s.2)
      go (L.refuses n p) s = refl

  -- ---- what a cursor meets
  child-is : (q : ℕ) → Tree q → (i : ℕ) → child_at f' q i ≡ child_at f q i
  unfolding child_at
  child-is q t i = rw (S.count q t.0 t.1, S.right q t.0 t.1) (go (ltb i (f.count q)) refl)
    where
      go : (b : Bool) → ltb i (f.count q) ≡ b → cond b (f'.cell q i).child (f.right q) ≡ cond b (f.cell q i).child (f.right q)
      go true e = ap (λ (c : Cell). c.child) (S.cell q i t.0 t.1 (ltb-true _ _ e))
      go false e = refl

  child-in : (q : ℕ) → Tree q → Interior f q → (i : ℕ) → Tree (child_at f q i)
  unfolding child_at
  child-in q t e i = go (ltb i (f.count q)) refl
    where
      go : (b : Bool) → ltb i (f.count q) ≡ b → Tree (cond b (f.cell q i).child (f.right q))
      go true h = cell-tree f f' d some S g q i t.0 t.1 e (ltb-true _ _ h)
      go false h = right-tree f f' d some S g q t.0 t.1 e

  -- the cells that stand at the ends of these paths are cells of tree pages
  abbrev SameCell : (page index : ℕ) → Type 0
  SameCell p i = Tree p × (i < f.count p)

  cell_is : (q : ℕ) → Tree q → (i : ℕ) → i < f.count q → SameCell q i
  cell_is q t i h = (t, h)

  abbrev pub Known : List Met → Type 0
  Known [] = Unit {0}
  Known (cell y ∷ ms) = SameCell y.page y.index × Known ms
  Known (stop n p ∷ ms) = Known ms

  known-append : (a b : List Met) → Known a → Known b → Known (a ++ b)
  known-append [] b k l = l
  known-append (cell y ∷ a) b k l = (k.0, known-append a b k.1 l)
  known-append (stop n p ∷ a) b k l = known-append a b k l

  known_under : (p i : ℕ) (a : List Met) → Known a → Known (under p i a)
  unfolding under
  known_under p i [] k = tt
  known_under p i (cell y ∷ a) k = (k.0, known_under p i a k.1)
  known_under p i (stop n q ∷ a) k = known_under p i a k

  known-leaf : (q : ℕ) → Tree q → (i k : ℕ) → i + k ≤ f.count q → Known (leaf_met q i k)
  unfolding leaf_met
  known-leaf q t i zero h = tt
  known-leaf q t i (suc k) h = (cell_is q t i (omega arith), known-leaf q t (suc i) k (omega arith))

  -- the same list, of known cells
  abbrev Alike : (ms' ms : List Met) → Type 0
  Alike ms' ms = (ms' ≡ ms) × Known ms

  child-alike : (q : ℕ) → Tree q → (r' r : ℕ → List Met) (i : ℕ) → Alike (r' (child_at f q i)) (r (child_at f q i))
      → Alike (child_met f' r' q i) (child_met f r q i)
  unfolding child_met
  child-alike q t r' r i a = (rw (child-is q t i, range_same (child_at f q i), a.0) refl, go (in_range f.N (child_at f q i)))
    where
      go : (b : Bool) → Known (cond b (under q i (r (child_at f q i))) (stop 20 q ∷ []))
      go true = known_under q i (r (child_at f q i)) a.1
      go false = tt

  inner-alike : (q : ℕ) → Tree q → (r' r : ℕ → List Met) → ((i : ℕ) → Alike (r' (child_at f q i)) (r (child_at f q i))) → (i k : ℕ)
      → Alike (inner_met f' r' q i k) (inner_met f r q i k)
  unfolding inner_met
  inner-alike q t r' r a i zero = (refl, tt)
  inner-alike q t r' r a i (suc k) =
      let x = child-alike q t r' r i (a i) in
      let y = inner-alike q t r' r a (suc i) k in
      (ap₂ ◌++◌ x.0 y.0, known-append (child_met f r q i) (inner_met f r q (suc i) k) x.1 y.1)

  unless-alike : (n q : ℕ) (ms' ms : List Met) → Alike ms' ms → Alike (unless_stop n q ms') (unless_stop n q ms)
  unless-alike zero q ms' ms a = a
  unless-alike (suc n) q ms' ms a = (refl, tt)

  leaf-alike : (q : ℕ) → Tree q → Alike (leaf_met q 0 (f'.count q)) (leaf_met q 0 (f.count q))
  leaf-alike q t = (ap (leaf_met q 0) (S.count q t.0 t.1), known-leaf q t 0 (f.count q) (omega arith))

  pub listing-alike : (l q : ℕ) → Tree q → Alike (listing f' l q) (listing f l q)
  unfolding listing
  listing-alike zero q t = (refl, tt)
  listing-alike (suc l) q t =
      rw (fault-same q t table_page, leaf-is q t)
      (unless-alike (fault_in f table_page q) q _ _ (go (λ c w. listing-alike l c w) (is_leaf f q) refl))
    where
      go : ((c : ℕ) → Tree c → Alike (listing f' l c) (listing f l c)) → (b : Bool) → is_leaf f q ≡ b
          → Alike (cond b (leaf_met q 0 (f'.count q)) (inner_met f' (listing f' l) q 0 (suc (f'.count q))))
          (cond b (leaf_met q 0 (f.count q)) (inner_met f (listing f l) q 0 (suc (f.count q))))
      go ih true e = leaf-alike q t
      go ih false e =
          rw (S.count q t.0 t.1)
          (inner-alike q t (listing f' l) (listing f l) (λ i. ih (child_at f q i) (child-in q t e i)) 0 (suc (f.count q)))

  index_same : (q : ℕ) → Tree q → (x i k : ℕ) → i + k ≤ f.count q → index_for f' x q i k ≡ index_for f x q i k
  unfolding index_for
  index_same q t x i zero h = refl
  index_same q t x i (suc k) h =
      rw (row_is q t i (omega arith), index_same q t x (suc i) k (omega arith)) refl

  pub from-alike : (x l q : ℕ) → Tree q → Alike (listing_from f' x l q) (listing_from f x l q)
  unfolding listing_from
  from-alike x zero q t = (refl, tt)
  from-alike x (suc l) q t =
      rw (fault-same q t table_page, leaf-is q t, S.count q t.0 t.1, index_same q t x 0 (f.count q) (omega arith))
      (unless-alike (fault_in f table_page q) q _ _ (go (λ c w. from-alike x l c w) (is_leaf f q) refl))
    where
      i : ℕ
      i = index_for f x q 0 (f.count q)

      go : ((c : ℕ) → Tree c → Alike (listing_from f' x l c) (listing_from f x l c)) → (b : Bool) → is_leaf f q ≡ b
          → Alike (cond b (leaf_met q 0 (f.count q)) (child_met f' (listing_from f' x l) q i ++ inner_met f' (listing f' l) q (suc i) (f.count q - i)))
          (cond b (leaf_met q 0 (f.count q)) (child_met f (listing_from f x l) q i ++ inner_met f (listing f l) q (suc i) (f.count q - i)))
      go ih true e = (refl, known-leaf q t 0 (f.count q) (omega arith))
      go ih false e =
          let a = child-alike q t (listing_from f' x l) (listing_from f x l) i (ih (child_at f q i) (child-in q t e i)) in
          let b = inner-alike q t (listing f' l) (listing f l) (λ j. listing-alike l (child_at f q j) (child-in q t e j)) (suc i) (f.count q - i) in (
            ap₂ ◌++◌ a.0 b.0,
            known-append (child_met f (listing_from f x l) q i) (inner_met f (listing f l) q (suc i) (f.count q - i)) a.1 b.1,
          )

  -- ---- what it shows: the same answer, and where that is a cell, one of a tree page
  abbrev pub Seen : Shown → Type 0
  Seen end = Unit {0}
  Seen (at y) = SameCell y.page y.index
  Seen (refuses n p) = Unit {0}

  abbrev pub Shows : (s' s : Shown) → Type 0
  Shows s' s = (s' ≡ s) × Seen s

  shown-same : (x : ℕ) (ms : List Met) → Known ms → Shows (shown_from f' x ms) (shown_from f x ms)
  unfolding shown_from
  shown-same x [] k = (refl, tt)
  shown-same x (stop n p ∷ ms) k = (refl, tt)
  shown-same x (cell y ∷ ms) k =
      let w = go (leb x (row_at f y)) (shown-same x ms k.1) in
      (ap (λ (r : ℕ). cond (leb x r) (at y) (shown_from f' x ms)) (row_is y.page k.0.0 y.index k.0.1) ∙ w.0, w.1)
    where
      go : (b : Bool) → Shows (shown_from f' x ms) (shown_from f x ms) → Shows (cond b (at y) (shown_from f' x ms)) (cond b (at y) (shown_from f x ms))
      go true ih = (refl, k.0)
      go false ih = ih

  alike-shown : (x : ℕ) (ms' ms : List Met) → Alike ms' ms → Shows (shown_from f' x ms') (shown_from f x ms)
  alike-shown x ms' ms a = let s = shown-same x ms a.1 in (ap (shown_from f' x) a.0 ∙ s.0, s.1)

  ranged : (r : ℕ) (s' s : Shown) → Shows s' s → Shows (cond (in_range f'.N r) s' (refuses 20 0)) (cond (in_range f.N r) s (refuses 20 0))
  ranged r s' s a =
      subst (λ b. Shows (cond b s' (refuses 20 0)) (cond (in_range f.N r) s (refuses 20 0))) (sym (range_same r)) (go (in_range f.N r))
    where
      go : (b : Bool) → Shows (cond b s' (refuses 20 0)) (cond b s (refuses 20 0))
      go true = a
      go false = (refl, tt)

  pub first-same : (r : ℕ) → Tree r → Shows (first f' r) (first f r)
  unfolding first
  first-same r t = ranged r _ _ (alike-shown 0 _ _ (listing-alike level_limit r t))

  pub seek-same : (r x : ℕ) → Tree r → Shows (seek f' r x) (seek f r x)
  unfolding seek
  seek-same r x t = ranged r _ _ (alike-shown x _ _ (from-alike x level_limit r t))

  -- ---- a stored path whose first page is a tree page
  stands_same : (l : ℕ) (up : List (ℕ × ℕ)) (q j : ℕ) → Tree (top_of up q) → stands_in f' l up q j ≡ stands_in f l up q j
  unfolding stands_in
  stands_same zero up q j t = refl
  stands_same (suc l) [] q j t = rw (range_same q, fault-same q t table_page, leaf-is q t, S.count q t.0 t.1) refl
  stands_same (suc l) ((p, i) ∷ up) q j t =
      rw (range_same p, fault-same p t table_page, leaf-is p t, S.count p t.0 t.1, child-is p t i)
      (and_same (in_range f.N p) _ _ (λ _. and_same (eqb (fault_in f table_page p) 0) _ _
      (λ _. and_same (not (is_leaf f p)) _ _ (λ e. and_same (leb i (f.count p)) _ _ (λ _. and_same (eqb (child_at f p i) (top_of up q)) _ _
      (λ k. stands_same l up q j (subst Tree (eqb-true _ _ k) (child-in p t (not-true _ e) i))))))))

  after-alike : (l : ℕ) (up : List (ℕ × ℕ)) (q j : ℕ) → Tree (top_of up q) → stands_in f l up q j ≡ true
      → Alike (after_in f' l up q j) (after_in f l up q j)
  unfolding after_in stands_in
  after-alike zero up q j t s = (refl, tt)
  after-alike (suc l) [] q j t s =
      let a = both (in_range f.N q) _ s in
      let b = both (eqb (fault_in f table_page q) 0) _ a.1 in
      let c = both (is_leaf f q) _ b.1 in
      let h : j < f.count q = ltb-true _ _ c.1 in
      (ap (λ n. leaf_met q (suc j) (n - suc j)) (S.count q t.0 t.1), known-leaf q t (suc j) (f.count q - suc j) (omega arith))
  after-alike (suc l) ((p, i) ∷ up) q j t s =
      let a = both (in_range f.N p) _ s in
      let b = both (eqb (fault_in f table_page p) 0) _ a.1 in
      let c = both (not (is_leaf f p)) _ b.1 in
      let e = both (leb i (f.count p)) _ c.1 in
      let k = both (eqb (child_at f p i) (top_of up q)) _ e.1 in
      let inner = not-true _ c.0 in
      let x = after-alike l up q j (subst Tree (eqb-true _ _ k.0) (child-in p t inner i)) k.1 in
      let y = inner-alike p t (listing f' l) (listing f l) (λ j. listing-alike l (child_at f p j) (child-in p t inner j)) (suc i) (f.count p - i) in (
        ap₂ ◌++◌ (ap (under p i) x.0) (ap (λ n. inner_met f' (listing f' l) p (suc i) (n - i)) (S.count p t.0 t.1) ∙ y.0),
        known-append (under p i (after_in f l up q j)) (inner_met f (listing f l) p (suc i) (f.count p - i))
            (known_under p i (after_in f l up q j) x.1) y.1,
      )

  pub step_same : (y : Path) → Tree (top_of y.above y.page) → Shows (step f' y) (step f y)
  unfolding step_in
  step_same y t = rw (stands_same level_limit y.above y.page y.index t) (go (stands_in f level_limit y.above y.page y.index) refl)
    where
      go : (b : Bool) → stands_in f level_limit y.above y.page y.index ≡ b
          → Shows (cond b (shown_from f' 0 (after_in f' level_limit y.above y.page y.index)) (refuses 49 0))
          (cond b (shown_from f 0 (after_in f level_limit y.above y.page y.index)) (refuses 49 0))
      go true e = alike-shown 0 _ _ (after-alike level_limit y.above y.page y.index t e)
      go false e = (refl, tt)
