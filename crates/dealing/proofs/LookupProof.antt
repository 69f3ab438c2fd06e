-- Lookup in a good file.
use mathlib.Core.Path.{◌≡◌, refl, sym, ◌∙◌, ap, subst}
use mathlib.Core.Bool.{Bool, true, false, cond}
use mathlib.Core.Logic.{◌⊎◌, inl, inr, ⊎_elim}
use mathlib.Core.List.{List, [], ◌∷◌, ◌++◌}
use mathlib.Core.List.Memᴰ.{append_cases}
use mathlib.Core.List.Memᴰ.{head as here}
use mathlib.Core.List.Memᴰ.{tail as there}
use mathlib.Core.List.{Memᴰ as Mem}
use mathlib.Core.List.Memᴰ.{append_left}
use mathlib.Core.List.Memᴰ.{append_right}
use Prim.Native.Nat.{ℕ, zero, suc, ◌+◌, ◌-◌, ◌≤◌, ◌<◌}
use native.Mathlib.Nat.{zero-add}
use native.Mathlib.Omega.{arith}
use lib.Dec.{eqb, leb}
use borrow.Author.Tests.{eq-eqb, ne_eqb, eqb-true, leb-true, le-leb, leb-false}
use Rattle.dealing.specs.File.{Place, schema_root, any_root, table_page, Cell, File, Page, Nameable, is_leaf, is_table, cells_of}
use Rattle.dealing.proofs.Lists.{At}
use Rattle.dealing.specs.Good.{Dealing, Slot, child_slot, right_slot, TreePage, InTree, PointsTo, place_of, Mark, a_row, a_key, rows_of, key_of, inner_of}
use Rattle.dealing.specs.Good.{reading, Fits, Ordered, Good}
use Rattle.dealing.specs.Walk.{in_range, over_children, fault_in}
use Rattle.dealing.specs.Lookup.{Answer, nowhere, shows, refuses, child_for, cell_for, lookup_page, lookup}
use Rattle.dealing.proofs.Cells.{at-is, schema-as-table, root-as-table, child-table}
use Rattle.dealing.proofs.Rules.{no-fault}
use Rattle.dealing.proofs.Grow.{grow-tree}
use Rattle.dealing.proofs.Unique.{named_by}
use Rattle.dealing.proofs.Trees.{collect, inside, descend, right_child, cell-child}

-- parts of an ordered list
pub ordered-left : (a b : List Mark) → Ordered (a ++ b) → Ordered a
ordered-left [] b o = tt
ordered-left (x ∷ a) b o = (λ y m. o.0 y (append_left b m), ordered-left a b o.1)

pub ordered-right : (a b : List Mark) → Ordered (a ++ b) → Ordered b
ordered-right [] b o = o
ordered-right (x ∷ a) b o = ordered-right a b o.1

pub ordered-apart : (a b : List Mark) → Ordered (a ++ b) → (x y : Mark) → Mem x a → Mem y b → Fits x y
ordered-apart (z ∷ a) b o x y (here e) n = subst (λ z. Fits z y) (sym e) (o.0 y (append_right a n))
ordered-apart (z ∷ a) b o x y (there m) n = ordered-apart a b o.1 x y m n
ordered-apart [] b o x y x5 n = elim x5 [ ]

-- the child that is chosen
module _ (x : ℕ) (g : ℕ → List Mark) (r : ℕ) where
  chosen-ordered : (cs : List Cell) → Ordered (inner_of g false true r cs) → Ordered (g (child_for x r cs))
  unfolding inner_of child_for
  chosen-ordered [] o = o
  chosen-ordered (c ∷ cs) o =
      go (leb x c.row) (ordered-left (g c.child) (key_of false true c ++ inner_of g false true r cs) o)
      (chosen-ordered cs (ordered-right (key_of false true c) (inner_of g false true r cs)
      (ordered-right (g c.child) (key_of false true c ++ inner_of g false true r cs) o)))
    where
      go : (b : Bool) → Ordered (g c.child) → Ordered (g (child_for x r cs)) → Ordered (g (cond b c.child (child_for x r cs)))
      go true a a' = a
      go false a a' = a'

  module _ {A : Type 0} (h : ℕ → List A) (y : A) (K : ℕ → Type 0) (kr : K r) (marked : (c : ℕ) → K c → Mem y (h c) → Mem (a_row x) (g c)) where
    children-marked : (cs : List Cell) → ((j : ℕ) (c : Cell) → At cs j c → K c.child) → Mem y (over_children h r cs)
        → Mem (a_row x) (inner_of g false true r cs)
    unfolding inner_of over_children
    children-marked [] k m = marked r kr m
    children-marked (c ∷ cs) k m =
        ⊎_elim (λ a. append_left (key_of false true c ++ inner_of g false true r cs) (marked c.child (k 0 c refl) a))
        (λ a. append_right (g c.child) (append_right (key_of false true c) (children-marked cs (λ j x b. k (suc j) x b) a)))
        (append_cases (h c.child) m)

    chosen-in : (cs : List Cell) → ((j : ℕ) (c : Cell) → At cs j c → K c.child) → Ordered (inner_of g false true r cs) → Mem y (over_children h r cs)
        → Mem y (h (child_for x r cs))
    unfolding inner_of over_children child_for key_of
    chosen-in [] k o m = m
    chosen-in (c ∷ cs) k o m = go (chosen-in cs (λ j x b. k (suc j) x b) o'.1) (leb x c.row) refl (append_cases (h c.child) m)
      where
        o' : Ordered (a_key c.row ∷ inner_of g false true r cs)
        o' = ordered-right (g c.child) (a_key c.row ∷ inner_of g false true r cs) o

        go : (Mem y (over_children h r cs) → Mem y (h (child_for x r cs))) → (b : Bool) → leb x c.row ≡ b → Mem y (h c.child) ⊎ Mem y (over_children h r cs)
            → Mem y (h (cond b c.child (child_for x r cs)))
        go ih true e (inl a) = a
        go ih true e (inr a) =
            let i : c.row < x = o'.0 (a_row x) (children-marked cs (λ j x b. k (suc j) x b) a) in
            absurd (omega (arith, leb-true x c.row e))
        go ih false e (inl a) =
            let i : x ≤ c.row =
            ordered-apart (g c.child) (a_key c.row ∷ inner_of g false true r cs) o (a_row x) (a_key c.row) (marked c.child (k 0 c refl) a)
            (here refl) in
            absurd (omega (arith, leb-false x c.row e))
        go ih false e (inr a) = ih a

-- it is a child
module _ (x r : ℕ) where
  child_of : (cs : List Cell) → (child_for x r cs ≡ r) ⊎ ((j : ℕ) × (c : Cell) × At cs j c × (child_for x r cs ≡ c.child))
  unfolding child_for
  child_of [] = inl refl
  child_of (c ∷ cs) = go (child_of cs) (leb x c.row)
    where
      go : (child_for x r cs ≡ r) ⊎ ((j : ℕ) × (c : Cell) × At cs j c × (child_for x r cs ≡ c.child)) → (b : Bool)
          → (cond b c.child (child_for x r cs) ≡ r) ⊎ ((j : ℕ) × (c' : Cell) × At (c ∷ cs) j c' × (cond b c.child (child_for x r cs) ≡ c'.child))
      go ih true = inr (0, c, refl, refl)
      go (inl e) false = inl e
      go (inr w) false = inr (suc w.0, w.1, w.2, w.3)

-- a leaf's cells
abbrev pub Spot : Type 0
Spot = ℕ × ℕ × Cell

unfoldable pub spots : (p i : ℕ) → List Cell → List Spot
spots p i [] = []
spots p i (c ∷ cs) = (p, i, c) ∷ spots p (suc i) cs

spot_in : (p i : ℕ) (cs : List Cell) (j : ℕ) (c : Cell) → At cs j c → Mem (p, i + j, c) (spots p i cs)
unfolding spots
spot_in p i [] j c a = absurd (let z : ◌≡◌ {A = ℕ} 0 1 = cc in omega arith)
spot_in p i (x ∷ cs) zero c a = let e : c ≡ x = cc in let k : i + 0 ≡ i = omega arith in here (λ n. (p, k n, e n))
spot_in p i (x ∷ cs) (suc j) c a = let k : suc i + j ≡ i + suc j = omega arith in
    there (subst (λ n. Mem (p, n, c) (spots p (suc i) cs)) k (spot_in p (suc i) cs j c a))

spot_out : (p i : ℕ) (cs : List Cell) (y : Spot) → Mem y (spots p i cs) → (y.0 ≡ p) × ((j : ℕ) × At cs j y.2 × (y.1 ≡ i + j))
unfolding spots
spot_out p i [] y m = elim m [ ]
spot_out p i (x ∷ cs) y (here e) = let c : y.2 ≡ x = ap (λ y. y.2) e in let k : i ≡ i + 0 = omega arith in (ap (λ y. y.0) e, (0, cc, ap (λ y. y.1) e ∙ k))
spot_out p i (x ∷ cs) y (there m) = let w = spot_out p (suc i) cs y m in (w.0, (suc w.1.0, w.1.1, (let e = w.1.2 in omega arith)))

spot-marked : (p i : ℕ) (cs : List Cell) (y : Spot) → Mem y (spots p i cs) → Mem (a_row y.2.row) (rows_of false true cs)
unfolding spots rows_of
spot-marked p i [] y m = elim m [ ]
spot-marked p i (x ∷ cs) y (here e) = here (ap (λ (y : Spot). a_row y.2.row) e)
spot-marked p i (x ∷ cs) y (there m) = there (spot-marked p (suc i) cs y m)

-- the first match is the only one
first-match : (p i : ℕ) (cs : List Cell) → Ordered (rows_of false true cs) → (y : Spot) → Mem y (spots p i cs)
    → cell_for y.2.row p i cs ≡ shows y.0 y.1 y.2.length
unfolding spots rows_of cell_for
first-match p i [] o y m = elim m [ ]
first-match p i (x ∷ cs) o y (here e) =
    let k : x.row ≡ y.2.row = ap (λ (y : Spot). y.2.row) (sym e) in
    rw (eq-eqb x.row y.2.row k) (ap (λ (y : Spot). shows y.0 y.1 y.2.length) (sym e))
first-match p i (x ∷ cs) o y (there m) =
    let k : x.row < y.2.row = o.0 (a_row y.2.row) (spot-marked p (suc i) cs y m) in
    rw (ne_eqb x.row y.2.row (λ z. omega arith)) (first-match p (suc i) cs o.1 y m)

-- what a leaf answers
abbrev Answers : ℕ → List Spot → Answer → Type 0
Answers x ys a = (a ≡ nowhere) ⊎ ((y : Spot) × Mem y ys × (y.2.row ≡ x) × (a ≡ shows y.0 y.1 y.2.length))

leaf-answers : (x p i : ℕ) (cs : List Cell) → Answers x (spots p i cs) (cell_for x p i cs)
unfolding spots cell_for
leaf-answers x p i [] = inl refl
leaf-answers x p i (c ∷ cs) = go (leaf-answers x p (suc i) cs) (eqb c.row x) refl
  where
    go : Answers x (spots p (suc i) cs) (cell_for x p (suc i) cs) → (b : Bool) → eqb c.row x ≡ b
        → Answers x ((p, i, c) ∷ spots p (suc i) cs) (cond b (shows p i c.length) (cell_for x p (suc i) cs))
    go ih true e = inr ((p, i, c), here refl, eqb-true c.row x e, refl)
    go (inl e') false e = inl e'
    go (inr w) false e = inr (w.0, there w.1, w.2, w.3)

-- c is the cell with index j of page q, a leaf of r's tree
abbrev pub TreeCell : File → Dealing → (r q j : ℕ) → Cell → Type 0
TreeCell f d r q j c = ((level : ℕ) × InTree f d r level q) × (is_leaf f q ≡ true) × At (cells_of f q) j c

abbrev leafy_spots : File → ℕ → ℕ → List Spot
leafy_spots f l p = spots p 0 (cells_of f p)

in-range : (N t : ℕ) → 1 ≤ t → t ≤ N → in_range N t ≡ true
in-range N zero a b = absurd (omega arith)
in-range N (suc t) a b = le-leb (suc t) N b

module _ (f : File) (d : Dealing) (g : Good f d) (r : ℕ) (root-page : Page f r) (root-kind : d.kind r ≡ 1) (root-table : is_table f r ≡ true) where
  abbrev pub spots_from : ℕ → ℕ → List Spot
  spots_from = collect f (leafy_spots f)

  -- a page of the tree is a table page
  pub record Sure (n q : ℕ) : Type 0 where
    pub tree : InTree f d r n q
    pub page : Page f q
    pub kind : TreePage d q
    pub depth : n ≤ 20
    pub table : is_table f q ≡ true
    pub fault : fault_in f table_page q ≡ 0

  placed : (p : Place) (q : ℕ) → (p ≡ schema_root) ⊎ (p ≡ any_root) → fault_in f p q ≡ 0 → is_table f q ≡ true → fault_in f table_page q ≡ 0
  placed p q (inl e) h t = schema-as-table f q (subst (λ p. fault_in f p q ≡ 0) e h)
  placed p q (inr e) h t = root-as-table f q (subst (λ p. fault_in f p q ≡ 0) e h) t

  root-places : (b : Bool) → (cond b schema_root any_root ≡ schema_root) ⊎ (cond b schema_root any_root ≡ any_root)
  root-places true = inl refl
  root-places false = inr refl

  pub sure-root : Sure 1 r
  sure-root =
      record {
        tree = refl;
        page = root-page;
        kind = inl root-kind;
        depth = omega arith;
        table = root-table;
        fault = placed (place_of f d r) r (rw root-kind (root-places (eqb r 1))) (no-fault f d g r root-page (inl root-kind)) root-table;
      }

  sure-child : (n q : ℕ) → Sure n q → (s : Slot) (t : ℕ) → PointsTo f d q s t 6 → Sure (suc n) t
  sure-child n q S s t H =
      let P = g.pointers q s t 6 S.page H in
      let l : Nameable f t = P.0 in
      let T = grow-tree f d n r q t S.tree P.0 P.1 P.2 in
      let h : Page f t = omega arith in
      let e : place_of f d t ≡ table_page = rw (P.1, P.2, S.table) in
      let z : fault_in f table_page t ≡ 0 = subst (λ p. fault_in f p t ≡ 0) e (no-fault f d g t h (inr P.1)) in
      record { tree = T; page = h; kind = inr P.1; depth = g.rule_24_depth r (suc n) t root-page root-kind T; table = child-table f t z; fault = z }

  sure-chosen : (x n q : ℕ) → Sure n q → is_leaf f q ≡ false → Sure (suc n) (child_for x (f.right q) (cells_of f q))
  sure-chosen x n q S e =
      ⊎_elim (λ k. subst (Sure (suc n)) (sym k) (sure-child n q S right_slot (f.right q) (S.kind, e, refl, refl)))
      (λ w. subst (Sure (suc n)) (sym w.3) (sure-child n q S (child_slot w.0) w.1.child
      (let a = at-is f q w.0 w.1 w.2 in (S.kind, e, a.0, ap (λ (c : Cell). c.child) a.1, refl))))
      (child_of x (f.right q) (cells_of f q))

  pub right-sure : (n q : ℕ) → Sure n q → is_leaf f q ≡ false → Sure (suc n) (f.right q)
  right-sure n q S e = sure-child n q S right_slot (f.right q) (S.kind, e, refl, refl)

  pub cell-sure : (n q : ℕ) → Sure n q → is_leaf f q ≡ false → (j : ℕ) (c : Cell) → At (cells_of f q) j c → Sure (suc n) c.child
  cell-sure n q S e j c a = sure-child n q S (child_slot j) c.child (let w = at-is f q j c a in (S.kind, e, w.0, ap (λ (c : Cell). c.child) w.1, refl))

  -- a cell's row stands in the reading
  pub marked : (l n q : ℕ) → Sure n q → (y : Spot) → Mem y (spots_from l q) → Mem (a_row y.2.row) (reading f false l q)
  unfolding collect reading
  marked zero n q S y m = elim m [ ]
  marked (suc l) n q S y m = go (λ c T. marked l (suc n) c T y) (is_leaf f q) refl m
    where
      go : ((c : ℕ) → Sure (suc n) c → Mem y (spots_from l c) → Mem (a_row y.2.row) (reading f false l c)) → (b : Bool) → is_leaf f q ≡ b
          → Mem y (cond b (spots q 0 (cells_of f q)) (over_children (spots_from l) (f.right q) (cells_of f q)))
          → Mem (a_row y.2.row)
          (cond b (rows_of false (is_table f q) (cells_of f q)) (inner_of (reading f false l) false (is_table f q) (f.right q) (cells_of f q)))
      go ih true e m = rw S.table (spot-marked q 0 (cells_of f q) y m)
      go ih false e m =
          rw S.table
          (children-marked y.2.row (reading f false l) (f.right q) (spots_from l) y (Sure (suc n)) (right-sure n q S e) ih (cells_of f q)
          (cell-sure n q S e) m)

  pub read-inner : (l n q : ℕ) → Sure n q → is_leaf f q ≡ false → Ordered (reading f false (suc l) q)
      → Ordered (inner_of (reading f false l) false true (f.right q) (cells_of f q))
  unfolding reading
  read-inner l n q S e o =
      subst (λ t. Ordered (inner_of (reading f false l) false t (f.right q) (cells_of f q))) S.table
      (subst (λ b. Ordered
      (cond b (rows_of false (is_table f q) (cells_of f q)) (inner_of (reading f false l) false (is_table f q) (f.right q) (cells_of f q)))) e o)

  read-leaf : (l n q : ℕ) → Sure n q → is_leaf f q ≡ true → Ordered (reading f false (suc l) q) → Ordered (rows_of false true (cells_of f q))
  unfolding reading
  read-leaf l n q S e o =
      subst (λ t. Ordered (rows_of false t (cells_of f q))) S.table
      (subst (λ b. Ordered
      (cond b (rows_of false (is_table f q) (cells_of f q)) (inner_of (reading f false l) false (is_table f q) (f.right q) (cells_of f q)))) e o)

  -- each cell is found
  finds : (l n q : ℕ) → Sure n q → n + l ≡ 21 → Ordered (reading f false l q) → (y : Spot) → Mem y (spots_from l q)
      → lookup_page f l q y.2.row ≡ shows y.0 y.1 y.2.length
  unfolding collect lookup_page
  finds zero n q S e o y m = elim m [ ]
  finds (suc l) n q S e o y m = rw S.fault (go (λ c T k. finds l (suc n) c T (omega arith) k y) (is_leaf f q) refl m)
    where
      c : ℕ
      c = child_for y.2.row (f.right q) (cells_of f q)

      go : ((c : ℕ) → Sure (suc n) c → Ordered (reading f false l c) → Mem y (spots_from l c)
          → lookup_page f l c y.2.row ≡ shows y.0 y.1 y.2.length) → (b : Bool) → is_leaf f q ≡ b
          → Mem y (cond b (spots q 0 (cells_of f q)) (over_children (spots_from l) (f.right q) (cells_of f q)))
          → cond b (cell_for y.2.row q 0 (cells_of f q)) (cond (in_range f.N c) (lookup_page f l c y.2.row) (refuses 20 q))
          ≡ shows y.0 y.1 y.2.length
      go ih true e m = first-match q 0 (cells_of f q) (read-leaf l n q S e o) y m
      go ih false e m =
          let T = sure-chosen y.2.row n q S e in
          let i = read-inner l n q S e o in
          rw (in-range f.N c T.page.0 T.page.1)
          (ih c T (chosen-ordered y.2.row (reading f false l) (f.right q) (cells_of f q) i)
          (chosen-in y.2.row (reading f false l) (f.right q) (spots_from l) y (Sure (suc n)) (right-sure n q S e)
          (λ c T m. marked l (suc n) c T y m) (cells_of f q) (cell-sure n q S e) i m))

  -- whatever is asked, the answer is a cell with that row, or nothing
  answers : (x l n q : ℕ) → Sure n q → n + l ≡ 21 → Answers x (spots_from l q) (lookup_page f l q x)
  unfolding collect lookup_page
  answers x zero n q S e = absurd (let h = S.depth in omega arith)
  answers x (suc l) n q S e = rw S.fault (go (λ c T. answers x l (suc n) c T (omega arith)) (is_leaf f q) refl)
    where
      c : ℕ
      c = child_for x (f.right q) (cells_of f q)

      up : (y : Spot) → Mem y (spots_from l c) → Mem y (over_children (spots_from l) (f.right q) (cells_of f q))
      up y m =
          ⊎_elim (λ k. right_child (spots_from l) (f.right q) (cells_of f q) y (subst (λ c. Mem y (spots_from l c)) k m))
          (λ w. cell-child (spots_from l) (f.right q) (cells_of f q) y w.0 w.1 w.2 (subst (λ c. Mem y (spots_from l c)) w.3 m))
          (child_of x (f.right q) (cells_of f q))

      go : ((c : ℕ) → Sure (suc n) c → Answers x (spots_from l c) (lookup_page f l c x)) → (b : Bool) → is_leaf f q ≡ b
          → Answers x (cond b (spots q 0 (cells_of f q)) (over_children (spots_from l) (f.right q) (cells_of f q)))
          (cond b (cell_for x q 0 (cells_of f q)) (cond (in_range f.N c) (lookup_page f l c x) (refuses 20 q)))
      go ih true e = leaf-answers x q 0 (cells_of f q)
      go ih false e =
          let T = sure-chosen x n q S e in
          rw (in-range f.N c T.page.0 T.page.1)
          (⊎_elim (λ k. inl k) (λ w. inr (w.0, up w.0 w.1, w.2, w.3)) (ih c T))

  -- the cells of the tree
  pub spot-cell : (y : Spot) → Mem y (spots_from 20 r) → TreeCell f d r y.0 y.1 y.2
  spot-cell y m =
      let L = descend f (leafy_spots f) d g 20 r 1 r root-page (inl root-kind) refl y m in
      let w = spot_out L.page 0 (cells_of f L.page) y L.here-it in
      let e : w.1.0 ≡ y.1 = (let k = w.1.2 in omega arith) in
      subst (λ q. TreeCell f d r q y.1 y.2) (sym w.0) ((L.level, L.in_tree), L.leaf, subst (λ j. At (cells_of f L.page) j y.2) e w.1.1)

  pub cell-spot : (q j : ℕ) (c : Cell) → TreeCell f d r q j c → Mem (q, j, c) (spots_from 20 r)
  cell-spot q j c L =
      let n : ℕ = L.0.0 in
      let h = g.rule_24_depth r n q root-page root-kind L.0.1 in
      go n L.0.1 (21 - n) (omega arith) (omega arith)
    where
      leafy : (l : ℕ) → Mem (q, j, c) (collect f (leafy_spots f) (suc l) q)
      leafy l = unfold collect in rw L.1 (subst (λ j. Mem (q, j, c) (spots q 0 (cells_of f q))) (zero-add j) (spot_in q 0 (cells_of f q) j c L.2))

      go : (n : ℕ) → InTree f d r n q → (l : ℕ) → n + l ≡ 21 → 1 ≤ l → Mem (q, j, c) (spots_from 20 r)
      go n t zero e h = absurd (omega arith)
      go n t (suc l) e h = inside f (leafy_spots f) d (λ q l. named_by f d g q l) n (suc l) r q t e (q, j, c) (leafy l)

  pub row_read : (q j : ℕ) (c : Cell) → TreeCell f d r q j c → Mem (a_row c.row) (reading f false 20 r)
  row_read q j c L = marked 20 1 r sure-root (q, j, c) (cell-spot q j c L)

  looks : (x : ℕ) → lookup f r x ≡ lookup_page f 20 r x
  unfolding lookup
  looks x = rw (in-range f.N r root-page.0 root-page.1)

  pub lookup-finds : (q j : ℕ) (c : Cell) → TreeCell f d r q j c → lookup f r c.row ≡ shows q j c.length
  lookup-finds q j c L = looks c.row ∙ finds 20 1 r sure-root (omega arith) (g.rule_25 r root-page root-kind) (q, j, c) (cell-spot q j c L)

  pub lookup-answers : (x : ℕ)
      → (lookup f r x ≡ nowhere) ⊎ ((q j : ℕ) × (c : Cell) × TreeCell f d r q j c × (c.row ≡ x) × (lookup f r x ≡ shows q j c.length))
  lookup-answers x =
      ⊎_elim (λ e. inl (looks x ∙ e)) (λ w. inr (w.0.0, w.0.1, w.0.2, spot-cell w.0 w.1, w.2, looks x ∙ w.3))
      (answers x 20 1 r sure-root (omega arith))
