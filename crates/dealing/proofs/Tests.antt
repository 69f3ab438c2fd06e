-- The run's tests of order and evenness, over the marks of the walk.
use mathlib.Core.Path.{◌≡◌, refl, sym, ◌∙◌, ap, subst}
use mathlib.Core.Bool.{Bool, true, false, cond}
use mathlib.Core.Logic.{◌⊎◌, inl, inr, ⊎_elim}
use mathlib.Core.Option.{Option, none, some}
use mathlib.Core.List.{List, [], ◌∷◌, ◌++◌, map}
use mathlib.Core.List.Memᴰ.{head as here}
use mathlib.Core.List.Memᴰ.{tail as there}
use mathlib.Core.List.{Memᴰ as Mem}
use Prim.Native.Nat.{ℕ, zero, suc, ◌≤◌}
use native.Mathlib.Omega.{arith}
use borrow.Author.Tests.{eq-eqb, eqb-true, ltb-true, leb-true, lt-ltb, le-leb}
use Rattle.order.specs.Order.{Order, less, same, more, is_less, of_records}
use Rattle.order.proofs.Laws.{transitive}
use Rattle.dealing.specs.File.{Cell, File, is_leaf, is_table, cells_of}
use Rattle.dealing.specs.Good.{Mark, a_row, a_key, a_record, row_or_record, rows_of, key_of, inner_of, reading, Fits, Ordered}
use Rattle.dealing.specs.Walk.{is_ordered, is_named, Event, start, name, fail, row, key, leaf, entry, schema_roots, events, even, follows}
use Rattle.dealing.proofs.Lists.{gather}
use Rattle.dealing.proofs.Ran.{Orders, Evens}
use Rattle.dealing.proofs.Trees.{collect, children-out}
use Rattle.dealing.proofs.Marks.{mark_of, left_of, page-marks, page-lefts, leafy_left, asked_trees, trees}

abbrev OrdersO : Option Mark → List (Option Mark) → Type 0
OrdersO a [] = Unit {0}
OrdersO a (none ∷ l) = OrdersO none l
OrdersO a (some m ∷ l) = (follows a m ≡ true) × OrdersO (some m) l

orders-to : (a : Option Mark) (es : List Event) → Orders a es → OrdersO a (gather mark_of es)
orders-to a [] o = tt
orders-to a (start ∷ es) o = orders-to none es o
orders-to a (name h t k ∷ es) o = orders-to a es o
orders-to a (fail n p ∷ es) o = orders-to a es o
orders-to a (row p r ∷ es) o = (o.0, orders-to (some (a_row r)) es o.1)
orders-to a (key p k ∷ es) o = (o.0, orders-to (some (a_key k)) es o.1)
orders-to a (leaf p l ∷ es) o = orders-to a es o
orders-to a (entry p v ∷ es) o = (o.0, orders-to (some (a_record v)) es o.1)

orders-from : (a : Option Mark) (es : List Event) → OrdersO a (gather mark_of es) → Orders a es
orders-from a [] o = tt
orders-from a (start ∷ es) o = orders-from none es o
orders-from a (name h t k ∷ es) o = orders-from a es o
orders-from a (fail n p ∷ es) o = orders-from a es o
orders-from a (row p r ∷ es) o = (o.0, orders-from (some (a_row r)) es o.1)
orders-from a (key p k ∷ es) o = (o.0, orders-from (some (a_key k)) es o.1)
orders-from a (leaf p l ∷ es) o = orders-from a es o
orders-from a (entry p v ∷ es) o = (o.0, orders-from (some (a_record v)) es o.1)

orders-split : (a : Option Mark) (ms : List Mark) (y : List (Option Mark)) → OrdersO a (map some ms ++ y)
    → OrdersO a (map some ms) × ((a' : Option Mark) × OrdersO a' y)
orders-split a [] y o = (tt, (a, o))
orders-split a (m ∷ ms) y o = let w = orders-split (some m) ms y o.1 in ((o.0, w.0), w.1)

orders-join : (a : Option Mark) (ms : List Mark) (y : List (Option Mark)) → OrdersO a (map some ms) → ((a' : Option Mark) → OrdersO a' y)
    → OrdersO a (map some ms ++ y)
orders-join a [] y o h = h a
orders-join a (m ∷ ms) y o h = (o.0, orders-join (some m) ms y o.1 h)

-- one tree: it is enough to compare each number with the one before it
fits-trans : (x y z : Mark) → Fits x y → Fits y z → Fits x z
fits-trans (a_row x) (a_row y) (a_row z) a b = omega arith
fits-trans (a_row x) (a_row y) (a_key z) a b = omega arith
fits-trans (a_row x) (a_key y) (a_row z) a b = omega arith
fits-trans (a_row x) (a_key y) (a_key z) a b = omega arith
fits-trans (a_key x) (a_row y) (a_row z) a b = omega arith
fits-trans (a_key x) (a_row y) (a_key z) a b = omega arith
fits-trans (a_key x) (a_key y) (a_row z) a b = omega arith
fits-trans (a_key x) (a_key y) (a_key z) a b = omega arith
fits-trans (a_record x) (a_record y) (a_record z) a b = transitive x y z a b
fits-trans (a_record x) (a_record y) (a_row z) a b = absurd b
fits-trans (a_record x) (a_record y) (a_key z) a b = absurd b
fits-trans (a_record x) (a_row y) z a b = absurd a
fits-trans (a_record x) (a_key y) z a b = absurd a
fits-trans (a_row x) (a_record y) z a b = absurd a
fits-trans (a_key x) (a_record y) z a b = absurd a
fits-trans (a_row x) (a_row y) (a_record z) a b = absurd b
fits-trans (a_row x) (a_key y) (a_record z) a b = absurd b
fits-trans (a_key x) (a_row y) (a_record z) a b = absurd b
fits-trans (a_key x) (a_key y) (a_record z) a b = absurd b

is-less : (o : Order) → is_less o ≡ true → o ≡ less
is-less less e = refl
is-less same e = absurd (let z : ◌≡◌ {A = ℕ} 0 1 = cc in omega arith)
is-less more e = absurd (let z : ◌≡◌ {A = ℕ} 0 1 = cc in omega arith)

never : {A : Type 0} → false ≡ true → A
never e = absurd (let z : ◌≡◌ {A = ℕ} 0 1 = cc in omega arith)

follows-fits : (x y : Mark) → follows (some x) y ≡ true → Fits x y
follows-fits (a_row x) (a_row y) e = omega (arith, ltb-true x y e)
follows-fits (a_row x) (a_key y) e = omega (arith, leb-true x y e)
follows-fits (a_key x) (a_row y) e = omega (arith, ltb-true x y e)
follows-fits (a_key x) (a_key y) e = omega (arith, ltb-true x y e)
follows-fits (a_record x) (a_record y) e = is-less (of_records x y) e
follows-fits (a_record x) (a_row y) e = never e
follows-fits (a_record x) (a_key y) e = never e
follows-fits (a_row x) (a_record y) e = never e
follows-fits (a_key x) (a_record y) e = never e

fits-follows : (x y : Mark) → Fits x y → follows (some x) y ≡ true
fits-follows (a_row x) (a_row y) e = lt-ltb x y (omega arith)
fits-follows (a_row x) (a_key y) e = le-leb x y (omega arith)
fits-follows (a_key x) (a_row y) e = lt-ltb x y (omega arith)
fits-follows (a_key x) (a_key y) e = lt-ltb x y (omega arith)
fits-follows (a_record x) (a_record y) e = ap is_less e
fits-follows (a_record x) (a_row y) e = absurd e
fits-follows (a_record x) (a_key y) e = absurd e
fits-follows (a_row x) (a_record y) e = absurd e
fits-follows (a_key x) (a_record y) e = absurd e

ordered-after : (x : Mark) (ms : List Mark) → Ordered (x ∷ ms) → OrdersO (some x) (map some ms)
ordered-after x [] o = tt
ordered-after x (y ∷ ms) o = (fits-follows x y (o.0 y (here refl)), ordered-after y ms o.1)

ordered-orders : (ms : List Mark) → Ordered ms → OrdersO none (map some ms)
ordered-orders [] o = tt
ordered-orders (x ∷ ms) o = (refl, ordered-after x ms o)

after-ordered : (x : Mark) (ms : List Mark) → OrdersO (some x) (map some ms) → Ordered (x ∷ ms)
after-ordered x [] o = (λ y m. elim m [ ], tt)
after-ordered x (z ∷ ms) o = let w = after-ordered z ms o.1 in (λ y m. each w y m, w)
  where
    each : Ordered (z ∷ ms) → (y : Mark) → Mem y (z ∷ ms) → Fits x y
    each w y (here e) = rw e (follows-fits x z o.0)
    each w y (there m) = fits-trans x z y (follows-fits x z o.0) (w.0 y m)

orders-ordered : (ms : List Mark) → OrdersO none (map some ms) → Ordered ms
orders-ordered [] o = tt
orders-ordered (x ∷ ms) o = after-ordered x ms o.1

-- a tree whose order is asked for has its numbers in order too: they are those of its marks that are no records
unfoldable numbers_of : List Mark → List Mark
numbers_of [] = []
numbers_of (a_row x ∷ ms) = a_row x ∷ numbers_of ms
numbers_of (a_key x ∷ ms) = a_key x ∷ numbers_of ms
numbers_of (a_record v ∷ ms) = numbers_of ms

numbers-append : (a b : List Mark) → numbers_of (a ++ b) ≡ numbers_of a ++ numbers_of b
unfolding numbers_of
numbers-append [] b = refl
numbers-append (a_row x ∷ a) b = ap (λ l. a_row x ∷ l) (numbers-append a b)
numbers-append (a_key x ∷ a) b = ap (λ l. a_key x ∷ l) (numbers-append a b)
numbers-append (a_record v ∷ a) b = numbers-append a b

numbers-mem : (y : Mark) (ms : List Mark) → Mem y (numbers_of ms) → Mem y ms
unfolding numbers_of
numbers-mem y [] m = m
numbers-mem y (a_row x ∷ ms) (here e) = here e
numbers-mem y (a_row x ∷ ms) (there m) = there (numbers-mem y ms m)
numbers-mem y (a_key x ∷ ms) (here e) = here e
numbers-mem y (a_key x ∷ ms) (there m) = there (numbers-mem y ms m)
numbers-mem y (a_record v ∷ ms) m = there (numbers-mem y ms m)

numbers-ordered : (ms : List Mark) → Ordered ms → Ordered (numbers_of ms)
unfolding numbers_of
numbers-ordered [] o = tt
numbers-ordered (a_row x ∷ ms) o = (λ y m. o.0 y (numbers-mem y ms m), numbers-ordered ms o.1)
numbers-ordered (a_key x ∷ ms) o = (λ y m. o.0 y (numbers-mem y ms m), numbers-ordered ms o.1)
numbers-ordered (a_record v ∷ ms) o = numbers-ordered ms o.1

row-numbers : (t : Bool) (c : Cell) → numbers_of (row_or_record true t c) ≡ row_or_record false t c
unfolding numbers_of
row-numbers true c = refl
row-numbers false c = refl

key-numbers : (t : Bool) (c : Cell) → numbers_of (key_of true t c) ≡ key_of false t c
unfolding numbers_of key_of
key-numbers true c = refl
key-numbers false c = refl

rows-numbers : (t : Bool) (cs : List Cell) → numbers_of (rows_of true t cs) ≡ rows_of false t cs
unfolding rows_of
rows-numbers t [] = unfold numbers_of in refl
rows-numbers t (c ∷ cs) = numbers-append (row_or_record true t c) (rows_of true t cs) ∙ rw (row-numbers t c, rows-numbers t cs)

inner-numbers : (g h : ℕ → List Mark) → ((c : ℕ) → numbers_of (g c) ≡ h c) → (t : Bool) (r : ℕ) (cs : List Cell)
    → numbers_of (inner_of g true t r cs) ≡ inner_of h false t r cs
unfolding inner_of
inner-numbers g h e t r [] = e r
inner-numbers g h e t r (c ∷ cs) =
    numbers-append (g c.child) (key_of true t c ++ inner_of g true t r cs)
    ∙ rw (e c.child, numbers-append (key_of true t c) (inner_of g true t r cs), key-numbers t c, inner-numbers g h e t r cs)

numbers-read : (f : File) (l p : ℕ) → numbers_of (reading f true l p) ≡ reading f false l p
unfolding reading
numbers-read f zero p = unfold numbers_of in refl
numbers-read f (suc l) p = go (numbers-read f l) (is_leaf f p)
  where
    go : ((c : ℕ) → numbers_of (reading f true l c) ≡ reading f false l c) → (b : Bool)
        → numbers_of (cond b (rows_of true (is_table f p) (cells_of f p)) (inner_of (reading f true l) true (is_table f p) (f.right p) (cells_of f p)))
        ≡ cond b (rows_of false (is_table f p) (cells_of f p)) (inner_of (reading f false l) false (is_table f p) (f.right p) (cells_of f p))
    go ih true = rows-numbers (is_table f p) (cells_of f p)
    go ih false = inner-numbers (reading f true l) (reading f false l) ih (is_table f p) (f.right p) (cells_of f p)

asked-plain : (f : File) (b : Bool) (l p : ℕ) → Ordered (reading f b l p) → Ordered (reading f false l p)
asked-plain f true l p o = subst Ordered (numbers-read f l p) (numbers-ordered (reading f true l p) o)
asked-plain f false l p o = o

-- the trees of the walk
abbrev pub trees_of : File → List (ℕ × ℕ)
trees_of f = (0, 1) ∷ schema_roots f 20 1

asked-mem : (ordered : List ℕ) (xs : List (ℕ × ℕ)) (x : ℕ × ℕ) → Mem x xs → Mem (is_named ordered x.1, x.1) (asked_trees ordered xs)
asked-mem ordered (z ∷ xs) x (here e) = here (ap (λ (x : ℕ × ℕ). (is_named ordered x.1, x.1)) e)
asked-mem ordered (z ∷ xs) x (there m) = there (asked-mem ordered xs x m)
asked-mem ordered [] x x3 = elim x3 [ ]

-- and back: what holds of each root holds of each tree
mem-asked : (ordered : List ℕ) (P : Bool × ℕ → Type 0) (xs : List (ℕ × ℕ)) → ((x : ℕ × ℕ) → Mem x xs → P (is_named ordered x.1, x.1))
    → (y : Bool × ℕ) → Mem y (asked_trees ordered xs) → P y
mem-asked ordered P (z ∷ xs) h y (here e) = subst P (sym e) (h z (here refl))
mem-asked ordered P (z ∷ xs) h y (there m) = mem-asked ordered P xs (λ x n. h x (there n)) y m
mem-asked ordered P [] h y x'' = elim x'' [ ]

module _ (ordered : List ℕ) (f : File) where
  abbrev all_trees : List (Bool × ℕ)
  all_trees = (false, 1) ∷ asked_trees ordered (schema_roots f 20 1)

  abbrev InOrder : Bool × ℕ → Type 0
  InOrder x = Ordered (reading f x.0 20 x.1)

  abbrev mark_tree : Bool × ℕ → List (Option Mark)
  mark_tree x = none ∷ map some (reading f x.0 20 x.1)

  mark-trees : gather mark_of (events ordered f) ≡ gather mark_tree all_trees
  mark-trees = trees mark_of (λ h t k. refl) (λ n p. refl) refl ordered f (λ b. reading f b 20) (λ m place p. page-marks f m 20 place p)

  blocks-out : (a : Option Mark) (xs : List (Bool × ℕ)) → OrdersO a (gather mark_tree xs) → (x : Bool × ℕ) → Mem x xs → InOrder x
  blocks-out a (z ∷ xs) o x (here e) =
      let w = orders-split none (reading f z.0 20 z.1) (gather mark_tree xs) o in
      subst InOrder (sym e) (orders-ordered (reading f z.0 20 z.1) w.0)
  blocks-out a (z ∷ xs) o x (there m) =
      let w = orders-split none (reading f z.0 20 z.1) (gather mark_tree xs) o in
      blocks-out w.1.0 xs w.1.1 x m
  blocks-out a [] o x x4 = elim x4 [ ]

  blocks-in : (a : Option Mark) (xs : List (Bool × ℕ)) → ((x : Bool × ℕ) → Mem x xs → InOrder x) → OrdersO a (gather mark_tree xs)
  blocks-in a [] h = tt
  blocks-in a (z ∷ xs) h =
      orders-join none (reading f z.0 20 z.1) (gather mark_tree xs) (ordered-orders (reading f z.0 20 z.1) (h z (here refl)))
      (λ a'. blocks-in a' xs (λ x m. h x (there m)))

  orders-all : (a : Option Mark) → Orders a (events ordered f) → (x : Bool × ℕ) → Mem x all_trees → InOrder x
  orders-all a o = blocks-out a all_trees (subst (OrdersO a) mark-trees (orders-to a (events ordered f) o))

  -- the records of a root that is named
  pub orders-named : (a : Option Mark) → Orders a (events ordered f) → (x : ℕ × ℕ) → Mem x (schema_roots f 20 1) → is_named ordered x.1 ≡ true
      → Ordered (reading f true 20 x.1)
  orders-named a o x m e =
      subst (λ b. Ordered (reading f b 20 x.1)) e
      (orders-all a o (is_named ordered x.1, x.1) (there (asked-mem ordered (schema_roots f 20 1) x m)))

  -- the numbers of every tree
  pub orders-trees : (a : Option Mark) → Orders a (events ordered f) → (x : ℕ × ℕ) → Mem x (trees_of f) → Ordered (reading f false 20 x.1)
  orders-trees a o x (here e) = subst (λ (x : ℕ × ℕ). Ordered (reading f false 20 x.1)) (sym e) (orders-all a o (false, 1) (here refl))
  orders-trees a o x (there m) =
      asked-plain f (is_named ordered x.1) 20 x.1 (orders-all a o (is_named ordered x.1, x.1) (there (asked-mem ordered (schema_roots f 20 1) x m)))

  pub trees-orders : (a : Option Mark) → Ordered (reading f false 20 1)
      → ((x : ℕ × ℕ) → Mem x (schema_roots f 20 1) → Ordered (reading f (is_named ordered x.1) 20 x.1))
      → Orders a (events ordered f)
  trees-orders a one h = orders-from a (events ordered f) (subst (OrdersO a) (sym mark-trees) (blocks-in a all_trees each))
    where
      each : (x : Bool × ℕ) → Mem x all_trees → InOrder x
      each x (here e) = subst InOrder (sym e) one
      each x (there m) = mem-asked ordered InOrder (schema_roots f 20 1) h x m

-- evenness
abbrev EvensO : ℕ → List (Option ℕ) → Type 0
EvensO a [] = Unit {0}
EvensO a (none ∷ l) = EvensO 0 l
EvensO a (some x ∷ l) = (even a x ≡ true) × EvensO x l

evens-to : (a : ℕ) (es : List Event) → Evens a es → EvensO a (gather left_of es)
evens-to a [] o = tt
evens-to a (start ∷ es) o = evens-to 0 es o
evens-to a (name h t k ∷ es) o = evens-to a es o
evens-to a (fail n p ∷ es) o = evens-to a es o
evens-to a (row p r ∷ es) o = evens-to a es o
evens-to a (key p k ∷ es) o = evens-to a es o
evens-to a (leaf p l ∷ es) o = (o.0, evens-to l es o.1)
evens-to a (entry p v ∷ es) o = evens-to a es o

evens-from : (a : ℕ) (es : List Event) → EvensO a (gather left_of es) → Evens a es
evens-from a [] o = tt
evens-from a (start ∷ es) o = evens-from 0 es o
evens-from a (name h t k ∷ es) o = evens-from a es o
evens-from a (fail n p ∷ es) o = evens-from a es o
evens-from a (row p r ∷ es) o = evens-from a es o
evens-from a (key p k ∷ es) o = evens-from a es o
evens-from a (leaf p l ∷ es) o = (o.0, evens-from l es o.1)
evens-from a (entry p v ∷ es) o = evens-from a es o

evens-split : (a : ℕ) (ms : List ℕ) (y : List (Option ℕ)) → EvensO a (map some ms ++ y) → EvensO a (map some ms) × ((a' : ℕ) × EvensO a' y)
evens-split a [] y o = (tt, (a, o))
evens-split a (x ∷ ms) y o = let w = evens-split x ms y o.1 in ((o.0, w.0), w.1)

evens-join : (a : ℕ) (ms : List ℕ) (y : List (Option ℕ)) → EvensO a (map some ms) → ((a' : ℕ) → EvensO a' y) → EvensO a (map some ms ++ y)
evens-join a [] y o h = h a
evens-join a (x ∷ ms) y o h = (o.0, evens-join x ms y o.1 h)

even-same : (a x : ℕ) → (a ≡ 0) ⊎ (a ≡ x) → even a x ≡ true
even-same zero x h = refl
even-same (suc a) x (inl e) = absurd (omega arith)
even-same (suc a) x (inr e) = eq-eqb (suc a) x e

same-evens : (a c : ℕ) (ms : List ℕ) → (a ≡ 0) ⊎ (a ≡ c) → ((y : ℕ) → Mem y ms → y ≡ c) → EvensO a (map some ms)
same-evens a c [] h e = tt
same-evens a c (x ∷ ms) h e = let k : x ≡ c = e x (here refl) in
    (even-same a x (⊎_elim (λ z. inl z) (λ z. inr (z ∙ sym k)) h), same-evens x c ms (inr k) (λ y m. e y (there m)))

evens-same-one : (a : ℕ) (ms : List ℕ) → 1 ≤ a → ((y : ℕ) → Mem y ms → 1 ≤ y) → EvensO a (map some ms) → (y : ℕ) → Mem y ms → y ≡ a
evens-same-one zero (x ∷ ms) p q o y m = absurd (omega arith)
evens-same-one zero [] p q o y m = elim m [ ]
evens-same-one (suc a) [] p q o y m = elim m [ ]
evens-same-one (suc a) (x ∷ ms) p q o y (here e) = e ∙ sym (eqb-true (suc a) x o.0)
evens-same-one (suc a) (x ∷ ms) p q o y (there m) = evens-same-one x ms (q x (here refl)) (λ y m. q y (there m)) o.1 y m ∙ sym (eqb-true (suc a) x o.0)

evens-same : (ms : List ℕ) → ((y : ℕ) → Mem y ms → 1 ≤ y) → EvensO 0 (map some ms) → (y z : ℕ) → Mem y ms → Mem z ms → y ≡ z
evens-same (x ∷ ms) q o y z m n = to-head y m ∙ sym (to-head z n)
  where
    to-head : (y : ℕ) → Mem y (x ∷ ms) → y ≡ x
    to-head y (here e) = e
    to-head y (there m) = evens-same-one x ms (q x (here refl)) (λ y m. q y (there m)) o.1 y m
evens-same [] q o y z m n = elim m [ ]

module _ (f : File) where
  pub left-some : (l p y : ℕ) → Mem y (collect f leafy_left l p) → 1 ≤ y
  unfolding collect
  left-some zero p y m = elim m [ ]
  left-some (suc l) p y m = go (λ c n. left-some l c y n) (is_leaf f p) m
    where
      go : ((c : ℕ) → Mem y (collect f leafy_left l c) → 1 ≤ y) → (b : Bool)
          → Mem y (cond b (leafy_left (suc l) p) (Rattle.dealing.specs.Walk.over_children (collect f leafy_left l) (f.right p) (cells_of f p)))
          → 1 ≤ y
      go ih true (here e) = omega arith
      go ih true (there m) = elim m [ ]
      go ih false m = ⊎_elim (λ k. ih (f.right p) k) (λ w. ih w.1.child w.3) (children-out (collect f leafy_left l) (f.right p) (cells_of f p) y m)

  abbrev pub lefts : ℕ → List ℕ
  lefts p = collect f leafy_left 20 p

  abbrev pub Level : ℕ → Type 0
  Level r = (y z : ℕ) → Mem y (lefts r) → Mem z (lefts r) → y ≡ z

-- the trees of the walk again
module _ (ordered : List ℕ) (f : File) where
  abbrev left_tree : Bool × ℕ → List (Option ℕ)
  left_tree x = none ∷ map some (lefts f x.1)

  left-trees : gather left_of (events ordered f) ≡ gather left_tree (all_trees ordered f)
  left-trees = trees left_of (λ h t k. refl) (λ n p. refl) refl ordered f (λ b. lefts f) (λ m place p. page-lefts f m 20 place p)

  even-blocks-out : (a : ℕ) (xs : List (Bool × ℕ)) → EvensO a (gather left_tree xs) → (x : Bool × ℕ) → Mem x xs → Level f x.1
  even-blocks-out a (z ∷ xs) o x (here e) =
      let w = evens-split 0 (lefts f z.1) (gather left_tree xs) o in
      subst (λ (x : Bool × ℕ). Level f x.1) (sym e) (evens-same (lefts f z.1) (λ y m. left-some f 20 z.1 y m) w.0)
  even-blocks-out a (z ∷ xs) o x (there m) =
      let w = evens-split 0 (lefts f z.1) (gather left_tree xs) o in
      even-blocks-out w.1.0 xs w.1.1 x m
  even-blocks-out a [] o x x4 = elim x4 [ ]

  level-evens : (ms : List ℕ) → ((y z : ℕ) → Mem y ms → Mem z ms → y ≡ z) → EvensO 0 (map some ms)
  level-evens [] h = tt
  level-evens (x ∷ ms) h = same-evens 0 x (x ∷ ms) (inl refl) (λ y m. h y x m (here refl))

  even-blocks-in : (a : ℕ) (xs : List (Bool × ℕ)) → ((x : Bool × ℕ) → Mem x xs → Level f x.1) → EvensO a (gather left_tree xs)
  even-blocks-in a [] h = tt
  even-blocks-in a (z ∷ xs) h =
      evens-join 0 (lefts f z.1) (gather left_tree xs) (level-evens (lefts f z.1) (h z (here refl))) (λ a'. even-blocks-in a' xs (λ x m. h x (there m)))

  pub evens-trees : (a : ℕ) → Evens a (events ordered f) → (x : ℕ × ℕ) → Mem x (trees_of f) → Level f x.1
  evens-trees a o x m = go m
    where
      all : (x : Bool × ℕ) → Mem x (all_trees ordered f) → Level f x.1
      all = even-blocks-out a (all_trees ordered f) (subst (EvensO a) left-trees (evens-to a (events ordered f) o))

      go : Mem x (trees_of f) → Level f x.1
      go (here e) = subst (λ (x : ℕ × ℕ). Level f x.1) (sym e) (all (false, 1) (here refl))
      go (there m) = all (is_named ordered x.1, x.1) (there (asked-mem ordered (schema_roots f 20 1) x m))

  pub trees-evens : (a : ℕ) → ((x : ℕ × ℕ) → Mem x (trees_of f) → Level f x.1) → Evens a (events ordered f)
  trees-evens a h = evens-from a (events ordered f) (subst (EvensO a) (sym left-trees) (even-blocks-in a (all_trees ordered f) each))
    where
      each : (x : Bool × ℕ) → Mem x (all_trees ordered f) → Level f x.1
      each x (here e) = subst (λ (x : Bool × ℕ). Level f x.1) (sym e) (h (0, 1) (here refl))
      each x (there m) = mem-asked ordered (λ y. Level f y.1) (schema_roots f 20 1) (λ x n. h x (there n)) x m
