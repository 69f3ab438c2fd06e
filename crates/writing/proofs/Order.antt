-- The numbers of the tree that is written, read from left to right, are in order (25).
--     Rises          row numbers rise, none below `lo`
--     tree-ordered   so the tree's reading is ordered, whatever its levels
-- Assumes nothing.
use Prim.Native.Nat.{ℕ, suc, ◌+◌, ◌-◌, ◌<◌, ◌≤◌}
use mathlib.Core.Path.{◌≡◌, refl, sym, ap, ◌∙◌, subst}
use mathlib.Core.Bool.{true, false}
use mathlib.Core.List.Memᴰ
use mathlib.Core.List.{List, [], ◌∷◌, ◌++◌, map, Memᴰ as Mem}
use mathlib.Core.Logic.{⊎_elim}
use native.Mathlib.Nat.{add-zero}
use native.Mathlib.Omega.{arith}
use lib.ListN.{length, get_or, length-append, get_or-append}
use lib.Seq.{get_or-append-add}
use Rattle.number.specs.Bytes.{bias_of}
use Rattle.dealing.specs.File as F
use Rattle.dealing.specs.File.{is_leaf, is_table}
use Rattle.dealing.specs.Good.{Mark, a_row, a_key, a_record, rows_of, key_of, inner_of, reading, Fits, Ordered}
use Rattle.image.specs.Image.{file_of}
use Rattle.writing.specs.Rows.{Row, Child, no_child, file_row, file_child}
use Rattle.writing.specs.Groups.{flat, front, Each}
use Rattle.writing.specs.Layout.{size, schema_row, last_number, last_child, leaf_children, inner_children}
use Rattle.writing.proofs.InFile.{LeafIn, InnerIn}
use Rattle.writing.proofs.Members.{each_append, each-by, flat-more}
use Rattle.writing.proofs.LayoutLaws.{next_children, Levels, TreeLevels, inner-numbered, inner-children, leaf-children}

-- row numbers as ℕ has them, in the order of signed numbers
abbrev pub bias : Row → ℕ
bias r = bias_of r.number

abbrev pub key_bias : Child → ℕ
key_bias c = bias_of c.key

-- row numbers rise, from `lo` on
abbrev pub Rises : (lo : ℕ) → List Row → Type 0
Rises lo [] = Unit {0}
Rises lo (r ∷ rs) = (lo ≤ bias r) × Rises (suc (bias r)) rs

-- ---- marks between two numbers
abbrev Between : (lo hi : ℕ) → Mark → Type 0
Between lo hi (a_row r) = (lo ≤ r) × (r ≤ hi)
Between lo hi (a_key k) = (lo ≤ k) × (k < hi)
Between lo hi (a_record v) = ⊥

each-mem : {A : Type 0} (P : A → Type 0) (l : List A) (y : A) → Each P l → Mem y l → P y
each-mem P (x ∷ l) y e (Mem.head q) = subst P (sym q) e.0
each-mem P (x ∷ l) y e (Mem.tail m) = each-mem P l y e.1 m
each-mem {A = A} P [] y e x'' = elim x'' [ ]

ordered-append : (l m : List Mark) → Ordered l → Ordered m → ((x y : Mark) → Mem x l → Mem y m → Fits x y) → Ordered (l ++ m)
ordered-append [] m a b f = b
ordered-append (x ∷ l) m a b f = (
  λ y h. ⊎_elim (λ q. a.0 y q) (λ q. f x y (Mem.head refl) q) (Memᴰ.append_cases l h),
  ordered-append l m a.1 b (λ z y p q. f z y (Mem.tail p) q),
)

across : (lo mid hi : ℕ) (x y : Mark) → Between lo mid x → Between (suc mid) hi y → Fits x y
across lo mid hi (a_row x) (a_row y) a b = omega arith
across lo mid hi (a_row x) (a_key y) a b = omega arith
across lo mid hi (a_key x) (a_row y) a b = omega arith
across lo mid hi (a_key x) (a_key y) a b = omega arith
across lo mid hi (a_record v) y a b = absurd a
across lo mid hi (a_row x) (a_record w) a b = absurd b
across lo mid hi (a_key x) (a_record w) a b = absurd b

to-key : (lo mid : ℕ) (x : Mark) → Between lo mid x → Fits x (a_key mid)
to-key lo mid (a_row x) a = a.1
to-key lo mid (a_key x) a = a.1
to-key lo mid (a_record v) a = absurd a

from_key : (mid hi : ℕ) (y : Mark) → Between (suc mid) hi y → Fits (a_key mid) y
from_key mid hi (a_row y) b = omega arith
from_key mid hi (a_key y) b = omega arith
from_key mid hi (a_record w) b = absurd b

from_row : (mid hi : ℕ) (y : Mark) → Between (suc mid) hi y → Fits (a_row mid) y
from_row mid hi (a_row y) b = omega arith
from_row mid hi (a_key y) b = omega arith
from_row mid hi (a_record w) b = absurd b

wider : (lo lo' hi hi' : ℕ) (x : Mark) → lo' ≤ lo → hi ≤ hi' → Between lo hi x → Between lo' hi' x
wider lo lo' hi hi' (a_row x) p q b = omega arith
wider lo lo' hi hi' (a_key x) p q b = omega arith
wider lo lo' hi hi' (a_record v) p q b = absurd b

-- in order, and between two numbers
abbrev Covered : (lo hi : ℕ) → List Mark → Type 0
Covered lo hi l = Ordered l × Each (Between lo hi) l

-- two such with a key between them
covered-join : (lo mid hi : ℕ) (l m : List Mark) → lo ≤ mid → suc mid ≤ hi → Covered lo mid l → Covered (suc mid) hi m
    → Covered lo hi (l ++ (a_key mid ∷ m))
covered-join lo mid hi l m p q a b = (
  ordered-append l (a_key mid ∷ m) a.0 (λ y h. from_key mid hi y (each-mem (Between (suc mid) hi) m y b.1 h), b.0)
      (λ x y h k. past x y (each-mem (Between lo mid) l x a.1 h) k),
  each_append (Between lo hi) l (a_key mid ∷ m)
      (each-by (Between lo mid) (Between lo hi) l (λ x. wider lo lo mid hi x (omega arith) (omega arith)) a.1)
      (omega arith, each-by (Between (suc mid) hi) (Between lo hi) m (λ x. wider (suc mid) lo hi hi x (omega arith) (omega arith)) b.1),
)
  where
    past : (x y : Mark) → Between lo mid x → Mem y (a_key mid ∷ m) → Fits x y
    past x y c (Mem.head e) = subst (Fits x) (sym e) (to-key lo mid x c)
    past x y c (Mem.tail k) = across lo mid hi x y c (each-mem (Between (suc mid) hi) m y b.1 k)

flat-none : length (flat {A = List Child} []) ≡ 0
unfolding flat
flat-none = refl

-- ---- leaves
rows-covered : (u lo : ℕ) (r : Row) (rs : List Row) → Rises lo (r ∷ rs)
    → (lo ≤ bias_of (last_number (r ∷ rs))) × Covered lo (bias_of (last_number (r ∷ rs))) (rows_of false true (map (file_row u) (r ∷ rs)))
unfolding rows_of last_number
rows-covered u lo r [] h = (h.0, ((λ y m. absurd (Memᴰ.not-nil m), tt), (omega arith, tt)))
rows-covered u lo r (s ∷ rs) h =
    let w = rows-covered u (suc (bias r)) s rs h.1 in
    let hi = bias_of (last_number (s ∷ rs)) in (
      omega arith,
      (
        (λ y m. from_row (bias r) hi y (each-mem (Between (suc (bias r)) hi) (rows_of false true (map (file_row u) (s ∷ rs))) y w.1.1 m), w.1.0),
        (
          omega arith,
          each-by (Between (suc (bias r)) hi) (Between lo hi) (rows_of false true (map (file_row u) (s ∷ rs)))
              (λ x. wider (suc (bias r)) lo hi hi x (omega arith) (omega arith)) w.1.1,
        ),
      ),
    )

leaf-ordered : (u lo : ℕ) (g : List Row) → Rises lo g → Ordered (rows_of false true (map (file_row u) g))
unfolding rows_of
leaf-ordered u lo [] h = tt
leaf-ordered u lo (r ∷ rs) h = (rows-covered u lo r rs h).1.0

module _ (b : List ℕ) where
  abbrev f : F.File
  f = file_of b

  table-leaf : (p : ℕ) → f.type p ≡ 13 → (is_leaf f p ≡ true) × (is_table f p ≡ true)
  unfolding is_leaf is_table
  table-leaf p e = (rw e, rw e)

  table-inner : (p : ℕ) → f.type p ≡ 5 → (is_leaf f p ≡ false) × (is_table f p ≡ true)
  unfolding is_leaf is_table
  table-inner p e = (rw e, rw e)

  leaf-reading : (l p : ℕ) (g : List Row) → LeafIn b size p g → reading f false (suc l) p ≡ rows_of false true (map (file_row size) g)
  unfolding reading
  leaf-reading l p g h =
      let k = table-leaf p h.type-is in
      rw (k.0, k.1, h.cells_are)

  inner-reading : (l p right : ℕ) (cs : List Child) → InnerIn b p cs right
      → reading f false (suc l) p ≡ inner_of (reading f false l) false true right (map file_child cs)
  unfolding reading
  inner-reading l p right cs h =
      let k = table-inner p h.type-is in
      rw (k.0, k.1, h.right_is, h.cells_are)

  -- pages side by side, each read through l levels and in order up to its key
  abbrev Covers : (l lo : ℕ) → List Child → Type 0
  Covers l lo [] = Unit {0}
  Covers l lo (c ∷ cs) = (lo ≤ key_bias c) × (Covered lo (key_bias c) (reading f false l c.page) × Covers l (suc (key_bias c)) cs)

  -- children of one page
  inner-covered : (l lo : ℕ) (c : Child) (cs : List Child) → Covers l lo (c ∷ cs)
      → (lo ≤ key_bias (last_child (c ∷ cs))) × Covered lo (key_bias (last_child (c ∷ cs)))
      (inner_of (reading f false l) false true (last_child (c ∷ cs)).page (map file_child (front (c ∷ cs))))
  unfolding inner_of key_of last_child front
  inner-covered l lo c [] h = (h.0, h.1.0)
  inner-covered l lo c (d ∷ cs) h =
      let w = inner-covered l (suc (key_bias c)) d cs h.1.1 in
      let hi = key_bias (last_child (d ∷ cs)) in
      (omega arith, covered-join lo (key_bias c) hi (reading f false l c.page) _ h.0 w.0 h.1.0 w.1)

  covers-rest : (l lo : ℕ) (c : Child) (g h : List Child) → Covers l lo ((c ∷ g) ++ h) → Covers l (suc (key_bias (last_child (c ∷ g)))) h
  unfolding last_child
  covers-rest l lo c [] h k = k.1.1
  covers-rest l lo c (d ∷ g) h k = covers-rest l (suc (key_bias c)) d g h k.1.1

  covers-front : (l lo : ℕ) (g h : List Child) → Covers l lo (g ++ h) → Covers l lo g
  covers-front l lo [] h k = tt
  covers-front l lo (c ∷ g) h k = (k.0, (k.1.0, covers-front l (suc (key_bias c)) g h k.1.1))

  -- from a level to the one above
  covers_up : (l lo t : ℕ) (gs : List (List Child)) → Each (λ g. 2 ≤ length g) gs
      → ((i : ℕ) → i < length gs → InnerIn b (t + i) (front (get_or gs i [])) (last_child (get_or gs i [])).page)
      → Covers l lo (flat gs) → Covers (suc l) lo (inner_children t gs)
  unfolding flat inner_children
  covers_up l lo t [] e p h = tt
  covers_up l lo t ([] ∷ gs) e p h = absurd (omega (arith, e.0))
  covers_up l lo t ((c ∷ g) ∷ gs) e p h =
      let w = inner-covered l lo c g (covers-front l lo (c ∷ g) (flat gs) h) in
      let here : InnerIn b t (front (c ∷ g)) (last_child (c ∷ g)).page =
      subst (λ q. InnerIn b q (front (c ∷ g)) (last_child (c ∷ g)).page) (add-zero t) (p 0 (omega arith)) in (
        w.0,
        (
          rw (inner-reading l t (last_child (c ∷ g)).page (front (c ∷ g)) here) w.1,
          covers_up l (suc (key_bias (last_child (c ∷ g)))) (t + 1) gs e.1
              (λ i k. subst (λ q. InnerIn b q (front (get_or gs i [])) (last_child (get_or gs i [])).page) (omega arith) (p (suc i) (omega arith)))
              (covers-rest l lo c g (flat gs) h),
        ),
      )

  rises-rest : (lo : ℕ) (r : Row) (g h : List Row) → Rises lo ((r ∷ g) ++ h) → Rises (suc (bias_of (last_number (r ∷ g)))) h
  unfolding last_number
  rises-rest lo r [] h k = k.1
  rises-rest lo r (s ∷ g) h k = rises-rest (suc (bias r)) s g h k.1

  rises-front : (lo : ℕ) (g h : List Row) → Rises lo (g ++ h) → Rises lo g
  rises-front lo [] h k = tt
  rises-front lo (r ∷ g) h k = (k.0, rises-front (suc (bias r)) g h k.1)

  covers-leaves : (l lo t : ℕ) (gs : List (List Row)) → Each (λ g. 1 ≤ length g) gs
      → ((i : ℕ) → i < length gs → LeafIn b size (t + i) (get_or gs i [])) → Rises lo (flat gs) → Covers (suc l) lo (leaf_children t gs)
  unfolding flat leaf_children
  covers-leaves l lo t [] e p h = tt
  covers-leaves l lo t ([] ∷ gs) e p h = absurd (omega (arith, e.0))
  covers-leaves l lo t ((r ∷ g) ∷ gs) e p h =
      let w = rows-covered size lo r g (rises-front lo (r ∷ g) (flat gs) h) in
      let here : LeafIn b size t (r ∷ g) = subst (λ q. LeafIn b size q (r ∷ g)) (add-zero t) (p 0 (omega arith)) in (
        w.0,
        (
          rw (leaf-reading l t (r ∷ g) here) w.1,
          covers-leaves l (suc (bias_of (last_number (r ∷ g)))) (t + 1) gs e.1
              (λ i k. subst (λ q. LeafIn b size q (get_or gs i [])) (omega arith) (p (suc i) (omega arith)))
              (rises-rest lo r g (flat gs) h),
        ),
      )

  alone : (leaves : List (List Row)) → length leaves ≡ 1 → ((i : ℕ) → i < length leaves → LeafIn b size (2 + i) (get_or leaves i []))
      → (lo : ℕ) → Rises lo (flat leaves) → Ordered (reading f false 20 2)
  unfolding flat
  alone [] n q lo r = absurd (omega arith)
  alone (g ∷ []) n q lo r = rw (leaf-reading 19 2 g (q 0 (omega arith))) (leaf-ordered size lo g (rises-front lo g [] r))
  alone (g ∷ h ∷ gs) n q lo r = absurd (omega arith)

  -- a level above the leaves has at least two of them under it
  two-flat : (gs : List (List Child)) → 1 ≤ length gs → Each (λ g. 2 ≤ length g) gs → length gs + 1 ≤ length (flat gs)
  two-flat [] l e = absurd (omega arith)
  two-flat (g ∷ []) l e = omega (arith, ap length (flat-more g []), length-append g (flat []), e.0)
  two-flat (g ∷ k ∷ gs) l e =
      omega (arith, ap length (flat-more g (k ∷ gs)), length-append g (flat (k ∷ gs)), e.0, two-flat (k ∷ gs) (omega arith) e.1)

  many-leaves : (t : ℕ) (gs : List (List Child)) (ls : List (List (List Child))) (leaves : List (List Row)) → 1 ≤ length gs
      → Levels t (gs ∷ ls) leaves → 2 ≤ length leaves
  many-leaves t gs [] leaves o h =
      let a = two-flat gs o (each-by _ (λ g. 2 ≤ length g) gs (λ g x. x.1) h.1.0) in
      omega (arith, ap length h.0, leaf-children (t + length gs) leaves)
  many-leaves t gs (hs ∷ ls) leaves o h =
      let a = two-flat gs o (each-by _ (λ g. 2 ≤ length g) gs (λ g x. x.1) h.1.0) in
      many-leaves (t + length gs) hs ls leaves (omega (arith, ap length h.0, inner-children (t + length gs) hs)) h.1.1

  -- the levels, from page t on
  abbrev pub InnerFrom : (t : ℕ) → List (List Child) → Type 0
  InnerFrom t gs = (i : ℕ) → i < length gs → InnerIn b (t + i) (front (get_or gs i [])) (last_child (get_or gs i [])).page

  abbrev pub LeavesFrom : (t : ℕ) → List (List Row) → Type 0
  LeavesFrom t gs = (i : ℕ) → i < length gs → LeafIn b size (t + i) (get_or gs i [])

  inner-front : (t : ℕ) (gs hs : List (List Child)) → InnerFrom t (gs ++ hs) → InnerFrom t gs
  inner-front t gs hs p i l =
      subst (λ g. InnerIn b (t + i) (front g) (last_child g).page) (get_or-append gs hs [] i l) (p i (omega (arith, length-append gs hs)))

  inner-rest : (t : ℕ) (gs hs : List (List Child)) → InnerFrom t (gs ++ hs) → InnerFrom (t + length gs) hs
  inner-rest t gs hs p i l =
      let e : t + (length gs + i) ≡ t + length gs + i = omega arith in
      subst (λ q. InnerIn b q (front (get_or hs i [])) (last_child (get_or hs i [])).page) e
      (subst (λ g. InnerIn b (t + (length gs + i)) (front g) (last_child g).page) (get_or-append-add gs hs i [])
      (p (length gs + i) (omega (arith, length-append gs hs))))

  levels-covered : (k lo t : ℕ) (ls : List (List (List Child))) (leaves : List (List Row)) → Levels t ls leaves → Each (λ g. 1 ≤ length g) leaves
      → InnerFrom t (flat ls) → LeavesFrom (t + length (flat ls)) leaves → Rises lo (flat leaves)
      → Covers (length ls + suc k) lo (next_children t ls leaves)
  levels-covered k lo t [] leaves h e p q r =
      let z : suc k ≡ 0 + suc k = omega arith in
      let y : t + length (flat {A = List Child} []) ≡ t = omega (arith, flat-none) in
      subst (λ n. Covers n lo (leaf_children t leaves)) z
      (covers-leaves k lo t leaves e (λ i l. subst (λ n. LeafIn b size (n + i) (get_or leaves i [])) y (q i l)) r)
  levels-covered k lo t (gs ∷ ls) leaves h e p q r =
      let m = flat-more gs ls in
      let s = subst (InnerFrom t) m p in
      let y : t + length (flat (gs ∷ ls)) ≡ t + length gs + length (flat ls) = omega (arith, ap length m, length-append gs (flat ls)) in
      let w = levels-covered k lo (t + length gs) ls leaves h.1.1 e (inner-rest t gs (flat ls) s)
      (λ i l. subst (λ n. LeafIn b size (n + i) (get_or leaves i [])) y (q i l)) r in
      let z : suc (length ls + suc k) ≡ suc (length ls) + suc k = omega arith in
      subst (λ n. Covers n lo (inner_children t gs)) z
      (covers_up (length ls + suc k) lo t gs (each-by _ (λ g. 2 ≤ length g) gs (λ g x. x.1) h.1.0) (inner-front t gs (flat ls) s)
      (subst (Covers (length ls + suc k) lo) (sym h.0) w))

  first-ordered : (l lo : ℕ) (cs : List Child) → 0 < length cs → Covers l lo cs → Ordered (reading f false l (get_or cs 0 no_child).page)
  first-ordered l lo [] h c = absurd (omega arith)
  first-ordered l lo (c ∷ cs) h k = k.1.0.0

  -- the tree from its root, page 2
  pub tree-ordered : (lo : ℕ) (ls : List (List (List Child))) (leaves : List (List Row)) → TreeLevels ls leaves
      → InnerFrom 2 (flat ls) → LeavesFrom (2 + length (flat ls)) leaves → ((2 ≤ length leaves) → Each (λ g. 1 ≤ length g) leaves)
      → Rises lo (flat leaves)
      → Ordered (reading f false 20 2)
  tree-ordered lo [] leaves h p q e r = only leaves h.root q r
    where
      only : (leaves : List (List Row)) → length leaves ≡ 1 → LeavesFrom (2 + length (flat {A = List Child} [])) leaves
          → Rises lo (flat leaves) → Ordered (reading f false 20 2)
      only leaves n q r = alone leaves n (λ i l. subst (λ k. LeafIn b size (k + i) (get_or leaves i [])) (omega (arith, flat-none)) (q i l)) lo r
  tree-ordered lo (gs ∷ ls) leaves h p q e r =
      let k = 20 - suc (suc (length ls)) in
      let n : length (gs ∷ ls) + suc k ≡ 20 = omega (arith, h.depth) in
      let two : 2 ≤ length leaves = many-leaves 2 gs ls leaves (omega (arith, h.root)) h.levels in
      let w = levels-covered k lo 2 (gs ∷ ls) leaves h.levels (e two) p q r in
      let one : length (inner_children 2 gs) ≡ 1 = inner-children 2 gs ∙ h.root in
      let named : (get_or (inner_children 2 gs) 0 no_child).page ≡ 2 = inner-numbered 2 gs 0 (omega arith) ∙ omega arith in
      subst (λ q. Ordered (reading f false 20 q)) named
      (subst (λ d. Ordered (reading f false d (get_or (inner_children 2 gs) 0 no_child).page)) n
      (first-ordered (length (gs ∷ ls) + suc k) lo (inner_children 2 gs) (omega arith) w))

-- page 1 has one row
pub schema-ordered : (b schema : List ℕ) → LeafIn b size 1 (schema_row schema ∷ []) → Ordered (reading (file_of b) false 20 1)
schema-ordered b schema h = rw (leaf-reading b 19 1 (schema_row schema ∷ []) h) (leaf-ordered size 0 (schema_row schema ∷ []) (omega arith, tt))
