-- Groups, one by one from the left: the first takes as many as join, and the others are the groups of what is behind it.
--     leaves-next      of rows
--     children-next    of children: the first takes one less where one alone would be left
-- Assumes nothing.
use Prim.Native.Nat.{ℕ, suc, ◌+◌, ◌-◌, ◌≤◌}
use mathlib.Core.Path.{◌≡◌, refl, sym, ap, ◌∙◌}
use mathlib.Core.Bool.{Bool, true, false, cond}
use mathlib.Core.List.{List, [], ◌∷◌, ◌++◌, append_assoc}
use native.Mathlib.Omega.{arith}
use lib.Dec.{eqb}
use lib.ListN.{length, take, drop, length-append, length-drop, take-append-drop}
use lib.Seq.{length-take-le, take_at, drop_at}
use borrow.Author.Tests.{le-leb, eq-eqb, ne_eqb}
use Rattle.number.proofs.Cases.{by_cond}
use Rattle.writing.specs.Rows.{Row, Child}
use Rattle.writing.specs.Groups.{onto, grouped, groups_of, row_weight, row_joins, child_weight, child_joins, group_leaves, front, last_of, alone}
use Rattle.writing.specs.Groups.{evened, group_children}
use Rattle.writing.specs.Layout.{size}
use Rattle.writing.proofs.Fitting.{row_fits, child-least, front-last, last_one, one-group}
use Rattle.filling.specs.Fill.{more}

module _ {A : Type 0} (w : A → ℕ) (joins : (used : ℕ) → A → Bool) where
  -- the groups of what is behind a group: none where nothing is
  unfoldable pub behind : List A → List (List A)
  behind [] = []
  behind (x ∷ xs) = groups_of w joins (x ∷ xs)

  grouped-next : (used : ℕ) (l : List A) → grouped w joins used l ≡ take (more w joins used l) l ∷ behind (drop (more w joins used l) l)
  unfolding grouped more behind groups_of onto
  grouped-next used [] = refl
  grouped-next used (x ∷ xs) = go (joins used x) (grouped-next (used + w x) xs)
    where
      go : (b : Bool) → grouped w joins (used + w x) xs ≡ take (more w joins (used + w x) xs) xs ∷ behind (drop (more w joins (used + w x) xs) xs)
          → cond b (onto x (grouped w joins (used + w x) xs)) ([] ∷ onto x (grouped w joins (w x) xs))
          ≡ take (cond b (suc (more w joins (used + w x) xs)) 0) (x ∷ xs) ∷ behind (drop (cond b (suc (more w joins (used + w x) xs)) 0) (x ∷ xs))
      go true e = ap (onto x) e
      go false e = refl

  -- where the first always joins
  pub groups-next : ((x : A) → joins 0 x ≡ true) → (l : List A) → groups_of w joins l ≡ take (more w joins 0 l) l ∷ behind (drop (more w joins 0 l) l)
  unfolding more behind groups_of onto
  groups-next first [] = refl
  groups-next first (x ∷ xs) =
      let e : 0 + w x ≡ w x = omega arith in
      ap (onto x) (grouped-next (w x) xs)
      ∙ ap (λ k. take (suc k) (x ∷ xs) ∷ behind (drop (suc k) (x ∷ xs))) (ap (λ u. more w joins u xs) (sym e))
      ∙ ap (λ b. take (cond b (suc (more w joins (0 + w x) xs)) 0) (x ∷ xs)
      ∷ behind (drop (cond b (suc (more w joins (0 + w x) xs)) 0) (x ∷ xs))) (sym (first x))

  more-most : (used : ℕ) (l : List A) → more w joins used l ≤ length l
  unfolding more
  more-most used [] = omega arith
  more-most used (x ∷ xs) = go (joins used x) (more-most (used + w x) xs)
    where
      go : (b : Bool) → more w joins (used + w x) xs ≤ length xs → cond b (suc (more w joins (used + w x) xs)) 0 ≤ suc (length xs)
      go true h = omega arith
      go false h = omega arith

  more-join : (used : ℕ) (x : A) (xs : List A) → joins used x ≡ true → more w joins used (x ∷ xs) ≡ suc (more w joins (used + w x) xs)
  unfolding more
  more-join used x xs e = rw e

  more-some : ((x : A) → joins 0 x ≡ true) → (x : A) (xs : List A) → 1 ≤ more w joins 0 (x ∷ xs)
  unfolding more
  more-some first x xs = rw (first x) (omega arith)

-- ---- leaves
row_first : (r : Row) → row_joins size 0 r ≡ true
row_first r = le-leb (0 + row_weight size r) (size - 8) (omega (arith, row_fits size r (omega arith)))

pub leaves-next : (rows : List Row)
    → group_leaves size rows ≡ take (more (row_weight size) (row_joins size) 0 rows) rows
    ∷ behind (row_weight size) (row_joins size) (drop (more (row_weight size) (row_joins size) 0 rows) rows)
unfolding group_leaves
leaves-next rows = groups-next (row_weight size) (row_joins size) row_first rows

-- ---- children
abbrev kids : List Child → ℕ
kids cs = more child_weight (child_joins size) 0 cs

child-first : (c : Child) → child_joins size 0 c ≡ true
child-first c = le-leb 0 (size - 12) (omega arith)

-- the interior pages of what is behind one: none where nothing is
unfoldable pub behind_one : List Child → List (List Child)
behind_one [] = []
behind_one (c ∷ cs) = group_children size (c ∷ cs)

behind-some : (l : List Child) → 1 ≤ length l → behind_one l ≡ group_children size l
unfolding behind_one
behind-some [] h = absurd (omega arith)
behind-some (c ∷ cs) h = refl

-- two children always share a page
two-join : (c d : Child) (cs : List Child) → 2 ≤ kids (c ∷ d ∷ cs)
two-join c d cs =
    omega (
      arith,
      more-join child_weight (child_joins size) 0 c (d ∷ cs) (child-first c),
      more-join child_weight (child_joins size)
          (0 + child_weight c) d cs (le-leb (0 + child_weight c) (size - 12) (omega (arith, child-least c))),
    )

-- how many an interior page takes: one less where one alone would be left
abbrev pub kids_grouped : List Child → ℕ
kids_grouped cs = cond (eqb (length cs - kids cs) 1) (kids cs - 1) (kids cs)

-- the last group's turn, by what it has
even-one : (g : List Child) (y : Child) → evened (g ∷ behind child_weight (child_joins size) (y ∷ [])) ≡ front g ∷ (last_of g ++ (y ∷ [])) ∷ []
unfolding behind evened groups_of onto grouped
even-one g y = refl

not-alone : (h : List Child) (hs : List (List Child)) → 2 ≤ length h → alone h hs ≡ false
not-alone h hs two =
    by_cond (λ b. b ≡ false) (eqb (length hs) 0) (eqb (length h) 1) false (λ e. ne_eqb (length h) 1 (λ (z : length h ≡ 1). omega arith)) (λ e. refl)

even-more : (g h : List Child) (hs : List (List Child)) → 2 ≤ length h → evened (g ∷ h ∷ hs) ≡ g ∷ evened (h ∷ hs)
unfolding evened
even-more g h hs two = ap (λ b. cond b (front g ∷ (last_of g ++ h) ∷ hs) (g ∷ evened (h ∷ hs))) (not-alone h hs two)

behind-cons : (c : Child) (cs : List Child) → behind child_weight (child_joins size) (c ∷ cs) ≡ groups_of child_weight (child_joins size) (c ∷ cs)
unfolding behind
behind-cons c cs = refl

behind-even : (c : Child) (cs : List Child) → evened (groups_of child_weight (child_joins size) (c ∷ cs)) ≡ behind_one (c ∷ cs)
unfolding behind_one group_children
behind-even c cs = refl

-- where one is left, some were taken
some_of : (cs : List Child) → length cs - kids cs ≡ 1 → 1 ≤ kids cs
some_of [] h = omega arith
some_of (c ∷ cs) h = more-some child_weight (child_joins size) child-first c cs

module _ (cs : List Child) where
  abbrev k : ℕ
  k = kids cs

  abbrev g : List Child
  g = take k cs

  abbrev rest : List Child
  rest = drop k cs

  k-most : k ≤ length cs
  k-most = more-most child_weight (child_joins size) 0 cs

  rest-length : length rest ≡ length cs - k
  rest-length = length-drop k cs

  g-length : length g ≡ k
  g-length = length-take-le k cs k-most

  groups-are : groups_of child_weight (child_joins size) cs ≡ g ∷ behind child_weight (child_joins size) rest
  groups-are = groups-next child_weight (child_joins size) child-first cs

  children-are : group_children size cs ≡ evened (g ∷ behind child_weight (child_joins size) rest)
  unfolding group_children
  children-are = ap evened groups-are

  -- nothing is left
  left-none : rest ≡ [] → group_children size cs ≡ take k cs ∷ behind_one (drop k cs)
  unfolding behind behind_one evened
  left-none e = children-are ∙ ap (λ l. evened (g ∷ behind child_weight (child_joins size) l)) e ∙ ap (λ l. g ∷ behind_one l) (sym e)

  -- one alone: it takes one more
  left_one : (y : Child) → rest ≡ y ∷ [] → 1 ≤ k → group_children size cs ≡ take (k - 1) cs ∷ behind_one (drop (k - 1) cs)
  left_one y e some =
      let last : length (last_of g) ≡ 1 = last_one g (omega (arith, g-length)) in
      let fl : length (front g) ≡ k - 1 = omega (arith, length-append (front g) (last_of g), ap length (front-last g), g-length) in
      let all : cs ≡ front g ++ (last_of g ++ (y ∷ [])) =
      sym (take-append-drop k cs) ∙ ap (λ l. g ++ l) e ∙ ap (λ l. l ++ (y ∷ [])) (sym (front-last g)) ∙ append_assoc (front g) (last_of g) (y ∷ []) in
      let two : length (last_of g ++ (y ∷ [])) ≡ 2 = length-append (last_of g) (y ∷ []) ∙ omega arith in
      let t : take (k - 1) cs ≡ front g = ap (take (k - 1)) all ∙ take_at (front g) (last_of g ++ (y ∷ [])) (k - 1) fl in
      let d : drop (k - 1) cs ≡ last_of g ++ (y ∷ []) = ap (drop (k - 1)) all ∙ drop_at (front g) (last_of g ++ (y ∷ [])) (k - 1) fl in
      let b : behind_one (drop (k - 1) cs) ≡ (last_of g ++ (y ∷ [])) ∷ [] =
      ap behind_one d ∙ behind-some (last_of g ++ (y ∷ [])) (omega arith) ∙ one-group size (last_of g ++ (y ∷ [])) (omega arith) (omega arith) in
      children-are ∙ ap (λ l. evened (g ∷ behind child_weight (child_joins size) l)) e ∙ even-one g y
      ∙ ap (λ x. x ∷ (last_of g ++ (y ∷ [])) ∷ []) (sym t) ∙ ap (λ x. take (k - 1) cs ∷ x) (sym b)

  -- two or more: they are grouped by themselves
  left-more : (y z : Child) (zs : List Child) → rest ≡ y ∷ z ∷ zs → group_children size cs ≡ take k cs ∷ behind_one (drop k cs)
  left-more y z zs e =
      let l = y ∷ z ∷ zs in
      let n = groups-next child_weight (child_joins size) child-first l in
      let h = take (kids l) l in
      let two : 2 ≤ length h = omega (arith, two-join y z zs, length-take-le (kids l) l (more-most child_weight (child_joins size) 0 l)) in
      children-are ∙ ap (λ l. evened (g ∷ behind child_weight (child_joins size) l)) e ∙ ap (λ x. evened (g ∷ x)) (behind_more l n)
      ∙ even-more g h (behind child_weight (child_joins size) (drop (kids l) l)) two ∙ ap (λ x. g ∷ x) (children-of l n)
      ∙ ap (λ x. g ∷ behind_one x) (sym e)
    where
      behind_more : (l : List Child)
          → groups_of child_weight (child_joins size) (y ∷ z ∷ zs) ≡ take (kids l) l ∷ behind child_weight (child_joins size) (drop (kids l) l)
          → behind child_weight (child_joins size) (y ∷ z ∷ zs) ≡ take (kids l) l ∷ behind child_weight (child_joins size) (drop (kids l) l)
      behind_more l n = behind-cons y (z ∷ zs) ∙ n

      children-of : (l : List Child)
          → groups_of child_weight (child_joins size) (y ∷ z ∷ zs) ≡ take (kids l) l ∷ behind child_weight (child_joins size) (drop (kids l) l)
          → evened (take (kids l) l ∷ behind child_weight (child_joins size) (drop (kids l) l)) ≡ behind_one (y ∷ z ∷ zs)
      children-of l n = ap evened (sym n) ∙ behind-even y (z ∷ zs)

  pub children-next : group_children size cs ≡ take (kids_grouped cs) cs ∷ behind_one (drop (kids_grouped cs) cs)
  children-next = go rest refl
    where
      go : (l : List Child) → rest ≡ l → group_children size cs ≡ take (kids_grouped cs) cs ∷ behind_one (drop (kids_grouped cs) cs)
      go [] e =
          let z : eqb (length cs - k) 1 ≡ false = ne_eqb (length cs - k) 1 (λ (h : length cs - k ≡ 1). omega (arith, rest-length, ap length e)) in
          rw z (left-none e)
      go (y ∷ []) e =
          let z : eqb (length cs - k) 1 ≡ true = eq-eqb (length cs - k) 1 (omega (arith, rest-length, ap length e)) in
          rw z (left_one y e (some_of cs (omega (arith, rest-length, ap length e))))
      go (y ∷ z ∷ zs) e =
          let q : eqb (length cs - k) 1 ≡ false = ne_eqb (length cs - k) 1 (λ (h : length cs - k ≡ 1). omega (arith, rest-length, ap length e)) in
          rw q (left-more y z zs e)
