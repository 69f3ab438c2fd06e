-- What a cursor meets and shows, in any file: each cell of a listing stands, what follows it is the
-- rest of the listing, and a path that stands is in the listing of its first page.
use mathlib.Core.Path.{◌≡◌, refl, sym, ◌∙◌, ap, subst}
use mathlib.Core.Bool.{Bool, true, false, cond, not, ◌&&◌}
use mathlib.Core.List.{List, [], ◌∷◌, ◌++◌, append_assoc}
use mathlib.Core.List.Memᴰ.{append_right}
use mathlib.Core.List.Memᴰ.{head as here}
use mathlib.Core.List.Memᴰ.{tail as there}
use mathlib.Core.List.{Memᴰ as Mem}
use Prim.Native.Nat.{ℕ, zero, suc, ◌+◌, ◌-◌, ◌≤◌, ◌<◌}
use native.Mathlib.Omega.{arith}
use lib.Dec.{eqb, leb, ltb}
use borrow.Author.Tests.{eq-eqb, eqb-true, le-leb, leb-true, leb-false, lt-ltb, ltb-true}
use Rattle.dealing.specs.File.{File, is_leaf, table_page, level_limit}
use Rattle.dealing.specs.Walk.{fault_in, in_range}
use Rattle.dealing.specs.Cursor.{Path, Met, cell, stop, leaf_met, by, under, child_at, child_met, inner_met, unless_stop, listing, top_of, stands_in}
use Rattle.dealing.specs.Cursor.{stands, after_in, after}
use Rattle.dealing.specs.Cursor.{Shown, end, at, refuses, row_at, shown_from, step_in, step, Runs, Rising, StandsUnder}

-- ---- what is shown of a child, and of what follows it
abbrev pub or_else : (p i : ℕ) → Shown → Shown → Shown
or_else p i end b = b
or_else p i (at y) b = at (by p i y)
or_else p i (refuses n q) b = refuses n q

module _ (f : File) (x p i : ℕ) where
  pub shown-under : (a b : List Met) → shown_from f x (under p i a ++ b) ≡ or_else p i (shown_from f x a) (shown_from f x b)
  unfolding under shown_from
  shown-under [] b = refl
  shown-under (stop n q ∷ a) b = refl
  shown-under (cell y ∷ a) b = go (leb x (row_at f y)) (shown-under a b)
    where
      go : (t : Bool) → shown_from f x (under p i a ++ b) ≡ or_else p i (shown_from f x a) (shown_from f x b)
          → cond t (at (by p i y)) (shown_from f x (under p i a ++ b)) ≡ or_else p i (cond t (at y) (shown_from f x a)) (shown_from f x b)
      go true e = refl
      go false e = e

module _ (f : File) (below : ℕ → List Met) (p i : ℕ) where
  pub child-met : in_range f.N (child_at f p i) ≡ true → child_met f below p i ≡ under p i (below (child_at f p i))
  unfolding child_met
  child-met r = rw r

  pub child-lost : in_range f.N (child_at f p i) ≡ false → child_met f below p i ≡ stop 20 p ∷ []
  unfolding child_met
  child-lost r = rw r

-- ---- each cell of a listing stands, and what follows it is the rest
abbrev pub Chained : File → (levels page : ℕ) → List Met → Type 0
Chained f l p [] = Unit {0}
Chained f l p (cell y ∷ ms) =
    (top_of y.above y.page ≡ p)
    × (stands_in f l y.above y.page y.index ≡ true)
    × (after_in f l y.above y.page y.index ≡ ms)
    × Chained f l p ms
Chained f l p (stop n q ∷ ms) = Chained f l p ms

module _ (f : File) (l p : ℕ) (range : in_range f.N p ≡ true) (fit : fault_in f table_page p ≡ 0) where
  leaf-chained : is_leaf f p ≡ true → (i k : ℕ) → i + k ≡ f.count p → Chained f (suc l) p (leaf_met p i k)
  unfolding leaf_met stands_in after_in
  leaf-chained t i zero e = tt
  leaf-chained t i (suc k) e =
      let z : f.count p - suc i ≡ k = omega arith in (
        refl,
        rw (range, eq-eqb (fault_in f table_page p) 0 fit, t, lt-ltb i (f.count p) (omega arith)),
        ap (leaf_met p (suc i)) z,
        leaf-chained t (suc i) k (omega arith),
      )

  module _ (inner : is_leaf f p ≡ false) where
    under-chained : (i : ℕ) → i ≤ f.count p → (rest : List Met) → rest ≡ inner_met f (listing f l) p (suc i) (f.count p - i)
        → Chained f (suc l) p rest → (ms : List Met) → Chained f l (child_at f p i) ms → Chained f (suc l) p (under p i ms ++ rest)
    unfolding under stands_in after_in
    under-chained i h rest e c [] k = c
    under-chained i h rest e c (stop n q ∷ ms) k = under-chained i h rest e c ms k
    under-chained i h rest e c (cell y ∷ ms) k = (
      refl,
      rw (range, eq-eqb (fault_in f table_page p) 0 fit, inner, le-leb i (f.count p) h, eq-eqb (child_at f p i) (top_of y.above y.page) (sym k.0), k.1),
      ap (λ m. under p i m ++ inner_met f (listing f l) p (suc i) (f.count p - i)) k.2 ∙ ap (λ r. under p i ms ++ r) (sym e),
      under-chained i h rest e c ms k.3,
    )

    inner-chained : ((q : ℕ) → in_range f.N q ≡ true → Chained f l q (listing f l q)) → (i k : ℕ) → i + k ≡ suc (f.count p)
        → Chained f (suc l) p (inner_met f (listing f l) p i k)
    unfolding inner_met child_met
    inner-chained below i zero e = tt
    inner-chained below i (suc k) e = go (in_range f.N (child_at f p i)) refl (inner-chained below (suc i) k (omega arith))
      where
        go : (t : Bool) → in_range f.N (child_at f p i) ≡ t → Chained f (suc l) p (inner_met f (listing f l) p (suc i) k)
            → Chained f (suc l) p (cond t (under p i (listing f l (child_at f p i))) (stop 20 p ∷ []) ++ inner_met f (listing f l) p (suc i) k)
        go true r c =
            let z : k ≡ f.count p - i = omega arith in
            under-chained i (omega arith) (inner_met f (listing f l) p (suc i) k) (ap (inner_met f (listing f l) p (suc i)) z) c
            (listing f l (child_at f p i)) (below (child_at f p i) r)
        go false r c = c

pub chained : (f : File) (l p : ℕ) → in_range f.N p ≡ true → Chained f l p (listing f l p)
unfolding listing
chained f zero p r = tt
chained f (suc l) p r = go (fault_in f table_page p) refl (is_leaf f p) refl (chained f l)
  where
    go : (n : ℕ) → fault_in f table_page p ≡ n → (t : Bool) → is_leaf f p ≡ t → ((q : ℕ) → in_range f.N q ≡ true → Chained f l q (listing f l q))
        → Chained f (suc l) p (unless_stop n p (cond t (leaf_met p 0 (f.count p)) (inner_met f (listing f l) p 0 (suc (f.count p)))))
    go (suc n) z t e ih = tt
    go zero z true e ih = leaf-chained f l p r z e 0 (f.count p) (omega arith)
    go zero z false e ih = inner-chained f l p r z e ih 0 (suc (f.count p)) (omega arith)

-- ---- so from a listing without refusals its cells are shown one by one
abbrev pub Clean : List Met → Type 0
Clean [] = Unit {0}
Clean (cell y ∷ ms) = Clean ms
Clean (stop n p ∷ ms) = ⊥

unfoldable pub paths_of : List Met → List Path
paths_of [] = []
paths_of (cell y ∷ ms) = y ∷ paths_of ms
paths_of (stop n p ∷ ms) = paths_of ms

-- from the first row number not below x on
unfoldable pub paths_from : File → (x : ℕ) → List Met → List Path
paths_from f x [] = []
paths_from f x (cell y ∷ ms) = cond (leb x (row_at f y)) (y ∷ paths_of ms) (paths_from f x ms)
paths_from f x (stop n p ∷ ms) = []

module _ (f : File) (r : ℕ) where
  pub step-on : (y : Path) (ms : List Met) → stands f y ≡ true → after f y ≡ ms → step f y ≡ shown_from f 0 ms
  unfolding step_in
  step-on y ms s a = rw (s, a)

  pub runs-all : (ms : List Met) → Clean ms → Chained f level_limit r ms → Runs f (shown_from f 0 ms) (paths_of ms)
  unfolding shown_from paths_of
  runs-all [] c k = refl
  runs-all (cell y ∷ ms) c k =
      (rw (le-leb 0 (row_at f y) (omega arith)), subst (λ a. Runs f a (paths_of ms)) (sym (step-on y ms k.1 k.2)) (runs-all ms c k.3))
  runs-all (stop n p ∷ ms) c k = absurd c

  pub runs-from : (x : ℕ) (ms : List Met) → Clean ms → Chained f level_limit r ms → Runs f (shown_from f x ms) (paths_from f x ms)
  unfolding shown_from paths_from
  runs-from x [] c k = refl
  runs-from x (cell y ∷ ms) c k = go (leb x (row_at f y)) (runs-from x ms c k.3)
    where
      go : (t : Bool) → Runs f (shown_from f x ms) (paths_from f x ms) → Runs f (cond t (at y) (shown_from f x ms)) (cond t (y ∷ paths_of ms) (paths_from f x ms))
      go true ih = (refl, subst (λ a. Runs f a (paths_of ms)) (sym (step-on y ms k.1 k.2)) (runs-all ms c k.3))
      go false ih = ih
  runs-from x (stop n p ∷ ms) c k = absurd c

-- where row numbers rise, these are those not below x
module _ (f : File) (x : ℕ) where
  pub from_each : (ms : List Met) → Rising f (paths_of ms) → (y : Path) → Mem y (paths_from f x ms) → Mem y (paths_of ms) × (x ≤ row_at f y)
  unfolding paths_of paths_from
  from_each [] o y m = elim m [ ]
  from_each (stop n p ∷ ms) o y m = elim m [ ]
  from_each (cell z ∷ ms) o y m = go (leb x (row_at f z)) refl (from_each ms o.1 y) m
    where
      go : (t : Bool) → leb x (row_at f z) ≡ t → (Mem y (paths_from f x ms) → Mem y (paths_of ms) × (x ≤ row_at f y))
          → Mem y (cond t (z ∷ paths_of ms) (paths_from f x ms))
          → Mem y (z ∷ paths_of ms) × (x ≤ row_at f y)
      go true e ih (here k) = (here k, subst (λ y. x ≤ row_at f y) (sym k) (leb-true x (row_at f z) e))
      go true e ih (there n) = (there n, (let a = leb-true x (row_at f z) e in let b = o.0 y n in omega arith))
      go false e ih m = let w = ih m in (there w.0, w.1)

  pub from_all : (ms : List Met) → Clean ms → (y : Path) → Mem y (paths_of ms) → x ≤ row_at f y → Mem y (paths_from f x ms)
  unfolding paths_of paths_from
  from_all [] c y m h = elim m [ ]
  from_all (stop n p ∷ ms) c y m h = absurd c
  from_all (cell z ∷ ms) c y m h = go (leb x (row_at f z)) refl (λ m. from_all ms c y m h) m
    where
      go : (t : Bool) → leb x (row_at f z) ≡ t → (Mem y (paths_of ms) → Mem y (paths_from f x ms)) → Mem y (z ∷ paths_of ms)
          → Mem y (cond t (z ∷ paths_of ms) (paths_from f x ms))
      go true e ih m = m
      go false e ih (here k) = absurd (let a = leb-false x (row_at f z) e in let b : row_at f y ≡ row_at f z = ap (row_at f) k in omega arith)
      go false e ih (there m) = ih m

  pub from-rising : (ms : List Met) → Rising f (paths_of ms) → Rising f (paths_from f x ms)
  unfolding paths_of paths_from
  from-rising [] o = tt
  from-rising (stop n p ∷ ms) o = tt
  from-rising (cell z ∷ ms) o = go (leb x (row_at f z)) (from-rising ms o.1)
    where
      go : (t : Bool) → Rising f (paths_from f x ms) → Rising f (cond t (z ∷ paths_of ms) (paths_from f x ms))
      go true ih = o
      go false ih = ih

-- ---- a path that stands is in the listing of its first page, and what follows it there is `after`
leaf-splits : (p i k j : ℕ) → j < k
    → (pre : List Met) × (leaf_met p i k ≡ pre ++ cell (record { above = []; page = p; index = i + j }) ∷ leaf_met p (suc (i + j)) (k - suc j))
unfolding leaf_met
leaf-splits p i zero j h = absurd (omega arith)
leaf-splits p i (suc k) zero h =
    let e : i + 0 ≡ i = omega arith in
    let z : suc k - 1 ≡ k = omega arith in
    ([], rw (e, z))
leaf-splits p i (suc k) (suc j) h =
    let w = leaf-splits p (suc i) k j (omega arith) in
    let e : suc i + j ≡ i + suc j = omega arith in
    let z : k - suc j ≡ suc k - suc (suc j) = omega arith in (
      cell (record { above = []; page = p; index = i }) ∷ w.0,
      ap (λ l. cell (record { above = []; page = p; index = i }) ∷ l)
          (w.1 ∙ ap (λ n. w.0 ++ cell (record { above = []; page = p; index = n }) ∷ leaf_met p (suc n) (k - suc j)) e
          ∙ ap (λ n. w.0 ++ cell (record { above = []; page = p; index = i + suc j }) ∷ leaf_met p (suc (i + suc j)) n) z),
    )

under-append : (p i : ℕ) (a b : List Met) → under p i (a ++ b) ≡ under p i a ++ under p i b
unfolding under
under-append p i [] b = refl
under-append p i (cell y ∷ a) b = ap (λ l. cell (by p i y) ∷ l) (under-append p i a b)
under-append p i (stop n q ∷ a) b = ap (λ l. stop n q ∷ l) (under-append p i a b)

inner-splits : (f : File) (below : ℕ → List Met) (p i k j : ℕ) → j < k
    → (pre : List Met) × (inner_met f below p i k ≡ pre ++ (child_met f below p (i + j) ++ inner_met f below p (suc (i + j)) (k - suc j)))
unfolding inner_met
inner-splits f below p i zero j h = absurd (omega arith)
inner-splits f below p i (suc k) zero h =
    let e : i + 0 ≡ i = omega arith in
    let z : suc k - 1 ≡ k = omega arith in
    ([], rw (e, z))
inner-splits f below p i (suc k) (suc j) h =
    let w = inner-splits f below p (suc i) k j (omega arith) in
    let e : suc i + j ≡ i + suc j = omega arith in
    let z : k - suc j ≡ suc k - suc (suc j) = omega arith in (
      child_met f below p i ++ w.0,
      ap (λ l. child_met f below p i ++ l)
          (w.1 ∙ ap (λ n. w.0 ++ (child_met f below p n ++ inner_met f below p (suc n) (k - suc j))) e
          ∙ ap (λ n. w.0 ++ (child_met f below p (i + suc j) ++ inner_met f below p (suc (i + suc j)) n)) z)
          ∙ sym (append_assoc (child_met f below p i) w.0 (child_met f below p (i + suc j) ++ inner_met f below p (suc (i + suc j)) (suc k - suc (suc j)))),
    )

pub both : (a b : Bool) → (a && b) ≡ true → (a ≡ true) × (b ≡ true)
both true true e = (refl, refl)
both true false e = absurd (let z : ◌≡◌ {A = ℕ} 0 1 = cc in omega arith)
both false b e = absurd (let z : ◌≡◌ {A = ℕ} 0 1 = cc in omega arith)

pub not-true : (a : Bool) → not a ≡ true → a ≡ false
not-true true e = absurd (let z : ◌≡◌ {A = ℕ} 0 1 = cc in omega arith)
not-true false e = refl

module _ (f : File) where
  in-range : (l : ℕ) (up : List (ℕ × ℕ)) (q j : ℕ) → stands_in f l up q j ≡ true → in_range f.N (top_of up q) ≡ true
  unfolding stands_in
  in-range zero up q j e = absurd (let z : ◌≡◌ {A = ℕ} 0 1 = cc in omega arith)
  in-range (suc l) [] q j e = (both (in_range f.N q) _ e).0
  in-range (suc l) ((p, i) ∷ up) q j e = (both (in_range f.N p) _ e).0

  pub listed : (l : ℕ) (up : List (ℕ × ℕ)) (q j : ℕ) → stands_in f l up q j ≡ true
      → (pre : List Met) × (listing f l (top_of up q) ≡ pre ++ cell (record { above = up; page = q; index = j }) ∷ after_in f l up q j)
  unfolding stands_in listing after_in
  listed zero up q j e = absurd (let z : ◌≡◌ {A = ℕ} 0 1 = cc in omega arith)
  listed (suc l) [] q j e =
      let a = both (in_range f.N q) (eqb (fault_in f table_page q) 0 && (is_leaf f q && ltb j (f.count q))) e in
      let b = both (eqb (fault_in f table_page q) 0) (is_leaf f q && ltb j (f.count q)) a.1 in
      let c = both (is_leaf f q) (ltb j (f.count q)) b.1 in
      let w = leaf-splits q 0 (f.count q) j (ltb-true j (f.count q) c.1) in
      let z : 0 + j ≡ j = omega arith in
      let y : fault_in f table_page q ≡ 0 = eqb-true (fault_in f table_page q) 0 b.0 in
      rw (y, c.0) (w.0, w.1 ∙ ap (λ n. w.0 ++ cell (record { above = []; page = q; index = n }) ∷ leaf_met q (suc n) (f.count q - suc j)) z)
  listed (suc l) ((p, i) ∷ up) q j e = go (listed l up q j)
    where
      go : (stands_in f l up q j ≡ true
          → (pre : List Met) × (listing f l (top_of up q) ≡ pre ++ cell (record { above = up; page = q; index = j }) ∷ after_in f l up q j))
          → (pre : List Met)
          × (unless_stop (fault_in f table_page p) p (cond (is_leaf f p) (leaf_met p 0 (f.count p)) (inner_met f (listing f l) p 0 (suc (f.count p))))
          ≡ pre
          ++ cell (record { above = (p, i) ∷ up; page = q; index = j })
          ∷ (under p i (after_in f l up q j) ++ inner_met f (listing f l) p (suc i) (f.count p - i)))
      go ih =
          let a =
          both (in_range f.N p) (eqb (fault_in f table_page p) 0 &&
          (not (is_leaf f p) && (leb i (f.count p) && (eqb (child_at f p i) (top_of up q) && stands_in f l up q j)))) e in
          let b =
          both (eqb (fault_in f table_page p) 0) (not (is_leaf f p) && (leb i (f.count p) && (eqb (child_at f p i) (top_of up q) && stands_in f l up q j)))
          a.1 in
          let c = both (not (is_leaf f p)) (leb i (f.count p) && (eqb (child_at f p i) (top_of up q) && stands_in f l up q j)) b.1 in
          let d = both (leb i (f.count p)) (eqb (child_at f p i) (top_of up q) && stands_in f l up q j) c.1 in
          let g = both (eqb (child_at f p i) (top_of up q)) (stands_in f l up q j) d.1 in
          let y : fault_in f table_page p ≡ 0 = eqb-true (fault_in f table_page p) 0 b.0 in
          let n : is_leaf f p ≡ false = not-true (is_leaf f p) c.0 in
          let k : child_at f p i ≡ top_of up q = eqb-true (child_at f p i) (top_of up q) g.0 in
          let m : i ≤ f.count p = leb-true i (f.count p) d.0 in
          let u = ih g.1 in
          let z : 0 + i ≡ i = omega arith in
          let v : suc (f.count p) - suc i ≡ f.count p - i = omega arith in
          let r : in_range f.N (child_at f p i) ≡ true = subst (λ t. in_range f.N t ≡ true) (sym k) (in-range l up q j g.1) in
          let w = inner-splits f (listing f l) p 0 (suc (f.count p)) i (omega arith) in
          let rest : List Met = inner_met f (listing f l) p (suc i) (f.count p - i) in
          let here-it : Met = cell (record { above = (p, i) ∷ up; page = q; index = j }) in
          let o : child_met f (listing f l) p i ≡ under p i u.0 ++ (here-it ∷ under p i (after_in f l up q j)) =
          child-met f (listing f l) p i r ∙ ap (λ t. under p i (listing f l t)) k ∙ ap (under p i) u.1
          ∙ under-append p i u.0 (cell (record { above = up; page = q; index = j }) ∷ after_in f l up q j) ∙ unfold under in refl in
          rw (y, n) (
            w.0 ++ under p i u.0,
            w.1 ∙ ap (λ t. w.0 ++ (child_met f (listing f l) p t ++ inner_met f (listing f l) p (suc t) (suc (f.count p) - suc i))) z
                ∙ ap (λ t. w.0 ++ (child_met f (listing f l) p i ++ inner_met f (listing f l) p (suc i) t)) v
                ∙ ap (λ t. w.0 ++ (t ++ rest)) o
                ∙ ap (λ t. w.0 ++ t) (append_assoc (under p i u.0) (here-it ∷ under p i (after_in f l up q j)) rest)
                ∙ sym (append_assoc w.0 (under p i u.0) (here-it ∷ (under p i (after_in f l up q j) ++ rest))),
          )

-- ---- parts of a listing
pub paths-append : (a b : List Met) → paths_of (a ++ b) ≡ paths_of a ++ paths_of b
unfolding paths_of
paths-append [] b = refl
paths-append (cell y ∷ a) b = ap (λ l. y ∷ l) (paths-append a b)
paths-append (stop n p ∷ a) b = paths-append a b

pub clean-right : (a b : List Met) → Clean (a ++ b) → Clean b
clean-right [] b c = c
clean-right (cell y ∷ a) b c = clean-right a b c
clean-right (stop n p ∷ a) b c = absurd c

module _ (f : File) where
  pub chained-right : (l p : ℕ) (a b : List Met) → Chained f l p (a ++ b) → Chained f l p b
  chained-right l p [] b c = c
  chained-right l p (cell y ∷ a) b c = chained-right l p a b c.3
  chained-right l p (stop n q ∷ a) b c = chained-right l p a b c

  pub chained-stands : (r : ℕ) (ms : List Met) → Chained f level_limit r ms → (y : Path) → Mem y (paths_of ms) → StandsUnder f r y
  unfolding paths_of
  chained-stands r [] c y m = elim m [ ]
  chained-stands r (cell z ∷ ms) c y (here e) = subst (StandsUnder f r) (sym e) (c.0, c.1)
  chained-stands r (cell z ∷ ms) c y (there m) = chained-stands r ms c.3 y m
  chained-stands r (stop n p ∷ ms) c y m = chained-stands r ms c y m

  pub rising-right : (a b : List Path) → Rising f (a ++ b) → Rising f b
  rising-right [] b o = o
  rising-right (y ∷ a) b o = rising-right a b o.1

  pub rising-apart : (a b : List Path) → Rising f (a ++ b) → (y z : Path) → Mem y a → Mem z b → row_at f y < row_at f z
  rising-apart (x ∷ a) b o y z (here e) n = subst (λ x. row_at f x < row_at f z) (sym e) (o.0 z (append_right a n))
  rising-apart (x ∷ a) b o y z (there m) n = rising-apart a b o.1 y z m n
  rising-apart [] b o y z x3 n = elim x3 [ ]
