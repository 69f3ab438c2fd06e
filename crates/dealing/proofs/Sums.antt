-- Sums over lists and over the pages 1..n.
use mathlib.Core.Path.{◌≡◌, refl, sym, ◌∙◌, ap, subst}
use mathlib.Core.Bool.{cond}
use mathlib.Core.Logic.{◌≢◌}
use mathlib.Core.List.{List, [], ◌∷◌, ◌++◌, map}
use mathlib.Core.List.Memᴰ.{head as here}
use mathlib.Core.List.Memᴰ.{tail as there}
use mathlib.Core.List.{Memᴰ as Mem}
use mathlib.Core.List.Permᴰ.{cons}
use mathlib.Core.List.Permᴰ.{nil}
use mathlib.Core.List.Permᴰ.{swap}
use mathlib.Core.List.Permᴰ.{trans}
use mathlib.Core.List.{Permᴰ as Perm}
use Prim.Native.Nat.{ℕ, zero, suc, ◌+◌, ◌≤◌, ◌<◌}
use native.Mathlib.Omega.{arith}
use native.Mathlib.Decide.{ℕ_discrete}
use lib.Dec.{eqb}
use borrow.Author.Tests.{eq-eqb, ne_eqb}
use Rattle.dealing.proofs.Lists.{gather, Once}

module _ {A : Type 0} (g : A → ℕ) where
  abbrev pub sum : List A → ℕ
  sum [] = 0
  sum (x ∷ xs) = g x + sum xs

  pub sum-append : (a b : List A) → sum (a ++ b) ≡ sum a + sum b
  sum-append [] b = omega arith
  sum-append (x ∷ a) b = omega (arith, sum-append a b)

  pub sum-perm : {l l' : List A} → Perm l l' → sum l ≡ sum l'
  sum-perm nil = refl
  sum-perm (cons e d) = omega (arith, ap g e, sum-perm d)
  sum-perm (swap e e') = omega (arith, ap g e, ap g e')
  sum-perm (trans d d') = sum-perm d ∙ sum-perm d'

  pub sum-zero : (l : List A) → ((x : A) → Mem x l → g x ≡ 0) → sum l ≡ 0
  sum-zero [] h = refl
  sum-zero (x ∷ l) h = omega (arith, h x (here refl), sum-zero l (λ y m. h y (there m)))

  pub sum-has : (l : List A) (x : A) → Mem x l → g x ≤ sum l
  sum-has (y ∷ l) x (here e) = omega (arith, ap g e)
  sum-has (y ∷ l) x (there m) = omega (arith, sum-has l x m)
  sum-has [] x x3 = elim x3 [ ]

module _ {A B : Type 0} (g : B → ℕ) (k : A → List B) where
  pub sum-gather : (l : List A) → sum g (gather k l) ≡ sum (λ x. sum g (k x)) l
  sum-gather [] = refl
  sum-gather (x ∷ l) = omega (arith, sum-append g (k x) (gather k l), sum-gather l)

pub sum_same : {A : Type 0} (g h : A → ℕ) (l : List A) → ((x : A) → Mem x l → g x ≡ h x) → sum g l ≡ sum h l
sum_same g h [] e = refl
sum_same g h (x ∷ l) e = omega (arith, e x (here refl), sum_same g h l (λ y m. e y (there m)))

pub sum-map : {A B : Type 0} (g : B → ℕ) (k : A → B) (l : List A) → sum g (map k l) ≡ sum (λ x. g (k x)) l
sum-map g k [] = refl
sum-map g k (x ∷ l) = omega (arith, sum-map g k l)

-- 1 where the two are equal
abbrev pub one : ℕ → ℕ → ℕ
one a b = cond (eqb a b) 1 0

pub one_same : (a b : ℕ) → a ≡ b → one a b ≡ 1
one_same a b e = rw (eq-eqb a b e)

pub one-other : (a b : ℕ) → a ≢ b → one a b ≡ 0
one-other a b n = rw (ne_eqb a b n)

-- how often a key stands in a list
module _ {A : Type 0} (key : A → ℕ) where
  abbrev pub count : ℕ → List A → ℕ
  count t l = sum (λ x. one (key x) t) l

  pub count-has : (t : ℕ) (l : List A) → 1 ≤ count t l → (x : A) × Mem x l × (key x ≡ t)
  count-has t [] h = absurd (omega arith)
  count-has t (x ∷ l) h = go (λ k. count-has t l k) (ℕ_discrete (key x) t)
    where
      go : (1 ≤ count t l → (y : A) × Mem y l × (key y ≡ t)) → Dec (key x ≡ t) → (y : A) × Mem y (x ∷ l) × (key y ≡ t)
      go ih (yes e) = (x, here refl, e)
      go ih (no n) = let r = ih (omega (arith, one-other (key x) t n)) in (r.0, there r.1, r.2)

  pub count-in : (l : List A) (x : A) → Mem x l → 1 ≤ count (key x) l
  count-in (y ∷ l) x (here e) = omega (arith, one_same (key y) (key x) (ap key (sym e)))
  count-in (y ∷ l) x (there m) = omega (arith, count-in l x m)
  count-in [] x x3 = elim x3 [ ]

  pub count_none : (t : ℕ) (l : List A) → ((x : A) → Mem x l → key x ≢ t) → count t l ≡ 0
  count_none t l h = sum-zero (λ x. one (key x) t) l (λ x m. one-other (key x) t (h x m))

  -- no key twice, where none is counted twice
  pub count-once : (l : List A) → ((x : A) → Mem x l → count (key x) l ≤ 1) → Once key l
  count-once [] h = tt
  count-once (x ∷ l) h = (
    λ y m e.
        let c = h x (here refl) in
        let i = count-in l y m in
        omega (arith, one_same (key x) (key x) refl, subst (λ k. 1 ≤ count k l) (sym e) i),
    count-once l (λ y m. let c = h y (there m) in omega arith),
  )

  pub once-count : (l : List A) → Once key l → (x : A) → Mem x l → count (key x) l ≡ 1
  once-count (y ∷ l) o x (here e) =
      omega (arith, one_same (key y) (key x) (ap key (sym e)), count_none (key x) l (λ z m k. o.0 z m (ap key (sym e) ∙ sym k)))
  once-count (y ∷ l) o x (there m) =
      omega (arith, one-other (key y) (key x) (o.0 x m), once-count l o.1 x m)
  once-count [] o x x4 = elim x4 [ ]

-- over the pages 1..n
abbrev pub over-pages : (ℕ → ℕ) → ℕ → ℕ
over-pages g zero = 0
over-pages g (suc n) = g (suc n) + over-pages g n

pub pages-same : (g h : ℕ → ℕ) (n : ℕ) → ((p : ℕ) → 1 ≤ p → p ≤ n → g p ≡ h p) → over-pages g n ≡ over-pages h n
pages-same g h zero e = refl
pages-same g h (suc n) e = omega (arith, e (suc n) (omega arith) (omega arith), pages-same g h n (λ p a b. e p a (omega arith)))

pub pages-plus : (g h : ℕ → ℕ) (n : ℕ) → over-pages (λ p. g p + h p) n ≡ over-pages g n + over-pages h n
pages-plus g h zero = refl
pages-plus g h (suc n) = omega (arith, pages-plus g h n)

pub pages-zero : (n : ℕ) → over-pages (λ p. 0) n ≡ 0
pages-zero zero = refl
pages-zero (suc n) = omega (arith, pages-zero n)

-- the weight of one page
abbrev pub at-page : ℕ → ℕ → ℕ → ℕ
at-page t w p = cond (eqb t p) w 0

pub pages-before : (t w n : ℕ) → n < t → over-pages (at-page t w) n ≡ 0
pages-before t w zero h = refl
pages-before t w (suc n) h = rw (ne_eqb t (suc n) (λ e. omega arith)) (omega (arith, pages-before t w n (omega arith)))

pub pages-one : (t w n : ℕ) → 1 ≤ t → t ≤ n → over-pages (at-page t w) n ≡ w
pages-one t w zero a b = absurd (omega arith)
pages-one t w (suc n) a b = go (λ k. pages-one t w n a k) (ℕ_discrete t (suc n))
  where
    go : (t ≤ n → over-pages (at-page t w) n ≡ w) → Dec (t ≡ suc n) → over-pages (at-page t w) (suc n) ≡ w
    go ih (yes e) = rw (eq-eqb t (suc n) e) (omega (arith, pages-before t w n (omega arith)))
    go ih (no k) = rw (ne_eqb t (suc n) k) (omega (arith, ih (omega arith)))

-- what a list of things weighs, page by page
module _ {A : Type 0} (key : A → ℕ) (g : A → ℕ) where
  abbrev pub tally : List A → ℕ → ℕ
  tally l p = sum (λ x. at-page (key x) (g x) p) l

  pub tally-all : (n : ℕ) (l : List A) → ((x : A) → Mem x l → (1 ≤ key x) × (key x ≤ n)) → over-pages (tally l) n ≡ sum g l
  tally-all n [] h = pages-zero n
  tally-all n (x ∷ l) h =
      omega (
        arith,
        pages-plus (at-page (key x) (g x)) (tally l) n,
        pages-one (key x) (g x) n (h x (here refl)).0 (h x (here refl)).1,
        tally-all n l (λ y m. h y (there m)),
      )

  pub tally-none : (l : List A) (p : ℕ) → ((x : A) → Mem x l → key x ≢ p) → tally l p ≡ 0
  tally-none l p h = sum-zero (λ x. at-page (key x) (g x) p) l (λ x m. rw (ne_eqb (key x) p (h x m)))

  pub tally-one : (l : List A) → Once key l → (x : A) → Mem x l → tally l (key x) ≡ g x
  tally-one (y ∷ l) o x (here e) =
      rw (eq-eqb (key y) (key x) (ap key (sym e)))
      (omega (arith, ap g e, tally-none l (key x) (λ z m k. o.0 z m (ap key (sym e) ∙ sym k))))
  tally-one (y ∷ l) o x (there m) =
      rw (ne_eqb (key y) (key x) (o.0 x m)) (omega (arith, tally-one l o.1 x m))
  tally-one [] o x x4 = elim x4 [ ]
