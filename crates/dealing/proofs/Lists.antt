-- Lists: membership in a gathered list, lists whose keys are distinct, positions.
use mathlib.Core.Path.{◌≡◌, refl, sym, ◌∙◌, ap}
use mathlib.Core.Logic.{◌≢◌, ◌⊎◌, inl, inr, ⊎_elim}
use mathlib.Core.Option.{some}
use mathlib.Core.List.Memᴰ
use mathlib.Core.List.{List, [], ◌∷◌, ◌++◌, map}
use mathlib.Core.List.Memᴰ.{head as here}
use mathlib.Core.List.Memᴰ.{tail as there}
use mathlib.Core.List.{Memᴰ as Mem}
use mathlib.Core.List.Memᴰ.{append_cases}
use mathlib.Core.List.Memᴰ.{append_left}
use mathlib.Core.List.Memᴰ.{append_right}
use Prim.Native.Nat.{ℕ, zero, suc}
use native.Mathlib.Omega.{arith}
use lib.ListN.{get_elem?}

-- x stands at index i of l
abbrev pub At {ℓ} : {A : Type ℓ} → List A → ℕ → A → Type ℓ
At l i x = get_elem? l i ≡ some x

-- the lists of the elements, one after the other
module _ {A B : Type 0} (f : A → List B) where
  abbrev pub gather : List A → List B
  gather [] = []
  gather (x ∷ xs) = f x ++ gather xs

  pub gather-in : {x : A} {y : B} (xs : List A) → Mem x xs → Mem y (f x) → Mem y (gather xs)
  gather-in (z ∷ xs) (here e) m = append_left (gather xs) (rw e at m)
  gather-in (z ∷ xs) (there h) m = append_right (f z) (gather-in xs h m)
  gather-in {y = y} [] x3 m = elim x3 [ ]

  pub gather-out : {y : B} (xs : List A) → Mem y (gather xs) → (x : A) × Mem x xs × Mem y (f x)
  gather-out {y} (z ∷ xs) m = go (gather-out xs) (append_cases (f z) m)
    where
      go : (Mem y (gather xs) → (x : A) × Mem x xs × Mem y (f x)) → Mem y (f z) ⊎ Mem y (gather xs) → (x : A) × Mem x (z ∷ xs) × Mem y (f x)
      go ih (inl a) = (z, here refl, a)
      go ih (inr b) = let r = ih b in (r.0, there r.1, r.2)
  gather-out {y = y} [] m = elim m [ ]

-- no key twice
module _ {A : Type 0} (key : A → ℕ) where
  abbrev pub Once : List A → Type 0
  Once [] = Unit {0}
  Once (x ∷ xs) = ((y : A) → Mem y xs → key x ≢ key y) × Once xs

  pub once-append : (xs ys : List A) → Once xs → Once ys → ((x y : A) → Mem x xs → Mem y ys → key x ≢ key y) → Once (xs ++ ys)
  once-append [] ys a b h = b
  once-append (x ∷ xs) ys a b h = (
    λ y m. ⊎_elim (a.0 y) (λ k. h x y (here refl) k) (append_cases xs m),
    once-append xs ys a.1 b (λ u v k. h u v (there k)),
  )

  pub once-left : (xs ys : List A) → Once (xs ++ ys) → Once xs
  once-left [] ys o = tt
  once-left (x ∷ xs) ys o = (λ y m. o.0 y (append_left ys m), once-left xs ys o.1)

  pub once-right : (xs ys : List A) → Once (xs ++ ys) → Once ys
  once-right [] ys o = o
  once-right (x ∷ xs) ys o = once-right xs ys o.1

  pub once-apart : (xs ys : List A) → Once (xs ++ ys) → (x y : A) → Mem x xs → Mem y ys → key x ≢ key y
  once-apart (z ∷ xs) ys o x y (here e) k = rw e (o.0 y (append_right xs k))
  once-apart (z ∷ xs) ys o x y (there h) k = once-apart xs ys o.1 x y h k
  once-apart [] ys o x y x5 k = elim x5 [ ]

  pub once-same : {x y : A} (xs : List A) → Once xs → Mem x xs → Mem y xs → key x ≡ key y → x ≡ y
  once-same (z ∷ xs) o (here e) (here e') p = e ∙ sym e'
  once-same (z ∷ xs) o (here e) (there k) p = absurd (o.0 _ k (ap key (sym e) ∙ p))
  once-same (z ∷ xs) o (there h) (here e') p = absurd (o.0 _ h (ap key (sym e') ∙ sym p))
  once-same (z ∷ xs) o (there h) (there k) p = once-same xs o.1 h k p
  once-same {y = y} [] o x5 _ p = elim x5 [ ]

-- x stands at the place i of l
module _ {A : Type 0} where
  pub at_mem : {x : A} (l : List A) (i : ℕ) → At l i x → Mem x l
  at_mem [] i e = absurd (let z : ◌≡◌ {A = ℕ} 0 1 = cc in omega arith)
  at_mem {x} (y ∷ l) zero e = let e' : x ≡ y = cc in here e'
  at_mem (y ∷ l) (suc i) e = there (at_mem l i e)

  pub mem-at : {x : A} (l : List A) → Mem x l → (i : ℕ) × At l i x
  mem-at (y ∷ l) (here e) = (0, cc)
  mem-at (y ∷ l) (there m) = let r = mem-at l m in (suc r.0, r.1)
  mem-at [] x'' = elim x'' [ ]

module _ {A : Type 0} (key : A → ℕ) where
  pub once-at : {x y : A} (l : List A) (i j : ℕ) → Once key l → At l i x → At l j y → key x ≡ key y → i ≡ j
  once-at [] i j o a b p = absurd (let z : ◌≡◌ {A = ℕ} 0 1 = cc in omega arith)
  once-at (z ∷ l) zero zero o a b p = refl
  once-at {x} {y} (z ∷ l) zero (suc j) o a b p = absurd (o.0 y (at_mem l j b) (let e : z ≡ x = cc in ap key e ∙ p))
  once-at {x} {y} (z ∷ l) (suc i) zero o a b p = absurd (o.0 x (at_mem l i a) (let e : z ≡ y = cc in ap key e ∙ sym p))
  once-at (z ∷ l) (suc i) (suc j) o a b p = ap suc (once-at l i j o.1 a b p)

  pub at_once : (l : List A) → ((i j : ℕ) (x y : A) → At l i x → At l j y → key x ≡ key y → i ≡ j) → Once key l
  at_once [] h = tt
  at_once (z ∷ l) h = (
    λ y m p. let r = mem-at l m in let e : 0 ≡ suc r.0 = h 0 (suc r.0) z y refl r.1 p in omega arith,
    at_once l (λ i j x y a b p. let e : suc i ≡ suc j = h (suc i) (suc j) x y a b p in omega arith),
  )

-- a gathered list has no key twice where its parts have none, and parts of different keys share none
module _ {A B : Type 0} (f : A → List B) (ka : A → ℕ) (kb : B → ℕ) where
  pub once-gather : (cs : List A) → Once ka cs → ((c : A) → Mem c cs → Once kb (f c))
      → ((c c' : A) → Mem c cs → Mem c' cs → ka c ≢ ka c' → (x y : B) → Mem x (f c) → Mem y (f c') → kb x ≢ kb y) → Once kb (gather f cs)
  once-gather [] o each apart = tt
  once-gather (c ∷ cs) o each apart =
      once-append kb (f c) (gather f cs) (each c (here refl))
      (once-gather cs o.1 (λ c' m. each c' (there m)) (λ a b m n. apart a b (there m) (there n)))
      (λ x y m n. let r = gather-out f cs n in apart c r.0 (here refl) (there r.1) (o.0 r.0 r.1) x y m r.2)

  -- and the other way round, for parts that begin with an element of the same key
  pub once-part : (cs : List A) → Once kb (gather f cs) → (c : A) → Mem c cs → Once kb (f c)
  once-part (z ∷ cs) o c (here e) = rw e (once-left kb (f z) (gather f cs) o)
  once-part (z ∷ cs) o c (there m) = once-part cs (once-right kb (f z) (gather f cs) o) c m
  once-part [] o c x'' = elim x'' [ ]

  pub once-heads : (head : A → B) → ((c : A) → Mem (head c) (f c)) → ((c : A) → kb (head c) ≡ ka c) → (cs : List A) → Once kb (gather f cs) → Once ka cs
  once-heads head starts same [] o = tt
  once-heads head starts same (c ∷ cs) o = (
    λ y m. rw (← same c, ← same y) (once-apart kb (f c) (gather f cs) o (head c) (head y) (starts c) (gather-in f cs m (starts y))),
    once-heads head starts same cs (once-right kb (f c) (gather f cs) o),
  )

-- keys carried along a map
module _ {A B : Type 0} (f : A → B) (ka : A → ℕ) (kb : B → ℕ) (same : (a : A) → kb (f a) ≡ ka a) where
  pub once-map : (l : List A) → Once ka l → Once kb (map f l)
  once-map [] o = tt
  once-map (x ∷ l) o = (λ y m. let r = Memᴰ.of_map f l m in rw (same x, ← r.2, same r.0) (o.0 r.0 r.1), once-map l o.1)

  pub once-of-map : (l : List A) → Once kb (map f l) → Once ka l
  once-of-map [] o = tt
  once-of-map (x ∷ l) o = (λ y m. rw (← same x, ← same y) (o.0 (f y) (Memᴰ.map f m)), once-of-map l o.1)
