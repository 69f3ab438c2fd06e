-- Where a member of groups stands: its group and its place there, and back.
-- Assumes nothing.
use Prim.Native.Nat.{ℕ, zero, suc, ◌+◌, ◌-◌, ◌<◌, ◌≤◌}
use mathlib.Core.Path.{◌≡◌, refl, sym, ap, ◌∙◌, subst}
use mathlib.Core.List.{List, [], ◌∷◌, ◌++◌}
use mathlib.Core.Logic.{⊎_elim}
use native.Mathlib.Nat.{zero-add}
use native.Mathlib.Omega.{arith}
use lib.ListN.{length, get_or, take, length-append, get_or-append}
use lib.Seq.{get_or-append-add}
use borrow.Author.Tests.{lt-ltb, le-ltb}
use Rattle.number.proofs.Cases.{lt-or-ge}
use Rattle.writing.specs.Groups.{flat, before, group_with, Each}

pub each_at : {A : Type 0} (P : A → Type 0) (l : List A) (i : ℕ) (d : A) → i < length l → Each P l → P (get_or l i d)
each_at P [] i d h e = absurd (omega arith)
each_at P (x ∷ l) zero d h e = e.0
each_at P (x ∷ l) (suc i) d h e = each_at P l i d (omega arith) e.1

pub each_append : {A : Type 0} (P : A → Type 0) (l m : List A) → Each P l → Each P m → Each P (l ++ m)
each_append P [] m a b = b
each_append P (x ∷ l) m a b = (a.0, each_append P l m a.1 b)

pub each-by : {A : Type 0} (P Q : A → Type 0) (l : List A) → ((x : A) → P x → Q x) → Each P l → Each Q l
each-by P Q [] f a = tt
each-by P Q (x ∷ l) f a = (f x a.0, each-by P Q l f a.1)

pub flat-more : {A : Type 0} (g : List A) (gs : List (List A)) → flat (g ∷ gs) ≡ g ++ flat gs
unfolding flat
flat-more g gs = refl

module _ {A : Type 0} where
  pub flat-length : (g : List A) (gs : List (List A)) → length (flat (g ∷ gs)) ≡ length g + length (flat gs)
  unfolding flat
  flat-length g gs = length-append g (flat gs)

  pub before-none : (gs : List (List A)) → before gs 0 ≡ 0
  unfolding flat
  before-none [] = refl
  before-none (g ∷ gs) = refl

  pub before-next : (g : List A) (gs : List (List A)) (i : ℕ) → before (g ∷ gs) (suc i) ≡ length g + before gs i
  before-next g gs i = flat-length g (take i gs)

  -- the next group begins behind this one
  pub before_more : (gs : List (List A)) (i : ℕ) → i < length gs → before gs (suc i) ≡ before gs i + length (get_or gs i [])
  before_more [] i h = absurd (omega arith)
  before_more (g ∷ gs) zero h = omega (arith, before-next g gs 0, before-none gs, before-none (g ∷ gs))
  before_more (g ∷ gs) (suc i) h = omega (arith, before-next g gs (suc i), before-next g gs i, before_more gs i (omega arith))

  pub before-all : (gs : List (List A)) → before gs (length gs) ≡ length (flat gs)
  before-all [] = refl
  before-all (g ∷ gs) = omega (arith, before-next g gs (length gs), before-all gs, flat-length g gs)

  -- the jth of a group is that member of all
  pub flat-at : (gs : List (List A)) (i j : ℕ) (d : A) → i < length gs → j < length (get_or gs i [])
      → get_or (flat gs) (before gs i + j) d ≡ get_or (get_or gs i []) j d
  unfolding flat
  flat-at [] i j d h l = absurd (omega arith)
  flat-at (g ∷ gs) zero j d h l = ap (λ n. get_or (g ++ flat gs) n d) (zero-add j) ∙ get_or-append g (flat gs) d j l
  flat-at (g ∷ gs) (suc i) j d h l =
      let e : before (g ∷ gs) (suc i) + j ≡ length g + (before gs i + j) = omega (arith, before-next g gs i) in
      ap (λ n. get_or (g ++ flat gs) n d) e ∙ get_or-append-add g (flat gs) (before gs i + j) d ∙ flat-at gs i j d (omega arith) l

  flat-inside : (gs : List (List A)) (i : ℕ) → i < length gs → before gs i + length (get_or gs i []) ≤ length (flat gs)
  flat-inside [] i h = absurd (omega arith)
  flat-inside (g ∷ gs) zero h = omega (arith, flat-length g gs, before-none (g ∷ gs))
  flat-inside (g ∷ gs) (suc i) h = omega (arith, flat-length g gs, before-next g gs i, flat-inside gs i (omega arith))

  -- and it is one of all
  pub member_of : (gs : List (List A)) (i j : ℕ) → i < length gs → j < length (get_or gs i []) → before gs i + j < length (flat gs)
  member_of gs i j h l = omega (arith, flat-inside gs i h)

  with-here : (g : List A) (gs : List (List A)) (x : ℕ) → x < length g → group_with (g ∷ gs) x ≡ 0
  unfolding group_with
  with-here g gs x h = rw (lt-ltb x (length g) h)

  with-later : (g : List A) (gs : List (List A)) (x : ℕ) → group_with (g ∷ gs) (length g + x) ≡ suc (group_with gs x)
  unfolding group_with
  with-later g gs x =
      let e : length g + x - length g ≡ x = omega arith in
      rw (le-ltb (length g + x) (length g) (omega arith), e)

  -- its group is found again
  pub group-with : (gs : List (List A)) (i j : ℕ) → i < length gs → j < length (get_or gs i []) → group_with gs (before gs i + j) ≡ i
  group-with [] i j h l = absurd (omega arith)
  group-with (g ∷ gs) zero j h l = with-here g gs (before (g ∷ gs) 0 + j) (omega (arith, before-none (g ∷ gs)))
  group-with (g ∷ gs) (suc i) j h l =
      let e : before (g ∷ gs) (suc i) + j ≡ length g + (before gs i + j) = omega (arith, before-next g gs i) in
      ap (group_with (g ∷ gs)) e ∙ with-later g gs (before gs i + j) ∙ ap suc (group-with gs i j (omega arith) l)

  -- every member has a group
  pub record Member (gs : List (List A)) (x i : ℕ) : Type 0 where
    pub group : i < length gs
    pub low : before gs i ≤ x
    pub high : x < before gs i + length (get_or gs i [])

  pub member-in : (gs : List (List A)) (x : ℕ) → x < length (flat gs) → Member gs x (group_with gs x)
  unfolding flat
  member-in [] x h = absurd (omega arith)
  member-in (g ∷ gs) x h =
      ⊎_elim
      (λ (l : x < length g).
      let e = with-here g gs x l in
      let z = before-none (g ∷ gs) in
      subst (Member (g ∷ gs) x) (sym e) (record { group = omega arith; low = omega arith; high = omega arith }))
      (λ (l : length g ≤ x).
      let e : length g + (x - length g) ≡ x = omega arith in
      let r = member-in gs (x - length g) (omega (arith, length-append g (flat gs))) in
      let m : group_with (g ∷ gs) x ≡ suc (group_with gs (x - length g)) = ap (group_with (g ∷ gs)) (sym e) ∙ with-later g gs (x - length g) in
      let n = before-next g gs (group_with gs (x - length g)) in
      subst (Member (g ∷ gs) x) (sym m)
      (record { group = omega (arith, r.group); low = omega (arith, r.low); high = omega (arith, r.high) }))
      (lt-or-ge x (length g))
