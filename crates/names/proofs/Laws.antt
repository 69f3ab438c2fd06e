-- The names one by one, as a loop looks at them.
use Prim.Native.Nat.{ℕ, zero, suc, ◌+◌, ◌-◌, ◌≤◌, ◌<◌}
use mathlib.Core.Path.{◌≡◌, refl, sym, ap, ◌∙◌}
use mathlib.Core.Bool.{Bool, true, false, cond, not}
use mathlib.Core.Logic.{◌≢◌}
use mathlib.Core.List.{List, ◌∷◌, []}
use lib.Dec.{eqb}
use Rattle.std.specs.List.{list_any}
use Rattle.std.proofs.Common.{◌||◌}
use lib.ListN.{length, get_or, drop, drop_of_length-le}
use lib.Seq.{drop-cons}
use native.Mathlib.Omega.{arith}
use borrow.Author.Tests.{eqb-true, eq-eqb, ne_eqb, le-leb, lt-leb}
use Rattle.number.specs.Bytes.{be}
use Rattle.header.specs.declared.Header.{Header}
use Rattle.header.specs.Header.{page_of}
use Rattle.dealing.specs.File.{File, index_type}
use Rattle.dealing.specs.Walk.{in_range, is_named, is_index_root, name_checks, settle, accepted, refusal}
use Rattle.image.specs.Pages.{page_in, head_of}
use Rattle.image.specs.Image.{file_of}
use Rattle.image.specs.Ready.{Opened}
use Rattle.image.proofs.Tree.{page_is}
use Rattle.names.specs.Names.{bad34}

module _ (l : List ℕ) (i : ℕ) (h : i < length l) where
  rest : drop i l ≡ get_or l i 0 ∷ drop (i + 1) l
  rest = let e : suc i ≡ i + 1 = omega arith in drop-cons l i 0 h ∙ ap (λ k. get_or l i 0 ∷ drop k l) e

  module _ (f : File) (ks ns : List ℕ) where
    pub names-stop : is_index_root f ks (get_or l i 0) ≡ false → settle (name_checks f ks (drop i l)) ks ns ≡ refusal 35 (get_or l i 0)
    unfolding name_checks settle
    names-stop e = ap (λ x. settle (name_checks f ks x) ks ns) rest ∙ rw e

    pub names-on : is_index_root f ks (get_or l i 0) ≡ true → settle (name_checks f ks (drop i l)) ks ns ≡ settle (name_checks f ks (drop (i + 1) l)) ks ns
    unfolding name_checks settle
    names-on e = ap (λ x. settle (name_checks f ks x) ks ns) rest ∙ rw e

module _ (l : List ℕ) (i : ℕ) (h : length l ≤ i) where
  pub names-end : (f : File) (ks ns : List ℕ) → settle (name_checks f ks (drop i l)) ks ns ≡ accepted ks ns
  unfolding name_checks settle
  names-end f ks ns = ap (λ x. settle (name_checks f ks x) ks ns) (drop_of_length-le l h)

-- the names one by one
pub named_any : (l : List ℕ) (r : ℕ) → list_any (λ x. eqb x r) l ≡ is_named l r
unfolding is_named
named_any [] r = refl
named_any (x ∷ l) r = go (eqb x r) (named_any l r)
  where
    go : (t : Bool) → list_any (λ x. eqb x r) l ≡ is_named l r → (t || list_any (λ x. eqb x r) l) ≡ cond t true (is_named l r)
    go true e = refl
    go false e = e

-- the type byte of a page
pub type-is : {b : List ℕ} {h : Header} (r : ℕ) (page : List ℕ) (head : ℕ) → Opened b h → page ≡ page_of b h.size r → head ≡ head_of r
    → get_or page head 0 ≡ (file_of b).type r
unfolding file_of
type-is {b} {h} r page head o e k = ap (λ x. get_or x head 0) (page_is r page o e) ∙ ap (λ x. get_or (page_in b r) x 0) k

pub index-other : (kind type : ℕ) → kind ≡ type → kind ≢ 2 → kind ≢ 10 → false ≡ index_type type
index-other kind type e a b = rw (← e, ne_eqb kind 2 a, ne_eqb kind 10 b) refl

module _ (f : File) (ks : List ℕ) (r : ℕ) where
  pub root-zero : r ≡ 0 → false ≡ is_index_root f ks r
  unfolding is_index_root
  root-zero e = rw e

  pub root-far : f.N < r → false ≡ is_index_root f ks r
  unfolding is_index_root
  root-far h = go r h
    where
      go : (r : ℕ) → f.N < r → false ≡ cond (in_range f.N r) (cond (eqb (get_or ks (r - 1) 0) 1) (index_type (f.type r)) false) false
      go zero h = refl
      go (suc r) h = rw (lt-leb (suc r) f.N h)

  module _ (a : r ≢ 0) (h : r ≤ f.N) where
    in-range : in_range f.N r ≡ true
    in-range = go r a h
      where
        go : (r : ℕ) → r ≢ 0 → r ≤ f.N → in_range f.N r ≡ true
        go zero a h = absurd (a refl)
        go (suc r) a h = le-leb (suc r) f.N h

    pub root-other : get_or ks (r - 1) 0 ≢ 1 → false ≡ is_index_root f ks r
    unfolding is_index_root
    root-other n = rw (in-range, ne_eqb (get_or ks (r - 1) 0) 1 n)

    pub root-typed : (x : Bool) → get_or ks (r - 1) 0 ≡ 1 → x ≡ index_type (f.type r) → x ≡ is_index_root f ks r
    unfolding is_index_root
    root-typed x e k = k ∙ sym (rw (in-range, eq-eqb (get_or ks (r - 1) 0) 1 e) refl)

-- 34
pub text-unasked : (l b : List ℕ) → true ≡ eqb (length l) 0 → false ≡ bad34 l b
unfolding bad34
text-unasked [] b e = refl
text-unasked (r ∷ rs) b e = absurd (omega (arith, eqb-true (length (r ∷ rs)) 0 (sym e)))

pub text-asked : (l b : List ℕ) (n : ℕ) → false ≡ eqb (length l) 0 → n ≡ be 4 b 56 → not (eqb n 1) ≡ bad34 l b
unfolding bad34
text-asked [] b n a e = absurd (let z : ◌≡◌ {A = ℕ} 0 1 = cc in omega arith)
text-asked (r ∷ rs) b n a e = ap (λ m. not (eqb m 1)) e
