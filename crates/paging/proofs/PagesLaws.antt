-- Laws of bytes laid over others, and of pages laid side by side.
use Prim.Native.Nat.{ℕ, zero, suc, ◌+◌, ◌-◌, ◌*◌, ◌/◌, ◌%◌, ◌<◌, ◌≤◌}
use mathlib.Core.Path.{◌≡◌, refl, sym, ◌∙◌}
use mathlib.Core.List.{List, [], ◌++◌, append-nil}
use mathlib.Core.Bool.{Bool, true, false, cond}
use mathlib.Core.Logic.{◌⊎◌, inl, inr, ⊎_elim}
use lib.Dec.{eqb}
use borrow.Author.Tests.{eqb-true}
use native.Mathlib.Nat.{add-sub_cancel, suc-mul, mul-le-mul, mul-le-mul_right, zero-mul, le-suc_iff, div-lt_iff_lt-mul, div-add-mod', mod-lt}
use native.Mathlib.Omega.{arith}
use lib.ListN.{length, take, drop, length-append, length-drop, drop_of_length-le, get_or-append}
use lib.Seq.{length-take-le, take-length, get_or-take, get_or-drop, get_or-append-add, drop-drop, take_all, ext_get_or}
use borrow.Rule.Slice.PartMut.{put_mid}
use Rattle.number.proofs.Cases.{lt-or-ge, true-or-false}
use Rattle.number.specs.Bytes.{byte_at, part}
use Rattle.paging.specs.Pages.{page_limit, join_pages, over, size_fits}

-- what `lay` does: the tail of the slice, lent and changed, put back
pub lay-is : (out src tail : List ℕ) (at : ℕ) → at + length src ≤ length out
    → tail ≡ take (length src) src ++ drop (length src) (take (length out - at) (drop at out))
    → put_mid at (length out - at) out tail ≡ over out at src
lay-is out src tail at h e =
    let all : length (drop at out) ≤ length out - at = omega (arith, length-drop at out) in
    let whole : take (length out - at) (drop at out) ≡ drop at out = take_all (length out - at) (drop at out) all in
    let none : drop (length out - at) (drop at out) ≡ [] = drop_of_length-le (drop at out) all in
    simp (e, take-length, whole, none, drop-drop, append-nil)

module _ (b : List ℕ) (at : ℕ) (s : List ℕ) (fits : at + length s ≤ length b) where
  pub length_over : length (over b at s) ≡ length b
  length_over = simp (length-append, length-take-le at b (omega arith), length-drop) (omega arith)

  -- below, within and past what was laid
  pub over_below : (i : ℕ) → i < at → byte_at (over b at s) i ≡ byte_at b i
  over_below i h = get_or-append (take at b) (s ++ drop (at + length s) b) 0 i (omega (arith, length-take-le at b (omega arith))) ∙ get_or-take at b i 0 h

  pub over-within : (i : ℕ) → i < length s → byte_at (over b at s) (at + i) ≡ byte_at s i
  over-within i h =
      let e : length (take at b) ≡ at = length-take-le at b (omega arith) in
      let f = get_or-append-add (take at b) (s ++ drop (at + length s) b) i 0 in
      rw e at f ∙ get_or-append s (drop (at + length s) b) 0 i h

  pub over-past : (i : ℕ) → at + length s ≤ i → byte_at (over b at s) i ≡ byte_at b i
  over-past i h =
      let e : length (take at b) ≡ at = length-take-le at b (omega arith) in
      let k : ℕ = i - (at + length s) in
      let f = get_or-append-add (take at b) (s ++ drop (at + length s) b) (length s + k) 0 in
      let g = get_or-append-add s (drop (at + length s) b) k 0 in
      let p : at + (length s + k) ≡ i = omega arith in
      let q : at + length s + k ≡ i = omega arith in
      rw (e, p) at f ∙ g ∙ rw q at (get_or-drop (at + length s) b k 0)

-- page p of n pages ends by n * size
pub page-fits : (p n size : ℕ) → 1 ≤ p → p ≤ n → (p - 1) * size + size ≤ n * size
page-fits p n size a b =
    let e : suc (p - 1) ≡ p = omega arith in
    let m : suc (p - 1) * size ≤ n * size = mul-le-mul_right size (omega arith) in
    rw suc-mul at m

-- a page before another ends where that one begins, or before
pub pages-apart : (p q size : ℕ) → 1 ≤ p → p < q → (p - 1) * size + size ≤ (q - 1) * size
pages-apart p q size a b = page-fits p (q - 1) size a (omega arith)

-- pages up to the limit, of sizes that fit, end before 2^38
pub page-small : (p size : ℕ) → p ≤ page_limit → size ≤ 65536 → p * size ≤ 144179200000
page-small p size a b = mul-le-mul a b

-- pages of one size side by side
module _ (shown : ℕ → List ℕ) (size : ℕ) where
  abbrev pub Sized : (n : ℕ) → Type 0
  Sized n = (p : ℕ) → 1 ≤ p → p ≤ n → length (shown p) ≡ size

  pub length-pages : (n : ℕ) → Sized n → length (join_pages shown n) ≡ n * size
  unfolding join_pages
  length-pages zero h = sym (zero-mul size)
  length-pages (suc n) h =
      length-append (join_pages shown n) (shown (suc n))
      ∙ simp (length-pages n (λ p a b. h p a (omega arith)), h (suc n) (omega arith) (omega arith), suc-mul)

  -- byte k of page p
  pub pages-at : (n : ℕ) → Sized n → (p k : ℕ) → 1 ≤ p → p ≤ n → k < size
      → byte_at (join_pages shown n) ((p - 1) * size + k) ≡ byte_at (shown p) k
  unfolding join_pages
  pages-at zero h p k a b c = absurd (let z : 1 ≤ 0 = omega arith in omega arith)
  pages-at (suc n) h p k a b c =
      let h' : Sized n = λ q x y. h q x (omega arith) in
      let e : length (join_pages shown n) ≡ n * size = length-pages n h' in
      ⊎_elim
      (λ (lt : p ≤ n).
      let m : (p - 1) * size + size ≤ n * size = page-fits p n size a lt in
      get_or-append (join_pages shown n) (shown (suc n)) 0 ((p - 1) * size + k) (omega arith) ∙ pages-at n h' p k a lt c)
      (λ (eq : p ≡ suc n).
      let q : p - 1 ≡ n = omega arith in
      let f = get_or-append-add (join_pages shown n) (shown (suc n)) k 0 in
      rw (q, eq) (rw e at f))
      (le-suc_iff.0 b)

  -- a buffer that holds those pages, and past them what it held
  pub pages-laid : (n : ℕ) (out out' : List ℕ) → Sized n → 0 < size → n * size ≤ length out → length out' ≡ length out
      → ((p k : ℕ) → 1 ≤ p → p ≤ n → k < size → byte_at out' ((p - 1) * size + k) ≡ byte_at (shown p) k)
      → ((i : ℕ) → n * size ≤ i → byte_at out' i ≡ byte_at out i)
      → out' ≡ join_pages shown n ++ drop (n * size) out
  pages-laid n out out' h some room same within past =
      let e : length (join_pages shown n) ≡ n * size = length-pages n h in
      let l : length out' ≡ length (join_pages shown n ++ drop (n * size) out) = same ∙ sym (simp (length-append, e, length-drop) (omega arith)) in
      ext_get_or 0 out' (join_pages shown n ++ drop (n * size) out) l
      (λ i lt. ⊎_elim
      (λ (low : i < n * size).
      let d : i / size < n = (div-lt_iff_lt-mul some).1 low in
      let m : i % size < size = mod-lt i some in
      let split : i / size * size + i % size ≡ i = div-add-mod' i size in
      let w = within (i / size + 1) (i % size) (omega arith) (omega arith) m in
      let v = pages-at n h (i / size + 1) (i % size) (omega arith) (omega arith) m in
      let one : i / size + 1 - 1 ≡ i / size = add-sub_cancel (i / size) 1 in
      rw (one, split) at w ∙ sym (rw (one, split) at v) ∙ sym (get_or-append (join_pages shown n) (drop (n * size) out) 0 i (omega arith)))
      (λ (high : n * size ≤ i).
      let k : n * size + (i - n * size) ≡ i = omega arith in
      let f = get_or-append-add (join_pages shown n) (drop (n * size) out) (i - n * size) 0 in
      past i high ∙ sym (rw (e, k) at f ∙ rw k at (get_or-drop (n * size) out (i - n * size) 0)))
      (lt-or-ge i (n * size)))

-- n bytes from `at` on
pub part_length : (b : List ℕ) (at n : ℕ) → at + n ≤ length b → length (part b at n) ≡ n
part_length b at n h = length-take-le n (drop at b) (omega (arith, length-drop at b))

pub part_at : (b : List ℕ) (at n k : ℕ) → k < n → byte_at (part b at n) k ≡ byte_at b (at + k)
part_at b at n k h = get_or-take n (drop at b) k 0 h ∙ get_or-drop at b k 0

-- page p, cut out of the pages again
pub page-of-join : (shown : ℕ → List ℕ) (size n : ℕ) (rest : List ℕ) → Sized shown size n → (p : ℕ) → 1 ≤ p → p ≤ n
    → part (join_pages shown n ++ rest) ((p - 1) * size) size ≡ shown p
page-of-join shown size n rest h p a b =
    let e : length (join_pages shown n) ≡ n * size = length-pages shown size n h in
    let m = page-fits p n size a b in
    let all = length-append (join_pages shown n) rest in
    let l : length (part (join_pages shown n ++ rest) ((p - 1) * size) size) ≡ size =
    part_length (join_pages shown n ++ rest) ((p - 1) * size) size (omega arith) in
    ext_get_or 0 (part (join_pages shown n ++ rest) ((p - 1) * size) size) (shown p) (l ∙ sym (h p a b))
    (λ k lt.
    part_at (join_pages shown n ++ rest) ((p - 1) * size) size k (omega arith)
    ∙ get_or-append (join_pages shown n) rest 0 ((p - 1) * size + k) (omega arith)
    ∙ pages-at shown size n h p k a b (omega arith))

-- a size that fits is one of eight
abbrev pub IsSize : (x : ℕ) → Type 0
IsSize x = (x ≡ 512) ⊎ (x ≡ 1024) ⊎ (x ≡ 2048) ⊎ (x ≡ 4096) ⊎ (x ≡ 8192) ⊎ (x ≡ 16384) ⊎ (x ≡ 32768) ⊎ (x ≡ 65536)

pub size-one : (x : ℕ) → size_fits x ≡ true → IsSize x
unfolding size_fits
size-one x h =
    by 512 (λ h. by 1024 (λ h. by 2048 (λ h. by 4096 (λ h. by 8192 (λ h. by 16384 (λ h. by 32768 (λ h. eqb-true x 65536 h) h) h) h) h) h) h) h
  where
    by : {A : Type 0} (k : ℕ) {y : Bool} → (y ≡ true → A) → cond (eqb x k) true y ≡ true → (x ≡ k) ⊎ A
    by k {y} no-then h =
        ⊎_elim (λ (e : eqb x k ≡ true). inl (eqb-true x k e)) (λ (e : eqb x k ≡ false). inr (no-then (simp e at h))) (true-or-false (eqb x k))

-- .. and lies between 512 and 65536
pub fits-range : (x : ℕ) → size_fits x ≡ true → (512 ≤ x) × (x ≤ 65536)
fits-range x h = let s = size-one x h in (omega arith, omega arith)

-- the ways out of `size_fits`
pub fits-some : (x : ℕ) → IsSize x → true ≡ size_fits x
unfolding size_fits
fits-some x (inl e) = rw e refl
fits-some x (inr (inl e)) = rw e refl
fits-some x (inr (inr (inl e))) = rw e refl
fits-some x (inr (inr (inr (inl e)))) = rw e refl
fits-some x (inr (inr (inr (inr (inl e))))) = rw e refl
fits-some x (inr (inr (inr (inr (inr (inl e)))))) = rw e refl
fits-some x (inr (inr (inr (inr (inr (inr (inl e))))))) = rw e refl
fits-some x (inr (inr (inr (inr (inr (inr (inr e))))))) = rw e refl

pub fits-none : (x : ℕ) → (IsSize x → ⊥) → false ≡ size_fits x
fits-none x h = ⊎_elim (λ (e : size_fits x ≡ true). absurd (h (size-one x e))) (λ (e : size_fits x ≡ false). sym e) (true-or-false (size_fits x))
