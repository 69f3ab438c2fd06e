-- What a commit is given, as the code tests it.
use Prim.Native.Nat.{ℕ, zero, suc, ◌+◌, ◌*◌, ◌/◌, ◌%◌, ◌^◌, ◌≤◌, ◌<◌}
use mathlib.Core.Path.{◌≡◌, refl, sym, ap, ◌∙◌}
use Rattle.std.proofs.Common.{◌↔◌}
use mathlib.Core.Bool.{Bool, true, false, cond, false≢true}
use mathlib.Core.List.{List, [], ◌∷◌}
use native.Mathlib.Nat.{add-zero, mul-add, mul-le-mul_left, mul-div_cancel, mul-mod_left, div-add-mod'}
use native.Mathlib.Omega.{arith}
use lib.Dec.{eqb, ltb}
use lib.ListN.{length, get_or, drop, drop_of_length-le}
use lib.Seq.{drop-cons}
use borrow.Author.Tests.{eqb-true, eqb-false, ltb-false, not-true}
use Rattle.number.proofs.Cases.{by_cond}
use Rattle.paging.specs.Pages.{page_limit, lock_page, size_fits}
use Rattle.paging.proofs.PagesLaws.{fits-range}
use Rattle.wal.specs.Frames.{frame_at}
use Rattle.appending.specs.Tail.{size_in, frames_in}
use Rattle.appending.specs.Promises.{Fits}
use Rattle.appending.specs.Answers.{frame_limit, tail_fits, number_fits, numbers_fit, given_fits, added_length, append_refusal}

-- ---- the numbers given
pub numbers_step : (size n : ℕ) (l : List ℕ) (i : ℕ) → i < length l
    → numbers_fit size n (drop i l) ≡ cond (number_fits size n (get_or l i 0)) (numbers_fit size n (drop (i + 1) l)) false
unfolding numbers_fit
numbers_step size n l i h =
    let e : i + 1 ≡ suc i = omega arith in
    rw e (ap (numbers_fit size n) (drop-cons l i 0 h))

pub numbers_end : (size n : ℕ) (l : List ℕ) (i : ℕ) → length l ≤ i → numbers_fit size n (drop i l) ≡ true
unfolding numbers_fit
numbers_end size n l i h = ap (numbers_fit size n) (drop_of_length-le l h)

-- ---- what is given
-- as the code tests how many bytes there are
pub divided : (size long k : ℕ) → 1 ≤ size → (long ≡ k * size) ↔ ((long / size ≡ k) × (long % size ≡ 0))
divided size long k some = (
  λ e. (
    ap (λ (n : ℕ). n / size) e ∙ mul-div_cancel k some,
    ap (λ (n : ℕ). n % size) e ∙ mul-mod_left k size,
  ),
  λ h. sym (div-add-mod' long size) ∙ rw (h.0, h.1) (add-zero (k * size)),
)

-- what fits has its bytes
pub given-whole : (size n : ℕ) (numbers : List ℕ) (long : ℕ) → given_fits size n numbers long ≡ true → long ≡ length numbers * size
unfolding given_fits
given-whole size n numbers long h =
    by_cond (λ (b : Bool). b ≡ true → long ≡ length numbers * size) (eqb (length numbers) 0) false _ (λ e z. absurd (false≢true z))
    (λ e. by_cond (λ (b : Bool). b ≡ true → long ≡ length numbers * size) (eqb long (length numbers * size)) _ false (λ w z. eqb-true _ _ w) (λ w z. absurd (false≢true z)))
    h

-- so the length of its frames is
pub given_long : (size n : ℕ) (numbers : List ℕ) (long : ℕ) → given_fits size n numbers long ≡ true → long + 24 * length numbers ≡ added_length size numbers
given_long size n numbers long h = omega (arith, given-whole size n numbers long h, mul-add (length numbers) 24 size)

-- what a tail that fits says of its page size
pub tail_size : (tail : List ℕ) → tail_fits tail ≡ true → (512 ≤ size_in tail) × (size_in tail ≤ 65536)
unfolding tail_fits
tail_size tail h = go (size_fits (size_in tail)) refl
  where
    go : (t : Bool) → size_fits (size_in tail) ≡ t → (512 ≤ size_in tail) × (size_in tail ≤ 65536)
    go true e = fits-range (size_in tail) e
    go false e = absurd (false≢true (simp e at h))

-- ---- what passes
number_passed : (size n p : ℕ) → number_fits size n p ≡ true → (1 ≤ p) × (p ≤ n) × (p ≡ lock_page size → ⊥)
unfolding number_fits
number_passed size n p h =
    by_cond (λ (b : Bool). b ≡ true → (1 ≤ p) × (p ≤ n) × (p ≡ lock_page size → ⊥)) (eqb p 0) false _ (λ e z. absurd (false≢true z))
    (λ e. by_cond (λ (b : Bool). b ≡ true → (1 ≤ p) × (p ≤ n) × (p ≡ lock_page size → ⊥)) (ltb n p) false _ (λ l z. absurd (false≢true z))
    (λ l z. (let q = eqb-false p 0 e in omega arith, ltb-false n p l, eqb-false p (lock_page size) (not-true _ z))))
    h

numbers-passed : (size n : ℕ) (l : List ℕ) → numbers_fit size n l ≡ true → (i : ℕ) → i < length l → number_fits size n (get_or l i 0) ≡ true
unfolding numbers_fit
numbers-passed size n [] h i k = absurd (omega arith)
numbers-passed size n (p ∷ rest) h i k = go (numbers-passed size n rest) (number_fits size n p) refl i k
  where
    go : (numbers_fit size n rest ≡ true → (i : ℕ) → i < length rest → number_fits size n (get_or rest i 0) ≡ true)
        → (t : Bool) → number_fits size n p ≡ t → (i : ℕ) → i < suc (length rest) → number_fits size n (get_or (p ∷ rest) i 0) ≡ true
    go r true e zero k = e
    go r true e (suc i) k = r (simp e at h) i (omega arith)
    go r false e i k = absurd (false≢true (simp e at h))

pub given-numbers-fit : (size n : ℕ) (numbers : List ℕ) (long : ℕ) → given_fits size n numbers long ≡ true → (1 ≤ length numbers) × (numbers_fit size n numbers ≡ true)
unfolding given_fits
given-numbers-fit size n numbers long h =
    by_cond (λ (b : Bool). b ≡ true → (1 ≤ length numbers) × (numbers_fit size n numbers ≡ true)) (eqb (length numbers) 0) false _ (λ e z. absurd (false≢true z))
    (λ e. by_cond (λ (b : Bool). b ≡ true → (1 ≤ length numbers) × (numbers_fit size n numbers ≡ true)) (eqb long (length numbers * size)) _ false
    (λ w z. (let q = eqb-false (length numbers) 0 e in omega arith, z)) (λ w z. absurd (false≢true z)))
    h

pub given-fit : (size n : ℕ) (numbers pages : List ℕ) → n ≤ page_limit → given_fits size n numbers (length pages) ≡ true → Fits size n numbers pages
given-fit size n numbers pages few h =
    let f = given-numbers-fit size n numbers (length pages) h in
    let each : (i : ℕ) → i < length numbers → (1 ≤ get_or numbers i 0) × (get_or numbers i 0 ≤ n) × (get_or numbers i 0 ≡ lock_page size → ⊥) =
    λ i l. number_passed size n (get_or numbers i 0) (numbers-passed size n numbers f.1 i l) in
    record {
      some = f.0;
      few = few;
      low = λ i l. (each i l).0;
      high = λ i l. (each i l).1;
      unlocked = λ i l. (each i l).2;
      whole = given-whole size n numbers (length pages) h;
    }

-- where nothing refuses a commit
pub record Passed (tail : List ℕ) (n : ℕ) (numbers : List ℕ) (long room : ℕ) : Type 0 where
  pub words : 8 ≤ length tail
  pub fits : tail_fits tail ≡ true
  pub few : n ≤ page_limit
  pub given : given_fits (size_in tail) n numbers long ≡ true
  pub told : frames_in tail + length numbers ≤ frame_limit
  pub fit : added_length (size_in tail) numbers ≤ room

pub append-passed : (tail : List ℕ) (n : ℕ) (numbers : List ℕ) (long room : ℕ) → append_refusal tail n numbers long room ≡ 0 → Passed tail n numbers long room
unfolding append_refusal
append-passed tail n numbers long room =
    let F : ℕ → Type 0 = λ x. x ≡ 0 → Passed tail n numbers long room in
    by_cond F (ltb (length tail) 8) 44 _ (λ e z. absurd (omega arith))
    (λ e. by_cond F (tail_fits tail) _ 41
    (λ f. by_cond F (ltb page_limit n) 42 _ (λ l z. absurd (omega arith))
    (λ l. by_cond F (given_fits (size_in tail) n numbers long) _ 51
    (λ g. by_cond F (ltb frame_limit (frames_in tail + length numbers)) 47 _ (λ t z. absurd (omega arith))
    (λ t. by_cond F (ltb room (added_length (size_in tail) numbers)) 44 0 (λ r z. absurd (omega arith))
    (λ r z.
    record {
      words = ltb-false _ _ e;
      fits = f;
      few = ltb-false _ _ l;
      given = g;
      told = ltb-false _ _ t;
      fit = ltb-false _ _ r;
    })))
    (λ g z. absurd (omega arith))))
    (λ f z. absurd (omega arith)))

-- what the code needs of them
pub append_bounds : (tail : List ℕ) (n : ℕ) (numbers : List ℕ) (long room : ℕ) → append_refusal tail n numbers long room ≡ 0
    → (8 ≤ length tail) × (size_in tail ≤ 65536) × (long ≡ length numbers * size_in tail) × (length numbers * 512 ≤ long) × (frames_in tail + length numbers ≤ frame_limit)
    × (added_length (size_in tail) numbers ≤ room) × (long + 24 * length numbers ≡ added_length (size_in tail) numbers) × (frame_at (size_in tail) (frames_in tail) < 2 ^ 64)
unfolding frame_at
append_bounds tail n numbers long room h =
    let p = append-passed tail n numbers long room h in
    let s = tail_size tail p.fits in
    let w : long ≡ length numbers * size_in tail = given-whole (size_in tail) n numbers long p.given in
    let few = p.told in (
      p.words,
      s.1,
      w,
      omega (arith, w, mul-le-mul_left (length numbers) s.0),
      few,
      p.fit,
      given_long (size_in tail) n numbers long p.given,
      omega (arith, mul-le-mul_left (frames_in tail) s.1),
    )
