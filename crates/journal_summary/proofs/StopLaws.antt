-- Each way out of the functions that say why reading stopped; whether a header stands.
use Prim.Native.Nat.{ℕ, ◌+◌, ◌<◌, ◌≤◌}
use mathlib.Core.Path.{◌≡◌, refl, sym, ap, ◌∙◌}
use mathlib.Core.Bool.{Bool, true, false, cond}
use mathlib.Core.List.{List}
use mir.Val.{bool_byte}
use native.Mathlib.Omega.{arith}
use lib.Dec.{eqb, leb}
use lib.ListN.{length}
use borrow.Author.Tests.{lt-ltb, le-ltb, lt-leb, le-leb, eq-eqb, ne_eqb}
use mathlib.Core.Logic.{⊎_elim}
use Rattle.number.specs.Bytes.{be}
use Rattle.number.proofs.Cases.{lt-or-ge, true-or-false}
use Rattle.paging.specs.Pages.{lock_page}
use Rattle.journal.specs.Header.{magic_high, magic_low, is_magic, count_at, size_of}
use Rattle.journal.specs.Records.{after}
use Rattle.journal_summary.specs.Summary.{header_stop, record_stop, layable}

module _ (j : List ℕ) (size s at : ℕ) (is_size : size ≡ size_of j) where
  is-after : at + (size + 8) ≡ after j at
  is-after = ap (λ (x : ℕ). at + (x + 8)) is_size

  module _ (cut : length j < at + (size + 8)) where
    short : length j < after j at
    short = rw is-after at cut

    pub stop-cut : at < length j → 3 ≡ record_stop j s at
    unfolding record_stop
    stop-cut l =
        simp (lt-ltb (length j) (after j at) short, lt-ltb at (length j) l)
        (⊎_elim
        (λ (e : eqb (count_at j s) 0xffffffff ≡ true). simp e)
        (λ (e : eqb (count_at j s) 0xffffffff ≡ false). simp e)
        (true-or-false (eqb (count_at j s) 0xffffffff)))

    module _ (l : length j ≤ at) (count : ℕ) (is-count : count ≡ count_at j s) where
      pub stop-all : count ≡ 0xffffffff → 7 ≡ record_stop j s at
      unfolding record_stop
      stop-all h = simp (lt-ltb (length j) (after j at) short, eq-eqb (count_at j s) 0xffffffff (sym is-count ∙ h), le-ltb at (length j) l)

      pub stop-counted : (count ≡ 0xffffffff → ⊥) → 3 ≡ record_stop j s at
      unfolding record_stop
      stop-counted h = simp (lt-ltb (length j) (after j at) short, ne_eqb (count_at j s) 0xffffffff (λ e. h (is-count ∙ e)))

  module _ (whole : at + (size + 8) ≤ length j) (p : ℕ) (is-p : p ≡ be 4 j at) where
    there : after j at ≤ length j
    there = rw is-after at whole

    pub stop-zero : p ≡ 0 → 4 ≡ record_stop j s at
    unfolding record_stop
    stop-zero z = simp (le-ltb (length j) (after j at) there, eq-eqb (be 4 j at) 0 (sym is-p ∙ z))

    module _ (some : p ≡ 0 → ⊥) (l : ℕ) (is-l : l ≡ lock_page size) where
      some' : be 4 j at ≡ 0 → ⊥
      some' k = some (is-p ∙ k)

      lock : l ≡ lock_page (size_of j)
      lock = is-l ∙ ap lock_page is_size

      pub stop-lock : p ≡ l → 6 ≡ record_stop j s at
      unfolding record_stop
      stop-lock e =
          simp (
            le-ltb (length j) (after j at) there,
            ne_eqb (be 4 j at) 0 some',
            eq-eqb (be 4 j at) (lock_page (size_of j)) (sym is-p ∙ e ∙ lock),
          )

      pub stop-sum : (p ≡ l → ⊥) → 5 ≡ record_stop j s at
      unfolding record_stop
      stop-sum n =
          simp (
            le-ltb (length j) (after j at) there,
            ne_eqb (be 4 j at) 0 some',
            ne_eqb (be 4 j at) (lock_page (size_of j)) (λ k. n (is-p ∙ k ∙ sym lock)),
          )

-- the ways out of `header_stop`, once 28 bytes are there
module _ (j : List ℕ) (s : ℕ) (long : s + 28 ≤ length j) (m : Bool) (is-m : m ≡ is_magic j s) where
  stop-is : header_stop j s ≡ cond m 2 1
  unfolding header_stop
  stop-is = simp (le-ltb (length j) (s + 28) long, is-m) (turned (eqb (be 4 j s) magic_high) (eqb (be 4 j (s + 4)) magic_low))
    where
      turned : (a b : Bool) → ◌≡◌ {A = ℕ} (cond a (cond b 2 1) 1) (cond (cond a b false) 2 1)
      turned true b = refl
      turned false b = refl

  pub stop-sizes : m ≡ true → 2 ≡ header_stop j s
  stop-sizes e = sym (stop-is ∙ simp e)

  pub stop-magic : m ≡ false → 1 ≡ header_stop j s
  stop-magic e = sym (stop-is ∙ simp e)

-- the number of a test: 1 for a record that is laid down
pub layable-is : (n p r : ℕ) → r ≡ bool_byte (leb p n) → (r ≡ layable n p) × (r ≤ 1)
unfolding layable
layable-is n p r e =
    ⊎_elim
    (λ (h : n < p). let z : r ≡ 0 = simp (lt-leb p n h) at e in (z ∙ simp (lt-ltb n p h), omega arith))
    (λ (h : p ≤ n). let z : r ≡ 1 = simp (le-leb p n h) at e in (z ∙ simp (le-ltb n p h), omega arith))
    (lt-or-ge n p)
