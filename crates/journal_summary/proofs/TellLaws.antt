-- Each way out of `is_twice`, `refusal_of`, `tell` and `inspect`.
use Prim.Native.Nat.{ℕ, ◌<◌, ◌≤◌}
use mathlib.Core.Path.{◌≡◌, refl, sym, ◌∙◌}
use mathlib.Core.Bool.{Bool, true, false, cond}
use mathlib.Core.List.{List}
use mathlib.Core.Logic.{⊎_elim}
use native.Mathlib.Omega.{arith}
use lib.Dec.{eqb}
use lib.ListN.{length}
use Rattle.std.proofs.Common.{min}
use Rattle.number.proofs.Cases.{lt-or-ge, true-or-false}
use borrow.Author.Tests.{lt-ltb, le-ltb}
use Rattle.number.specs.Bytes.{be}
use Rattle.paging.specs.Pages.{page_limit, size_fits}
use Rattle.paging.specs.Bits.{Clear}
use Rattle.journal.specs.Header.{magic_high, magic_low, is_magic, pages_in, sector_of, size_of}
use Rattle.journal.specs.Records.{laid, twice}
use Rattle.journal.specs.Fields.{Fields, sizes_fit}
use Rattle.journal.specs.Marks.{Scan}
use Rattle.journal.proofs.MarkLaws.{clash-twice}
use Rattle.journal.proofs.EndLaws.{both-fit}
use Rattle.journal_summary.specs.Summary.{tally_of, capped, untold, refusal_of, told, summary_in, journal_summary_of}
use Rattle.journal_summary.specs.Summary.{Tally}
use Rattle.journal_summary.specs.Summary.{Summary}

pub scanned-twice : (j m m' : List ℕ) (n : ℕ) (t : Bool) → Clear m → Scan n (laid j) m m' t → t ≡ twice (laid j)
scanned-twice j m m' n t clear s = s.clashes ∙ clash-twice m clear (laid j)

module _ (j : List ℕ) (size sector n : ℕ) (f : Fields j size sector n) where
  pub refusal-42 : page_limit < n → 42 ≡ refusal_of j
  unfolding refusal_of
  refusal-42 h = simp (lt-ltb page_limit (pages_in j) (rw f.is_pages at h))

  module _ (few : n ≤ page_limit) (b : Bool) (is_b : b ≡ twice (laid j)) where
    few' : pages_in j ≤ page_limit
    few' = rw f.is_pages at few

    pub refusal-45 : b ≡ true → 45 ≡ refusal_of j
    unfolding refusal_of
    refusal-45 h = simp (le-ltb page_limit (pages_in j) few', sym is_b ∙ h)

    pub refusal-0 : b ≡ false → 0 ≡ refusal_of j
    unfolding refusal_of
    refusal-0 h = simp (le-ltb page_limit (pages_in j) few', sym is_b ∙ h)

  pub is-told : (t : Tally) (refusal segments : ℕ) → t ≡ tally_of j → refusal ≡ refusal_of j → segments ≡ capped t.segments
      → record {
        refusal =
            refusal;
        header = 0;
        page_size = size;
        sector_size = sector;
        pages = n;
        segments = segments;
        counting = t.counting;
        laid = t.laid;
        stop = t.stop;
      } ≡ told j
  unfolding told
  is-told t refusal segments et er es = rw (es, et, er, f.sizes.is_size, f.sizes.is_sector, f.is_pages) refl

-- the ways out of `inspect`
module _ (j : List ℕ) (r : Summary) where
  pub of-short : length j < 28 → r ≡ untold 0 1 → r ≡ journal_summary_of j
  unfolding journal_summary_of
  of-short h e = simp (lt-ltb (length j) 28 h) e

  module _ (long : 28 ≤ length j) (m : Bool) (is-m : m ≡ is_magic j 0) where
    behind-28 : journal_summary_of j ≡ cond m (summary_in j) (untold 0 2)
    unfolding journal_summary_of
    behind-28 =
        simp (le-ltb (length j) 28 long, is-m)
        (turned (eqb (be 4 j 0) magic_high) (eqb (be 4 j 4) magic_low) (summary_in j) (untold 0 2))
      where
        turned : (a b : Bool) (x y : Summary) → cond a (cond b x y) y ≡ cond (cond a b false) x y
        turned true b x y = refl
        turned false b x y = refl

    pub of-magic : m ≡ false → r ≡ untold 0 2 → r ≡ journal_summary_of j
    of-magic n e = e ∙ sym (behind-28 ∙ simp n)

    module _ (y : m ≡ true) where
      pub of-41 : sizes_fit j ≡ false → r ≡ untold 41 0 → r ≡ journal_summary_of j
      unfolding summary_in
      of-41 s e =
          let is : summary_in j ≡ untold 41 0 =
          ⊎_elim
          (λ (t : size_fits (size_of j) ≡ true).
          let z : size_fits (sector_of j) ≡ false = simp t at s in
          simp (t, z))
          (λ (t : size_fits (size_of j) ≡ false). simp t)
          (true-or-false (size_fits (size_of j))) in
          e ∙ sym (behind-28 ∙ simp y is)

      pub of_told : sizes_fit j ≡ true → r ≡ told j → r ≡ journal_summary_of j
      unfolding summary_in
      of_told s e =
          let b = both-fit j s in
          e ∙ sym (behind-28 ∙ simp (y, b.0, b.1))

-- so many, at most 4,294,967,295
pub is_capped : (n : ℕ) → min n 0xffffffff ≡ capped n
unfolding capped
is_capped n =
    ⊎_elim
    (λ (l : n < 0xffffffff). simp (lt-ltb n 0xffffffff l) (omega arith))
    (λ (l : 0xffffffff ≤ n). simp (le-ltb n 0xffffffff l) (omega arith))
    (lt-or-ge n 0xffffffff)
