-- What the code counts, by row numbers, lengths and keys, is what the rows and children weigh.
--     rows_taken     how many rows join a leaf
-- Assumes nothing.
use Prim.Native.Nat.{ℕ, zero, suc, ◌+◌, ◌-◌, ◌≤◌}
use mathlib.Core.Path.{◌≡◌, refl, ap, ◌∙◌}
use mathlib.Core.Bool.{cond}
use mathlib.Core.List.{List, ◌∷◌}
use native.Mathlib.Omega.{arith}
use lib.Dec.{leb}
use lib.IntN.{ℤ, pos}
use lib.ListN.{length, get_or, take, drop}
use Rattle.number.specs.Bytes.{part}
use Rattle.writing.specs.Rows.{links_of}
use Rattle.writing.specs.Groups.{weight, row_weight, row_joins}
use Rattle.writing.specs.Layout.{size, links_all}
use Rattle.writing.specs.Given.{cell_size, rows_from, Held}
use Rattle.writing.proofs.FirstLaws.{cell_is}
use Rattle.writing.proofs.LeafLaws.{row_here, part_length}
use Rattle.filling.specs.Fill.{total, sum_from, more, weight_at, rows_taken, rows_weight}

module _ (ns : List ℤ) (ls ps : List ℕ) where
  weight_is : (m j off t : ℕ) → off + get_or ls j 0 ≤ length ps → row_weight size (row_here ns ls ps m j off t) ≡ weight_at ns ls j
  weight_is m j off t h =
      ap (λ n. 2 + n)
      (cell_is (get_or ns j (pos 0)) (part ps off (get_or ls j 0)) t ∙ ap (cell_size (get_or ns j (pos 0))) (part_length ps off (get_or ls j 0) h))

  pub rows-taken : (k j off t used : ℕ) → Held ls ps k j off
      → more (row_weight size) (row_joins size) used (rows_from ns ls ps k j off t) ≡ rows_taken ns ls k j used
  unfolding more rows_taken rows_from
  rows-taken zero j off t used h = refl
  rows-taken (suc k) j off t used h =
      let e = weight_is k j off t h.1 in
      let n = t + links_of size (part ps off (get_or ls j 0)) in
      ap (λ x. cond (leb (used + x) (size - 8))
      (suc (more (row_weight size) (row_joins size) (used + x) (rows_from ns ls ps k (j + 1) (off + get_or ls j 0) n))) 0) e
      ∙ ap (λ x. cond (leb (used + weight_at ns ls j) 1016) (suc x) 0) (rows-taken k (j + 1) (off + get_or ls j 0) n (used + weight_at ns ls j) h.2)

  pub rows-weight : (k j off t : ℕ) → Held ls ps k j off → weight (row_weight size) (rows_from ns ls ps k j off t) ≡ rows_weight ns ls k j
  unfolding weight total rows_from
  rows-weight zero j off t h = refl
  rows-weight (suc k) j off t h =
      let e = weight_is k j off t h.1 in
      let n = t + links_of size (part ps off (get_or ls j 0)) in
      ap (λ x. x + weight (row_weight size) (rows_from ns ls ps k (j + 1) (off + get_or ls j 0) n)) e
      ∙ ap (λ x. weight_at ns ls j + x) (rows-weight k (j + 1) (off + get_or ls j 0) n h.2)

  -- the first k rows, and those behind them
  pub rows-first : (k m j off t : ℕ) → k ≤ m → take k (rows_from ns ls ps m j off t) ≡ rows_from ns ls ps k j off t
  unfolding rows_from
  rows-first zero m j off t h = refl
  rows-first (suc k) zero j off t h = absurd (omega arith)
  rows-first (suc k) (suc m) j off t h =
      ap (λ l. row_here ns ls ps m j off t ∷ l)
      (rows-first k m (j + 1) (off + get_or ls j 0) (t + links_of size (part ps off (get_or ls j 0))) (omega arith))

  pub rows_behind : (k m j off t : ℕ) → k ≤ m
      → drop k (rows_from ns ls ps m j off t) ≡ rows_from ns ls ps (m - k) (j + k) (off + sum_from ls k j) (t + links_all (rows_from ns ls ps k j off t))
  unfolding rows_from total links_all
  rows_behind zero m j off t h =
      let a : m ≡ m - 0 = omega arith in
      let b : j ≡ j + 0 = omega arith in
      let c : off ≡ off + 0 = omega arith in
      let d : t ≡ t + 0 = omega arith in
      ap (λ x. rows_from ns ls ps x j off t) a ∙ ap (λ x. rows_from ns ls ps (m - 0) x off t) b
      ∙ ap (λ x. rows_from ns ls ps (m - 0) (j + 0) x t) c ∙ ap (rows_from ns ls ps (m - 0) (j + 0) (off + 0)) d
  rows_behind (suc k) zero j off t h = absurd (omega arith)
  rows_behind (suc k) (suc m) j off t h =
      let l = get_or ls j 0 in
      let n = links_of size (part ps off l) in
      let R = rows_from ns ls ps k (j + 1) (off + l) (t + n) in
      let a : m - k ≡ suc m - suc k = omega arith in
      let b : j + 1 + k ≡ j + suc k = omega arith in
      let c : off + l + sum_from ls k (j + 1) ≡ off + (l + sum_from ls k (j + 1)) = omega arith in
      let d : t + n + links_all R ≡ t + (n + links_all R) = omega arith in
      rows_behind k m (j + 1) (off + l) (t + n) (omega arith)
      ∙ ap (λ x. rows_from ns ls ps x (j + 1 + k) (off + l + sum_from ls k (j + 1)) (t + n + links_all R)) a
      ∙ ap (λ x. rows_from ns ls ps (suc m - suc k) x (off + l + sum_from ls k (j + 1)) (t + n + links_all R)) b
      ∙ ap (λ x. rows_from ns ls ps (suc m - suc k) (j + suc k) x (t + n + links_all R)) c
      ∙ ap (rows_from ns ls ps (suc m - suc k) (j + suc k) (off + (l + sum_from ls k (j + 1)))) d
