-- Sums over a slice, and the groups of leaves and interior pages as the code counts them.
-- Assumes nothing.
use Prim.Native.Nat.{ℕ, zero, suc, ◌+◌, ◌-◌, ◌<◌, ◌≤◌}
use mathlib.Core.Path.{◌≡◌, refl, sym, ap, ◌∙◌}
use mathlib.Core.Bool.{Bool, true, false, cond}
use mathlib.Core.List.{List}
use native.Mathlib.Omega.{arith}
use lib.Dec.{eqb, leb}
use lib.IntN.{ℤ, pos}
use lib.ListN.{get_or, replicate, length-replicate}
use borrow.Author.Tests.{le-leb, lt-leb, leb-true, eqb-true, eq-eqb, ne_eqb}
use Rattle.number.proofs.Cases.{by_cond}
use Rattle.number.specs.Varint.{varint_size}
use Rattle.number.proofs.SpellingLaws.{varint-size}
use Rattle.cell.proofs.SplitLaws.{chain-bound}
use Rattle.writing.specs.Rows.{Row}
use Rattle.writing.specs.Layout.{size}
use Rattle.writing.specs.Given.{cell_size, links_for}
use Rattle.writing.proofs.Fitting.{row_fits}
use Rattle.writing.proofs.FirstLaws.{cell_is}
use Rattle.filling.specs.Fill.{total, weight_at, rows_taken, rows_grouped, rows_weight, key_weight, keys_taken, keys_grouped}

-- ---- a sum by what is left
total-more : (at : ℕ → ℕ) (k i : ℕ) → total at (suc k) i ≡ at i + total at k (i + 1)
unfolding total
total-more at k i = refl

pub total-on : (at : ℕ → ℕ) (k i m sum x : ℕ) → m < k → x ≡ at (i + m) → sum + total at (k - m) (i + m) ≡ total at k i
    → sum + x + total at (k - (m + 1)) (i + (m + 1)) ≡ total at k i
total-on at k i m sum x less e h =
    let f : k - m ≡ suc (k - (m + 1)) = omega arith in
    let g : i + m + 1 ≡ i + (m + 1) = omega arith in
    let t : total at (k - m) (i + m) ≡ at (i + m) + total at (k - (m + 1)) (i + (m + 1)) =
    ap (λ y. total at y (i + m)) f ∙ total-more at (k - (m + 1)) (i + m) ∙ ap (λ y. at (i + m) + total at (k - (m + 1)) y) g in
    omega arith

pub total-end : (at : ℕ → ℕ) (k i m sum : ℕ) → k ≤ m → sum + total at (k - m) (i + m) ≡ total at k i → sum ≡ total at k i
unfolding total
total-end at k i m sum h e =
    let f : k - m ≡ 0 = omega arith in
    let g : total at (k - m) (i + m) ≡ 0 = ap (λ y. total at y (i + m)) f in
    omega arith

-- ---- bounds
pub links-most : (P : ℕ) → P ≤ 65536 → links_for P ≤ 138
links-most P h = chain-bound size _ (omega arith) (omega arith)

pub cell-most : (row : ℤ) (P : ℕ) → cell_size row P ≤ 1014
cell-most row P =
    let p : List ℕ = replicate P 0 in
    let r : Row = record { number = row; payload = p; first = 0 } in
    omega (arith, row_fits size r (omega arith), cell_is row p 0, ap (cell_size row) (length-replicate {A = ℕ} P 0))

pub key-most : (bits : ℕ) → varint_size bits ≤ 9
key-most bits = (varint-size bits).1

-- ---- how many rows a leaf takes
taken-some : (ns : List ℤ) (ls : List ℕ) (k j used : ℕ) → used + weight_at ns ls j ≤ 1016
    → rows_taken ns ls (suc k) j used ≡ suc (rows_taken ns ls k (j + 1) (used + weight_at ns ls j))
unfolding rows_taken
taken-some ns ls k j used h = rw (le-leb (used + weight_at ns ls j) 1016 h)

taken_none : (ns : List ℤ) (ls : List ℕ) (k j used : ℕ) → 1016 < used + weight_at ns ls j → rows_taken ns ls (suc k) j used ≡ 0
unfolding rows_taken
taken_none ns ls k j used h = rw (lt-leb (used + weight_at ns ls j) 1016 h)

pub rows-most : (ns : List ℤ) (ls : List ℕ) (k j used : ℕ) → rows_taken ns ls k j used ≤ k
unfolding rows_taken
rows-most ns ls zero j used = omega arith
rows-most ns ls (suc k) j used =
    by_cond (λ x. x ≤ suc k) (leb (used + weight_at ns ls j) 1016) (suc (rows_taken ns ls k (j + 1) (used + weight_at ns ls j))) 0
    (λ e. omega (arith, rows-most ns ls k (j + 1) (used + weight_at ns ls j))) (λ e. omega arith)

pub rows-least : (ns : List ℤ) (ls : List ℕ) (left i : ℕ) → 1 ≤ left → 1 ≤ rows_grouped ns ls left i
rows-least ns ls zero i h = absurd (omega arith)
rows-least ns ls (suc k) i h = omega (arith, taken-some ns ls k i 0 (omega (arith, cell-most (get_or ns i (pos 0)) (get_or ls i 0))))

-- of n rows those from the ith to the jth are taken, and take `used`
pub record Taking (ns : List ℤ) (ls : List ℕ) (n i j used : ℕ) : Type 0 where
  pub low : i ≤ j
  pub high : j ≤ n
  pub fits : used ≤ 1016
  pub taken : i + rows_taken ns ls (n - i) i 0 ≡ j + rows_taken ns ls (n - j) j used
  pub weight : rows_weight ns ls (rows_taken ns ls (n - i) i 0) i ≡ used + rows_weight ns ls (rows_taken ns ls (n - j) j used) j

module _ (ns : List ℤ) (ls : List ℕ) (n i : ℕ) where
  pub taking-on : (j used w : ℕ) → j < n → w ≡ weight_at ns ls j → used + w ≤ 1016 → Taking ns ls n i j used → Taking ns ls n i (j + 1) (used + w)
  taking-on j used w less e h t =
      let f : n - j ≡ suc (n - (j + 1)) = omega arith in
      let T = rows_taken ns ls (n - (j + 1)) (j + 1) (used + w) in
      let s : rows_taken ns ls (n - j) j used ≡ suc T =
      ap (λ x. rows_taken ns ls x j used) f ∙ taken-some ns ls (n - (j + 1)) j used (omega arith)
      ∙ ap (λ x. suc (rows_taken ns ls (n - (j + 1)) (j + 1) (used + x))) (sym e) in
      let v : rows_weight ns ls (rows_taken ns ls (n - j) j used) j ≡ weight_at ns ls j + rows_weight ns ls T (j + 1) =
      ap (λ x. rows_weight ns ls x j) s ∙ total-more (weight_at ns ls) T j in
      record { low = omega (arith, t.low); high = omega arith; fits = h; taken = omega (arith, t.taken); weight = omega (arith, t.weight) }

  -- the row does not fit, or there is none
  taking-done : (j used : ℕ) → rows_taken ns ls (n - j) j used ≡ 0 → Taking ns ls n i j used
      → (j - i ≡ rows_taken ns ls (n - i) i 0) × (used ≡ rows_weight ns ls (j - i) i) × (used ≤ 1016)
  unfolding total
  taking-done j used z t =
      let a : j - i ≡ rows_taken ns ls (n - i) i 0 = omega (arith, t.taken, t.low) in
      let b : rows_weight ns ls (rows_taken ns ls (n - j) j used) j ≡ 0 = ap (λ x. rows_weight ns ls x j) z in
      (a, omega (arith, t.weight, ap (λ x. rows_weight ns ls x i) a), t.fits)

  pub taking-full : (j used w : ℕ) → j < n → w ≡ weight_at ns ls j → 1016 < used + w → Taking ns ls n i j used
      → (j - i ≡ rows_taken ns ls (n - i) i 0) × (used ≡ rows_weight ns ls (j - i) i) × (used ≤ 1016)
  taking-full j used w less e h t =
      let f : n - j ≡ suc (n - (j + 1)) = omega arith in
      taking-done j used (ap (λ x. rows_taken ns ls x j used) f ∙ taken_none ns ls (n - (j + 1)) j used (omega arith)) t

  pub taking-end : (j used : ℕ) → n ≤ j → Taking ns ls n i j used
      → (j - i ≡ rows_taken ns ls (n - i) i 0) × (used ≡ rows_weight ns ls (j - i) i) × (used ≤ 1016)
  unfolding rows_taken
  taking-end j used h t =
      let f : n - j ≡ 0 = omega arith in
      taking-done j used (ap (λ x. rows_taken ns ls x j used) f) t

-- ---- how many children an interior page takes
key-some : (keys : List ℕ) (k j used : ℕ) → used ≤ 1012 → keys_taken keys (suc k) j used ≡ suc (keys_taken keys k (j + 1) (used + key_weight keys j))
unfolding keys_taken
key-some keys k j used h = rw (le-leb used 1012 h)

key-none : (keys : List ℕ) (k j used : ℕ) → 1012 < used → keys_taken keys (suc k) j used ≡ 0
unfolding keys_taken
key-none keys k j used h = rw (lt-leb used 1012 h)

pub keys-most : (keys : List ℕ) (k j used : ℕ) → keys_taken keys k j used ≤ k
unfolding keys_taken
keys-most keys zero j used = omega arith
keys-most keys (suc k) j used =
    by_cond (λ x. x ≤ suc k) (leb used 1012) (suc (keys_taken keys k (j + 1) (used + key_weight keys j))) 0
    (λ e. omega (arith, keys-most keys k (j + 1) (used + key_weight keys j))) (λ e. omega arith)

joined-yes : (b : Bool) (x n : ℕ) → suc n ≤ cond b x 0 → (b ≡ true) × (suc n ≤ x)
joined-yes true x n h = (refl, h)
joined-yes false x n h = absurd (omega arith)

-- all but the last of them fit as cells
pub keys-fit : (keys : List ℕ) (k n j used : ℕ) → suc n ≤ keys_taken keys k j used → used + total (key_weight keys) n j ≤ 1012
unfolding keys_taken total
keys-fit keys zero n j used h = absurd (omega arith)
keys-fit keys (suc k) zero j used h = omega (arith, leb-true used 1012 (joined-yes (leb used 1012) _ 0 h).0)
keys-fit keys (suc k) (suc n) j used h =
    omega (
      arith,
      keys-fit keys k n (j + 1) (used + key_weight keys j)
          (omega (arith, (joined-yes (leb used 1012) (suc (keys_taken keys k (j + 1) (used + key_weight keys j))) (suc n) h).1)),
    )

pub keys-some : (keys : List ℕ) (k j : ℕ) → 1 ≤ k → 1 ≤ keys_taken keys k j 0
keys-some keys zero j h = absurd (omega arith)
keys-some keys (suc k) j h = omega (arith, key-some keys k j 0 (omega arith))

keys-two : (keys : List ℕ) (k j : ℕ) → 2 ≤ k → 2 ≤ keys_taken keys k j 0
keys-two keys zero j h = absurd (omega arith)
keys-two keys (suc zero) j h = absurd (omega arith)
keys-two keys (suc (suc k)) j h =
    let m = key-most (get_or keys j 0) in
    omega (arith, key-some keys (suc k) j 0 (omega arith), key-some keys k (j + 1) (0 + key_weight keys j) (omega arith))

-- a page takes some, and no more than there are; all but its last child fit as cells
pub grouped-bounds : (keys : List ℕ) (k j : ℕ) → 1 ≤ k
    → (1 ≤ keys_grouped keys k j) × (keys_grouped keys k j ≤ k) × (total (key_weight keys) (keys_grouped keys k j - 1) j ≤ 1012)
unfolding keys_grouped
grouped-bounds keys k j h =
    by_cond (λ x. (1 ≤ x) × (x ≤ k) × (total (key_weight keys) (x - 1) j ≤ 1012)) (eqb (k - keys_taken keys k j 0) 1)
    (keys_taken keys k j 0 - 1) (keys_taken keys k j 0)
    (λ e.
    let two = keys-two keys k j (omega (arith, eqb-true (k - keys_taken keys k j 0) 1 e, keys-some keys k j h)) in
    (omega arith, omega (arith, keys-most keys k j 0), omega (arith, keys-fit keys k (keys_taken keys k j 0 - 1 - 1) j 0 (omega arith))))
    (λ e.
    let some = keys-some keys k j h in
    (some, keys-most keys k j 0, omega (arith, keys-fit keys k (keys_taken keys k j 0 - 1) j 0 (omega arith))))

pub row-bounds : (ns : List ℤ) (ls : List ℕ) (left i c : ℕ) → 1 ≤ left → c ≡ rows_grouped ns ls left i → (1 ≤ c) × (c ≤ left)
row-bounds ns ls left i c h e = (omega (arith, rows-least ns ls left i h), omega (arith, rows-most ns ls left i 0))

pub key-bounds : (keys : List ℕ) (left i c : ℕ) → 1 ≤ left → c ≡ keys_grouped keys left i → (1 ≤ c) × (c ≤ left)
key-bounds keys left i c h e = let b = grouped-bounds keys left i h in (omega (arith, b.0), omega (arith, b.1))

pub grouped-one : (keys : List ℕ) (k j r : ℕ) → r ≡ keys_taken keys k j 0 → k - r ≡ 1 → r - 1 ≡ keys_grouped keys k j
unfolding keys_grouped
grouped-one keys k j r e h = rw (eq-eqb (k - keys_taken keys k j 0) 1 (ap (λ x. k - x) (sym e) ∙ h)) (ap (λ x. x - 1) e)

pub grouped-all : (keys : List ℕ) (k j r : ℕ) → r ≡ keys_taken keys k j 0 → (k - r ≡ 1 → ⊥) → r ≡ keys_grouped keys k j
unfolding keys_grouped
grouped-all keys k j r e h = rw (ne_eqb (k - keys_taken keys k j 0) 1 (λ (z : k - keys_taken keys k j 0 ≡ 1). h (ap (λ x. k - x) e ∙ z))) e

-- m of k children from the ith on are taken
pub record KeysTaking (keys : List ℕ) (k i m used : ℕ) : Type 0 where
  pub high : m ≤ k
  pub fits : used ≤ 1027
  pub taken : keys_taken keys k i 0 ≡ m + keys_taken keys (k - m) (i + m) used

pub keys_on : (keys : List ℕ) (k i m used w : ℕ) → m < k → used ≤ 1012 → w ≡ key_weight keys (i + m) → KeysTaking keys k i m used
    → KeysTaking keys k i (m + 1) (used + w)
keys_on keys k i m used w less h e t =
    let f : k - m ≡ suc (k - (m + 1)) = omega arith in
    let g : i + m + 1 ≡ i + (m + 1) = omega arith in
    let s : keys_taken keys (k - m) (i + m) used ≡ suc (keys_taken keys (k - (m + 1)) (i + (m + 1)) (used + w)) =
    ap (λ x. keys_taken keys x (i + m) used) f ∙ key-some keys (k - (m + 1)) (i + m) used h
    ∙ ap (λ x. suc (keys_taken keys (k - (m + 1)) x (used + key_weight keys (i + m)))) g
    ∙ ap (λ x. suc (keys_taken keys (k - (m + 1)) (i + (m + 1)) (used + x))) (sym e) in
    record { high = omega arith; fits = omega (arith, key-most (get_or keys (i + m) 0)); taken = omega (arith, t.taken) }

pub keys-full : (keys : List ℕ) (k i m used : ℕ) → m < k → 1012 < used → KeysTaking keys k i m used → m ≡ keys_taken keys k i 0
keys-full keys k i m used less h t =
    let f : k - m ≡ suc (k - (m + 1)) = omega arith in
    omega (arith, t.taken, ap (λ x. keys_taken keys x (i + m) used) f ∙ key-none keys (k - (m + 1)) (i + m) used h)

pub keys-done : (keys : List ℕ) (k i m used : ℕ) → k ≤ m → KeysTaking keys k i m used → m ≡ keys_taken keys k i 0
unfolding keys_taken
keys-done keys k i m used h t =
    let f : k - m ≡ 0 = omega arith in
    omega (arith, t.taken, ap (λ x. keys_taken keys x (i + m) used) f)
