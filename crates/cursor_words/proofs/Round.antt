-- A cursor laid into words is read back.
-- Assumes nothing.
use Prim.Native.Nat.{ℕ, zero, suc, ◌+◌, ◌*◌, ◌<◌, ◌≤◌}
use mathlib.Core.Path.{◌≡◌, refl, sym, ap, ◌∙◌}
use mathlib.Core.Bool.{Bool, true, false}
use mathlib.Core.List.{List}
use lib.Dec.{eqb}
use lib.ListN.{length, get_or, set, length-set, length-replicate}
use lib.Seq.{get_or-set_same, get_or-set_other, ext_get_or}
use native.Mathlib.Omega.{arith}
use borrow.Author.Tests.{eqb-true, eqb-false}
use Rattle.cursor.specs.Answers.{zeros}
use Rattle.cursor.specs.declared.Cursor as Cu
use Rattle.cursor_words.specs.Words.{pages_in, cells_in, cursor_in, laid_levels, laid_in}

-- arrays of 20 entries
pub record Sized (c : Cu.Cursor) : Type 0 where
  pub pages : length c.pages ≡ 20
  pub cells : length c.cells ≡ 20

pub pages-length : (w : List ℕ) (n : ℕ) → length (pages_in w n) ≡ 20
unfolding pages_in
pages-length w zero = length-replicate {A = ℕ} 20 0
pages-length w (suc k) = length-set (pages_in w k) k (get_or w (2 * k + 1) 0) ∙ pages-length w k

pub cells-length : (w : List ℕ) (n : ℕ) → length (cells_in w n) ≡ 20
unfolding cells_in
cells-length w zero = length-replicate {A = ℕ} 20 0
cells-length w (suc k) = length-set (cells_in w k) k (get_or w (2 * k + 2) 0) ∙ cells-length w k

pub sized-in : (w : List ℕ) → Sized (cursor_in w)
sized-in w = record { pages = pages-length w 20; cells = cells-length w 20 }

-- ---- what is read at a level
page-read : (w : List ℕ) (n j : ℕ) → j < n → n ≤ 20 → get_or (pages_in w n) j 0 ≡ get_or w (2 * j + 1) 0
unfolding pages_in
page-read w zero j h l = absurd (omega arith)
page-read w (suc k) j h l = go (eqb j k) refl (λ m. page-read w k j m (omega arith))
  where
    go : (t : Bool) → eqb j k ≡ t → (j < k → get_or (pages_in w k) j 0 ≡ get_or w (2 * j + 1) 0) → get_or (set (pages_in w k) k (get_or w (2 * k + 1) 0)) j 0 ≡ get_or w (2 * j + 1) 0
    go true t below =
        let e = eqb-true j k t in
        rw e (get_or-set_same (pages_in w k) k (get_or w (2 * k + 1) 0) 0 (let s = pages-length w k in omega arith))
    go false t below =
        let n = eqb-false j k t in
        get_or-set_other (pages_in w k) k j (get_or w (2 * k + 1) 0) 0 n ∙ below (omega arith)

cell-read : (w : List ℕ) (n j : ℕ) → j < n → n ≤ 20 → get_or (cells_in w n) j 0 ≡ get_or w (2 * j + 2) 0
unfolding cells_in
cell-read w zero j h l = absurd (omega arith)
cell-read w (suc k) j h l = go (eqb j k) refl (λ m. cell-read w k j m (omega arith))
  where
    go : (t : Bool) → eqb j k ≡ t → (j < k → get_or (cells_in w k) j 0 ≡ get_or w (2 * j + 2) 0) → get_or (set (cells_in w k) k (get_or w (2 * k + 2) 0)) j 0 ≡ get_or w (2 * j + 2) 0
    go true t below =
        let e = eqb-true j k t in
        rw e (get_or-set_same (cells_in w k) k (get_or w (2 * k + 2) 0) 0 (let s = cells-length w k in omega arith))
    go false t below =
        let n = eqb-false j k t in
        get_or-set_other (cells_in w k) k j (get_or w (2 * k + 2) 0) 0 n ∙ below (omega arith)

-- ---- what is laid
module _ (ps is w : List ℕ) where
  pub laid-length : (n : ℕ) → length (laid_levels ps is n w) ≡ length w
  unfolding laid_levels
  laid-length zero = refl
  laid-length (suc k) =
      length-set (set (laid_levels ps is k w) (2 * k + 1) (get_or ps k 0)) (2 * k + 2) (get_or is k 0)
      ∙ length-set (laid_levels ps is k w) (2 * k + 1) (get_or ps k 0) ∙ laid-length k

  -- words past those of the levels, and word 0, are as they were
  pub laid-other : (n i : ℕ) → (1 ≤ i → i ≤ 2 * n → ⊥) → get_or (laid_levels ps is n w) i 0 ≡ get_or w i 0
  unfolding laid_levels
  laid-other zero i h = refl
  laid-other (suc k) i h =
      get_or-set_other (set (laid_levels ps is k w) (2 * k + 1) (get_or ps k 0)) (2 * k + 2) i (get_or is k 0) 0 (λ e. h (omega arith) (omega arith))
      ∙ get_or-set_other (laid_levels ps is k w) (2 * k + 1) i (get_or ps k 0) 0 (λ e. h (omega arith) (omega arith)) ∙ laid-other k i (λ l m. h l (omega arith))

  laid-page : (n j : ℕ) → j < n → 2 * n < length w → get_or (laid_levels ps is n w) (2 * j + 1) 0 ≡ get_or ps j 0
  unfolding laid_levels
  laid-page zero j h l = absurd (omega arith)
  laid-page (suc k) j h l =
      get_or-set_other (set (laid_levels ps is k w) (2 * k + 1) (get_or ps k 0)) (2 * k + 2) (2 * j + 1) (get_or is k 0) 0 (λ e. omega arith)
      ∙ go (eqb j k) refl (λ m. laid-page k j m (omega arith))
    where
      go : (t : Bool) → eqb j k ≡ t → (j < k → get_or (laid_levels ps is k w) (2 * j + 1) 0 ≡ get_or ps j 0)
          → get_or (set (laid_levels ps is k w) (2 * k + 1) (get_or ps k 0)) (2 * j + 1) 0 ≡ get_or ps j 0
      go true t below =
          let e = eqb-true j k t in
          rw e (get_or-set_same (laid_levels ps is k w) (2 * k + 1) (get_or ps k 0) 0 (let s = laid-length k in omega arith))
      go false t below =
          let n = eqb-false j k t in
          get_or-set_other (laid_levels ps is k w) (2 * k + 1) (2 * j + 1) (get_or ps k 0) 0 (λ e. n (omega arith)) ∙ below (omega arith)

  laid_cell : (n j : ℕ) → j < n → 2 * n < length w → get_or (laid_levels ps is n w) (2 * j + 2) 0 ≡ get_or is j 0
  unfolding laid_levels
  laid_cell zero j h l = absurd (omega arith)
  laid_cell (suc k) j h l = go (eqb j k) refl (λ m. laid_cell k j m (omega arith))
    where
      go : (t : Bool) → eqb j k ≡ t → (j < k → get_or (laid_levels ps is k w) (2 * j + 2) 0 ≡ get_or is j 0)
          → get_or (set (set (laid_levels ps is k w) (2 * k + 1) (get_or ps k 0)) (2 * k + 2) (get_or is k 0)) (2 * j + 2) 0 ≡ get_or is j 0
      go true t below =
          let e = eqb-true j k t in
          rw e (get_or-set_same (set (laid_levels ps is k w) (2 * k + 1) (get_or ps k 0)) (2 * k + 2) (get_or is k 0) 0
          (let s = laid-length k in let u = length-set (laid_levels ps is k w) (2 * k + 1) (get_or ps k 0) in omega arith))
      go false t below =
          let n = eqb-false j k t in
          get_or-set_other (set (laid_levels ps is k w) (2 * k + 1) (get_or ps k 0)) (2 * k + 2) (2 * j + 2) (get_or is k 0) 0 (λ e. n (omega arith))
          ∙ get_or-set_other (laid_levels ps is k w) (2 * k + 1) (2 * j + 2) (get_or ps k 0) 0 (λ e. omega arith) ∙ below (omega arith)

-- words past 41 never change
pub past_words : (c : Cu.Cursor) (w : List ℕ) (i : ℕ) → 41 ≤ i → get_or (laid_in c w) i 0 ≡ get_or w i 0
past_words c w i h =
    laid-other c.pages c.cells (set w 0 c.levels) 20 i (λ l m. omega arith) ∙ get_or-set_other w 0 i c.levels 0 (λ e. omega arith)

-- what is laid is read back
pub reads-back : (c : Cu.Cursor) (w : List ℕ) → Sized c → 41 ≤ length w → cursor_in (laid_in c w) ≡ c
reads-back c w s l =
    let v = set w 0 c.levels in
    let n = length-set w 0 c.levels in
    let long : 2 * 20 < length v = omega arith in
    made (get_or (laid_in c w) 0 0) c.levels (pages_in (laid_in c w) 20) c.pages (cells_in (laid_in c w) 20) c.cells
    (laid-other c.pages c.cells v 20 0 (λ l m. omega arith) ∙ get_or-set_same w 0 c.levels 0 (omega arith))
    (ext_get_or 0 (pages_in (laid_in c w) 20) c.pages (pages-length (laid_in c w) 20 ∙ sym s.pages)
    (λ i h. let m = pages-length (laid_in c w) 20 in
    let k : i < 20 = omega arith in
    page-read (laid_in c w) 20 i k (omega arith) ∙ laid-page c.pages c.cells v 20 i k long))
    (ext_get_or 0 (cells_in (laid_in c w) 20) c.cells (cells-length (laid_in c w) 20 ∙ sym s.cells)
    (λ i h. let m = cells-length (laid_in c w) 20 in
    let k : i < 20 = omega arith in
    cell-read (laid_in c w) 20 i k (omega arith) ∙ laid_cell c.pages c.cells v 20 i k long))
  where
    made : (a a' : ℕ) (p p' i i' : List ℕ) → a ≡ a' → p ≡ p' → i ≡ i'
        → ◌≡◌ {A = Cu.Cursor} (record { levels = a; pages = p; cells = i }) (record { levels = a'; pages = p'; cells = i' })
    made a a' p p' i i' e f g = rw (e, f, g)
