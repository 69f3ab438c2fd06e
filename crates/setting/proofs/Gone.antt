-- What the row held before is gone: images that differ in that cell, in freeblocks, fragments or the gap alone are the same once the page is laid anew.
use Prim.Native.Nat.{ℕ, zero, suc, ◌+◌, ◌-◌, ◌*◌, ◌≤◌, ◌<◌}
use mathlib.Core.Path.{◌≡◌, refl, sym, ap, ap₂, subst, ◌∙◌}
use mathlib.Core.Bool.{Bool, true, false, cond}
use mathlib.Core.Logic.{◌≢◌, ◌⊎◌, inl, inr, ⊎_elim}
use mathlib.Core.List.{List, ◌∷◌}
use lib.Dec.{eqb}
use lib.IntN.{ℤ}
use lib.ListN.{length}
use native.Mathlib.Omega.{arith}
use borrow.Author.Tests.{eqb-false}
use Rattle.number.specs.Bytes.{byte_at, part}
use Rattle.number.proofs.Cases.{lt-or-ge}
use Rattle.paging.specs.Pages.{over}
use Rattle.paging.proofs.PagesLaws.{length_over, over_below, over-within, over-past, pages-apart}
use Rattle.header.specs.Header.{size_of, usable_of}
use Rattle.cell.specs.declared.Cell as D
use Rattle.cell.specs.Cell.{cell_at}
use Rattle.cell.proofs.CellLocal.{cell-within}
use Rattle.page.specs.Header.{page_type, cell_count, pointer, cell_of}
use Rattle.page.proofs.PageLaws.{sound-checks}
use Rattle.dealing.specs.Good.{Dealing}
use Rattle.image.specs.Pages.{page_in}
use Rattle.image.specs.Good.{GoodDealing}
use Rattle.image.proofs.Shape.{shape}
use Rattle.lookup.proofs.Theorems.{opened-image}
use Rattle.writing.specs.Cells.{leaf_cell}
use Rattle.altered.proofs.SameReads.{entries-same}
use Rattle.altered.proofs.SameHeader as H
use Rattle.altered.proofs.Kept as K
use Rattle.setting.specs.Relaid.{cell_part, cells_with, cells_for, leaf_page, relaid, Settable, AlikeBut}
use Rattle.setting.proofs.Keeps as S

-- pages whose other cells are the same bytes give the same cells
pub cells_same : (p q : List ℕ) (u cell : ℕ) (fresh : List ℕ) (i k : ℕ) → ((j : ℕ) → i ≤ j → j < i + k → j ≢ cell → cell_part q u j ≡ cell_part p u j)
    → cells_with q u cell fresh i k ≡ cells_with p u cell fresh i k
unfolding cells_with
cells_same p q u cell fresh i zero f = refl
cells_same p q u cell fresh i (suc k) f =
    ap₂ ◌∷◌ (one (eqb i cell) refl) (cells_same p q u cell fresh (i + 1) k (λ j a l n. f j (omega arith) (omega arith) n))
  where
    one : (t : Bool) → eqb i cell ≡ t → cond t fresh (cell_part q u i) ≡ cond t fresh (cell_part p u i)
    one true e = refl
    one false e = f i (omega arith) (omega arith) (eqb-false _ _ e)

-- bytes laid over two lists that agree elsewhere
pub over-same : (b c : List ℕ) (at : ℕ) (s : List ℕ) → length c ≡ length b → at + length s ≤ length b
    → ((i : ℕ) → (i < at) ⊎ (at + length s ≤ i) → byte_at c i ≡ byte_at b i) → over c at s ≡ over b at s
over-same b c at s e h f =
    let k : at + length s ≤ length c = omega arith in
    entries-same (over c at s) (over b at s) (length_over c at s k ∙ e ∙ sym (length_over b at s h))
    (λ i _. ⊎_elim
    (λ (l : i < at). over_below c at s k i l ∙ f i (inl l) ∙ sym (over_below b at s h i l))
    (λ (l : at ≤ i). ⊎_elim
    (λ (m : i < at + length s).
    let z : at + (i - at) ≡ i = omega arith in
    subst (λ n. byte_at (over c at s) n ≡ byte_at (over b at s) n) z
    (over-within c at s k (i - at) (omega arith) ∙ sym (over-within b at s h (i - at) (omega arith))))
    (λ (m : at + length s ≤ i). over-past c at s k i m ∙ f i (inr m) ∙ sym (over-past b at s h i m))
    (lt-or-ge i (at + length s)))
    (lt-or-ge i at))

module _ (b b' : List ℕ) (d : Dealing) (g : GoodDealing b d) (root page cell : ℕ) (row : ℤ) (s : List ℕ) (R : Settable b d root page cell row s)
    (A : AlikeBut b b' page cell) where
  abbrev u : ℕ
  u = usable_of b

  abbrev p : List ℕ
  p = page_in b page

  abbrev q : List ℕ
  q = page_in b' page

  header : (i : ℕ) → i < 100 → byte_at b' i ≡ byte_at b i
  header i h =
      let form = shape (opened-image b g.passes) in
      let a = pages-apart 1 page (size_of b) (omega arith) (S.second b d g root page cell row s R) in
      let z : 512 ≤ size_of b = omega (arith, form.least, form.size_is) in
      A.outside i (inl (omega arith))

  usable_is : usable_of b' ≡ u
  usable_is = H.usable-kept b b' A.long header

  size_is : size_of b' ≡ size_of b
  size_is = H.size-kept b b' A.long header

  long-p : u ≤ length p
  long-p = let w = S.w b d g root page cell row s R in K.long-b b b' d g A.long header page w.in_file w.tree

  long-q : u ≤ length q
  long-q = let w = S.w b d g root page cell row s R in K.long-c b b' d g A.long header page w.in_file w.tree

  -- another cell is the same bytes
  part-is : (j : ℕ) → j < cell_count p 0 → j ≢ cell → cell_part q u j ≡ cell_part p u j
  part-is j l n =
      let used = S.used b d g root page cell row s R in
      let checks = sound-checks p u 0 used (S.sound-is b d g root page cell row s R) in
      let at = pointer p 0 j in
      let e : (cell_of q u 0 j).end ≡ (cell_of p u 0 j).end =
      ap (λ (x : D.Cell). x.end)
      (ap₂ (λ t a. cell_at q u t a) A.type (A.places j l n)
      ∙ cell-within p q u (page_type p 0) at long-p long-q (checks.cell j l).fault (λ i a m. sym (A.cells j l n i a m))) in
      let r = checks.read j l in
      ap₂ (λ a k. part q a (k - a)) (A.places j l n) e
      ∙ K.part_same q p at ((cell_of p u 0 j).end - at) (omega (arith, long-q, r.within, r.least)) (omega (arith, long-p, r.within, r.least))
      (λ i m. A.cells j l n (at + i) (omega arith) (omega (arith, r.least)))

  cells_are : cells_for b' page cell row s ≡ cells_for b page cell row s
  cells_are =
      ap₂ (λ u k. cells_with q u cell (leaf_cell u row s 0) 0 k) usable_is A.count
      ∙ cells_same p q u cell (leaf_cell u row s 0) 0 (cell_count p 0) (λ j a l n. part-is j (omega arith) n)

  pub gone : relaid b' page cell row s ≡ relaid b page cell row s
  gone =
      let cs = cells_for b page cell row s in
      let n = S.new-long b d g root page cell row s R in
      ap (λ z. over b' ((page - 1) * z) (leaf_page (usable_of b') (cells_for b' page cell row s))) size_is
      ∙ ap₂ (λ u cs. over b' ((page - 1) * size_of b) (leaf_page u cs)) usable_is cells_are
      ∙ over-same b b' ((page - 1) * size_of b) (leaf_page u cs) A.long (S.fits b d g root page cell row s R)
      (λ i h. A.outside i (⊎_elim (λ l. inl l) (λ (l : (page - 1) * size_of b + length (leaf_page u cs) ≤ i). inr (omega arith)) h))
