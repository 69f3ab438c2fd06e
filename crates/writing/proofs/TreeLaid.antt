-- Whole pages, from the parts that the code lays.
--     start-laid, tree-laid     a page's header; header, zeros and cells as one page
--     leaf-is, inner-is         which is a table leaf, or a table interior page
--     overflow-laid             an overflow page
-- Assumes nothing.
use Prim.Native.Nat.{ℕ, ◌+◌, ◌-◌, ◌*◌, ◌≤◌}
use mathlib.Core.Path.{◌≡◌, refl, sym, ap, ◌∙◌}
use mathlib.Core.List.{List, [], ◌∷◌, ◌++◌, append_assoc}
use native.Mathlib.Omega.{arith}
use lib.ListN.{length, replicate, length-append, length-replicate}
use Rattle.cell.specs.Split.{table_interior, table_leaf}
use Rattle.paging.specs.Pages.{over}
use Rattle.paging.proofs.PagesLaws.{length_over}
use Rattle.writing.specs.Cells.{be_bytes}
use Rattle.writing.specs.Pages.{joined, start_of, pointers_of, header_bytes, tree_page, overflow_page}
use Rattle.writing.specs.Layout.{size}
use Rattle.writing.specs.Given.{start_bytes, cells_laid}
use Rattle.writing.proofs.Standing.{be-length}
use Rattle.writing.proofs.SideBySide.{pointers-length}
use Rattle.writing.proofs.OverLaws.{two-laid}
use Rattle.writing.proofs.CellsLaid.{over-swap}

pub laid-length : (o o₁ : List ℕ) (at : ℕ) (s : List ℕ) → o₁ ≡ over o at s → at + length s ≤ length o → length o₁ ≡ length o
laid-length o o₁ at s e h = ap length e ∙ length_over o at s h

-- ---- the header
module _ (o o₁ o₂ o₃ o₄ o₅ : List ℕ) (at type count start : ℕ) (h : at + 8 ≤ length o) (a : o₁ ≡ over o at (type ∷ []))
    (b : o₂ ≡ over o₁ (at + 1) (replicate 2 0))
    (c : o₃ ≡ over o₂ (at + 3) (be_bytes 2 count)) (d : o₄ ≡ over o₃ (at + 5) (be_bytes 2 start)) (e : o₅ ≡ over o₄ (at + 7) (0 ∷ [])) where
  pub start-laid : o₅ ≡ over o at (start_bytes type count start)
  start-laid =
      let C = be_bytes 2 count in
      let D = be_bytes 2 start in
      let cl = be-length 2 count in
      let dl = be-length 2 start in
      let l₁ : length o₁ ≡ length o = laid-length o o₁ at (type ∷ []) a (omega arith) in
      let l₂ : length o₂ ≡ length o = laid-length o₁ o₂ (at + 1) (replicate 2 0) b (omega arith) ∙ l₁ in
      let l₃ : length o₃ ≡ length o = laid-length o₂ o₃ (at + 3) C c (omega arith) ∙ l₂ in
      let p : length (D ++ (0 ∷ [])) ≡ 3 = length-append D (0 ∷ []) ∙ omega arith in
      let q : length (C ++ (D ++ (0 ∷ []))) ≡ 5 = length-append C (D ++ (0 ∷ [])) ∙ omega arith in
      let r : length (replicate 2 0 ++ (C ++ (D ++ (0 ∷ [])))) ≡ 7 = length-append (replicate 2 0) (C ++ (D ++ (0 ∷ []))) ∙ omega arith in
      let w = two-laid o₃ o₄ o₅ (at + 5) (at + 7) D (0 ∷ []) d (omega arith) e (omega arith) in
      let x = two-laid o₂ o₃ o₅ (at + 3) (at + 5) C (D ++ (0 ∷ [])) c (omega arith) w (omega arith) in
      let y = two-laid o₁ o₂ o₅ (at + 1) (at + 3) (replicate 2 0) (C ++ (D ++ (0 ∷ []))) b (omega arith) x (omega arith) in
      two-laid o o₁ o₅ at (at + 1) (type ∷ []) (replicate 2 0 ++ (C ++ (D ++ (0 ∷ [])))) a (omega arith) y (omega arith)

-- ---- header, zeros, then pointers and cells
module _ (o o₁ o₂ o₃ : List ℕ) (page w start n : ℕ) (S : List ℕ) (cs : List (List ℕ)) (whole : page + size ≤ length o) (width : length S ≡ w)
    (low : w + 2 * length cs ≤ start) (gap : n + w + 2 * length cs ≡ start) (high : start + length (joined cs) ≡ size) (a : o₁ ≡ over o page S)
    (b : o₂ ≡ over o₁ (page + w + 2 * length cs) (replicate n 0)) (c : o₃ ≡ cells_laid o₂ (page + w) (page + start) cs) where
  pub tree-laid : o₃ ≡ over o page (S ++ (pointers_of size cs ++ (replicate n 0 ++ joined cs)))
  tree-laid =
      let P = pointers_of size cs in
      let Z = replicate {A = ℕ} n 0 in
      let J = joined cs in
      let pl = pointers-length size cs in
      let zl = length-replicate {A = ℕ} n 0 in
      let l₁ : length o₁ ≡ length o = laid-length o o₁ page S a (omega arith) in
      let X = over o₁ (page + w) P in
      let xl : length X ≡ length o = length_over o₁ (page + w) P (omega arith) ∙ l₁ in
      let Y = over X (page + w + 2 * length cs) Z in
      let yl : length Y ≡ length o = length_over X (page + w + 2 * length cs) Z (omega arith) ∙ xl in
      let swap : over o₂ (page + w) P ≡ Y =
      ap (λ x. over x (page + w) P) b ∙ sym (over-swap o₁ (page + w) (page + w + 2 * length cs) P Z (omega arith) (omega arith)) in
      let last : o₃ ≡ over Y (page + start) J = c ∙ ap (λ x. over x (page + start) J) swap in
      let zj : length (Z ++ J) ≡ n + length J = length-append Z J ∙ omega arith in
      let pzj : length (P ++ (Z ++ J)) ≡ 2 * length cs + (n + length J) = length-append P (Z ++ J) ∙ omega arith in
      let x = two-laid X Y o₃ (page + w + 2 * length cs) (page + start) Z J refl (omega arith) last (omega arith) in
      let y = two-laid o₁ X o₃ (page + w) (page + w + 2 * length cs) P (Z ++ J) refl (omega arith) x (omega arith) in
      two-laid o o₁ o₃ page (page + w) S (P ++ (Z ++ J)) a (omega arith) y (omega arith)

pub start-length : (type count start : ℕ) → length (start_bytes type count start) ≡ 8
start-length type count start = let c = be-length 2 count in let s = be-length 2 start in simp (length-append, be-length) (omega arith)

header-inner : (count start right : ℕ) → start_bytes table_interior count start ++ be_bytes 4 right ≡ header_bytes table_interior count start right
unfolding header_bytes
header-inner count start right = simp append_assoc

-- as the specification has them
module _ (cs : List (List ℕ)) (count start n : ℕ) (count_is : length cs ≡ count) (high : start + length (joined cs) ≡ size) where
  pub leaf-is : n + 8 + 2 * count ≡ start
      → start_bytes table_leaf count start ++ (pointers_of size cs ++ (replicate n 0 ++ joined cs)) ≡ tree_page size [] table_leaf 0 cs
  unfolding tree_page header_bytes
  leaf-is gap =
      let s : start ≡ start_of size cs = omega arith in
      let m : n ≡ size - (0 + 8 + 0 + 2 * length cs + length (joined cs)) = omega arith in
      rw (sym count_is, s) (ap (λ k. start_bytes table_leaf (length cs) (start_of size cs) ++ (pointers_of size cs ++ (replicate k 0 ++ joined cs))) m)

  pub inner-is : (right : ℕ) → n + 12 + 2 * count ≡ start
      → (start_bytes table_interior count start ++ be_bytes 4 right)
      ++ (pointers_of size cs ++ (replicate n 0 ++ joined cs)) ≡ tree_page size [] table_interior right cs
  unfolding tree_page header_bytes
  inner-is right gap =
      let s : start ≡ start_of size cs = omega arith in
      let m : n ≡ size - (0 + 8 + 4 + 2 * length cs + length (joined cs)) = omega arith in
      rw (sym count_is, s)
      (ap (λ k. (start_bytes table_interior (length cs) (start_of size cs) ++ be_bytes 4 right) ++ (pointers_of size cs ++ (replicate k 0 ++ joined cs))) m
      ∙ ap (λ x. x ++ (pointers_of size cs ++ (replicate (size - (0 + 8 + 4 + 2 * length cs + length (joined cs))) 0 ++ joined cs)))
      (header-inner (length cs) (start_of size cs) right))

-- ---- an overflow page
module _ (o o₁ o₂ o₃ : List ℕ) (page next : ℕ) (chunk : List ℕ) (whole : page + size ≤ length o) (few : length chunk ≤ 1020)
    (a : o₁ ≡ over o page (be_bytes 4 next))
    (b : o₂ ≡ over o₁ (page + 4) chunk) (c : o₃ ≡ over o₂ (page + 4 + length chunk) (replicate (1020 - length chunk) 0)) where
  pub overflow-laid : o₃ ≡ over o page (overflow_page 1024 next chunk)
  unfolding overflow_page
  overflow-laid =
      let Z = replicate {A = ℕ} (1020 - length chunk) 0 in
      let zl = length-replicate {A = ℕ} (1020 - length chunk) 0 in
      let wl = be-length 4 next in
      let l₁ : length o₁ ≡ length o = laid-length o o₁ page (be_bytes 4 next) a (omega arith) in
      let cz : length (chunk ++ Z) ≡ 1020 = length-append chunk Z ∙ omega arith in
      let x = two-laid o₁ o₂ o₃ (page + 4) (page + 4 + length chunk) chunk Z b refl c (omega arith) in
      two-laid o o₁ o₃ page (page + 4) (be_bytes 4 next) (chunk ++ Z) a (omega arith) x (omega arith)
