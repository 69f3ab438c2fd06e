-- A leaf and an interior page, from the parts that the code lays.
-- Assumes nothing.
use Prim.Native.Nat.{ℕ, ◌+◌, ◌-◌, ◌*◌}
use mathlib.Core.Path.{◌≡◌, sym, ap, ◌∙◌}
use mathlib.Core.List.{List, [], ◌++◌}
use native.Mathlib.Omega.{arith}
use lib.IntN.{ℤ}
use lib.ListN.{length, replicate, length-append, length-map}
use Rattle.cell.specs.Split.{table_interior, table_leaf}
use Rattle.paging.specs.Pages.{over}
use Rattle.writing.specs.Cells.{be_bytes}
use Rattle.writing.specs.Pages.{tree_page}
use Rattle.writing.specs.Rows.{row_cell, row_cells, leaf_page}
use Rattle.writing.specs.Layout.{size}
use Rattle.writing.specs.Given.{rows_from, cells_laid, LeafRoom, start_bytes, keys_from, KeysRoom}
use Rattle.writing.proofs.Standing.{be-length}
use Rattle.writing.proofs.OverLaws.{two-laid}
use Rattle.writing.proofs.LeafLaws.{rows-count}
use Rattle.writing.proofs.KeyLaws.{keys-count}
use Rattle.writing.proofs.TreeLaid.{start-length, tree-laid, leaf-is, inner-is}

module _ (o o₁ o₂ : List ℕ) (ns : List ℤ) (ls ps : List ℕ) (page start i count off t : ℕ) (h : LeafRoom ns ls ps (length o) page start i count off t)
    (a : o₁ ≡ over o page (start_bytes table_leaf count start)) (b : o₂ ≡ over o₁ (page + 8 + 2 * count) (replicate (start - 8 - 2 * count) 0)) where
  abbrev cs : List (List ℕ)
  cs = row_cells size (rows_from ns ls ps count i off t)

  abbrev gap : ℕ
  gap = start - 8 - 2 * count

  cs-count : length cs ≡ count
  cs-count = length-map (rows_from ns ls ps count i off t) (row_cell size) ∙ rows-count ns ls ps count i off t

  pub leaf-whole : (o₃ : List ℕ) → o₃ ≡ cells_laid o₂ (page + 8) (page + start) cs
      → o₃ ≡ over o page (leaf_page size [] (rows_from ns ls ps count i off t))
  leaf-whole o₃ c =
      let at : page + 8 + 2 * count ≡ page + 8 + 2 * length cs = ap (λ n. page + 8 + 2 * n) (sym cs-count) in
      tree-laid o o₁ o₂ o₃ page 8 start gap (start_bytes table_leaf count start) cs h.whole (start-length table_leaf count start)
      (omega (arith, h.low, cs-count))
      (omega (arith, h.low, cs-count)) h.high a (b ∙ ap (λ x. over o₁ x (replicate gap 0)) at) c
      ∙ ap (over o page) (leaf-is cs count start gap cs-count h.high (omega (arith, h.low)))

module _ (o o₁ o₂ o₃ : List ℕ) (keys : List ℕ) (page start i count t : ℕ) (h : KeysRoom keys (length o) page start i count t)
    (a : o₁ ≡ over o page (start_bytes table_interior count start)) (b : o₂ ≡ over o₁ (page + 8) (be_bytes 4 (t + count)))
    (c : o₃ ≡ over o₂ (page + 12 + 2 * count) (replicate (start - 12 - 2 * count) 0)) where
  abbrev ks : List (List ℕ)
  ks = keys_from keys count i t

  abbrev space : ℕ
  space = start - 12 - 2 * count

  abbrev head : List ℕ
  head = start_bytes table_interior count start ++ be_bytes 4 (t + count)

  head-length : length head ≡ 12
  head-length =
      length-append (start_bytes table_interior count start) (be_bytes 4 (t + count))
      ∙ omega (arith, start-length table_interior count start, be-length 4 (t + count))

  headed : o₂ ≡ over o page head
  headed =
      two-laid o o₁ o₂ page (page + 8) (start_bytes table_interior count start) (be_bytes 4 (t + count)) a
      (omega (arith, start-length table_interior count start)) b
      (omega (arith, be-length 4 (t + count), h.whole))

  pub inner-whole : (o₄ : List ℕ) → o₄ ≡ cells_laid o₃ (page + 12) (page + start) ks → o₄ ≡ over o page (tree_page size [] table_interior (t + count) ks)
  inner-whole o₄ d =
      let n = keys-count keys count i t in
      let at : page + 12 + 2 * count ≡ page + 12 + 2 * length ks = ap (λ n. page + 12 + 2 * n) (sym n) in
      tree-laid o o₂ o₃ o₄ page 12 start space head ks h.whole head-length (omega (arith, h.low)) (omega (arith, h.low)) h.high headed
      (c ∙ ap (λ x. over o₂ x (replicate space 0)) at) d
      ∙ ap (over o page) (inner-is ks count start space n h.high (t + count) (omega (arith, h.low)))
