-- The size of a row's cell as the code counts it, the file's header, and page 1.
-- Assumes nothing.
use Prim.Native.Nat.{ℕ, ◌+◌, ◌-◌, ◌*◌, ◌≤◌}
use mathlib.Core.Path.{◌≡◌, refl, sym, ap, ◌∙◌}
use mathlib.Core.List.{List, [], ◌∷◌, ◌++◌, append-nil, append_assoc}
use native.Mathlib.Nat.{zero-add}
use native.Mathlib.Omega.{arith}
use lib.IntN.{ℤ, pos}
use lib.ListN.{length, drop, replicate, length-append, length-replicate}
use Rattle.number.specs.Bytes.{word_of}
use Rattle.number.specs.Varint.{varint_size}
use Rattle.cell.specs.Cell.{at_least4, local_end}
use Rattle.cell.specs.Split.{table_leaf, local_size}
use Rattle.header.specs.Header.{magic}
use Rattle.paging.specs.Pages.{over}
use Rattle.writing.specs.Cells.{be_bytes, leaf_cell}
use Rattle.writing.specs.Pages.{joined, pointers_of, header_bytes, tree_page}
use Rattle.writing.specs.Layout.{size, file_header, first_page}
use Rattle.writing.specs.Given.{cell_size, start_bytes}
use Rattle.writing.proofs.Standing.{be-length}
use Rattle.writing.proofs.CellsRead.{leaf-ends}
use Rattle.writing.proofs.ImageLaws.{header-size}
use Rattle.writing.proofs.OverLaws.{two-laid}
use Rattle.writing.proofs.CellsLaid.{over-mid}
use Rattle.writing.proofs.Built.{schema-room}
use Rattle.writing.proofs.TreeLaid.{laid-length, start-length}

-- ---- a cell's size
pub cell_is : (row : ℤ) (payload : List ℕ) (first : ℕ) → length (leaf_cell size row payload first) ≡ cell_size row (length payload)
cell_is row payload first =
    sym (zero-add (length (leaf_cell size row payload first))) ∙ leaf-ends size row payload first (omega arith) 0
    ∙ ap (λ k. at_least4 0 (local_end (k + varint_size (word_of row)) (local_size size table_leaf (length payload)) (length payload)))
    (zero-add (varint_size (length payload)))

-- ---- the header: one for no pages, and the count laid over it
abbrev before-count : List ℕ
before-count = magic ++ (be_bytes 2 size ++ ((1 ∷ 1 ∷ 0 ∷ 64 ∷ 32 ∷ 32 ∷ []) ++ be_bytes 4 1))

abbrev after-count : List ℕ
after-count =
    be_bytes 4 0 ++ (be_bytes 4 0 ++ (be_bytes 4 1
    ++ (be_bytes 4 4 ++ (be_bytes 4 0 ++ (be_bytes 4 0 ++ (be_bytes 4 1 ++ (replicate 32 0 ++ (be_bytes 4 1 ++ be_bytes 4 0))))))))

header-parts : (n : ℕ) → file_header n ≡ before-count ++ (be_bytes 4 n ++ after-count)
unfolding file_header be_bytes
header-parts n = refl

before-length : length before-count ≡ 28
unfolding be_bytes
before-length = refl

pub header-bytes : file_header 0 ≡ (83 ∷ 81 ∷ 76 ∷ 105 ∷ 116 ∷ 101 ∷ 32 ∷ 102 ∷ 111 ∷ 114 ∷ 109 ∷ 97 ∷ 116 ∷ 32 ∷ 51 ∷ 0 ∷ 4 ∷ 0 ∷ 1 ∷ 1 ∷ 0
    ∷ 64 ∷ 32 ∷ 32 ∷ 0 ∷ 0 ∷ 0 ∷ 1 ∷ [])
    ++ (replicate 15 0 ++ ((1 ∷ 0 ∷ 0 ∷ 0 ∷ 4 ∷ []) ++ (replicate 11 0 ++ ((1 ∷ []) ++ (replicate 35 0 ++ (1 ∷ 0 ∷ 0 ∷ 0 ∷ 0 ∷ []))))))
unfolding file_header be_bytes
header-bytes = refl

pub header-laid : (o o₁ o₂ : List ℕ) (n : ℕ) → o₁ ≡ over o 0 (file_header 0) → o₂ ≡ over o₁ 28 (be_bytes 4 n) → o₂ ≡ over o 0 (file_header n)
header-laid o o₁ o₂ n a b =
    let D = drop (0 + length (file_header 0)) o in
    let e : 0 + length (file_header 0) ≡ 0 + length (file_header n) = omega (arith, header-size 0, header-size n) in
    let parts : (m : ℕ) → file_header m ++ D ≡ before-count ++ (be_bytes 4 m ++ (after-count ++ D)) =
    λ m. ap (λ x. x ++ D) (header-parts m) ∙ append_assoc before-count (be_bytes 4 m ++ after-count) D
    ∙ ap (λ x. before-count ++ x) (append_assoc (be_bytes 4 m) after-count D) in
    b ∙ ap (λ x. over x 28 (be_bytes 4 n)) (a ∙ parts 0)
    ∙ over-mid before-count (be_bytes 4 0) (after-count ++ D) (be_bytes 4 n) 28 before-length (be-length 4 0 ∙ sym (be-length 4 n)) ∙ sym (parts n)
    ∙ ap (λ k. file_header n ++ drop k o) e

-- ---- page 1

-- where the schema's cell begins
pub first-start : (schema : List ℕ) (r : ℕ) → length schema ≤ 911 → r ≡ cell_size (pos 1) (length schema)
    → (r ≤ 914) × (1024 - r + length (leaf_cell size (pos 1) schema 0) ≡ 1024)
unfolding joined
first-start schema r h e =
    let cell = leaf_cell size (pos 1) schema 0 in
    let k : r ≡ length cell = e ∙ sym (cell_is (pos 1) schema 0) in
    let j : length (cell ++ []) ≡ length cell = ap length (append-nil cell) in
    let m : 100 + 8 + 0 + 2 * 1 + length (cell ++ []) ≤ 1024 = schema-room schema h in
    (omega arith, omega arith)

module _ (o o₁ o₂ o₃ o₄ o₅ schema : List ℕ) (n start : ℕ) (whole : 1024 ≤ length o) (short : length schema ≤ 911) (low : 110 ≤ start)
    (high : start + length (leaf_cell size (pos 1) schema 0) ≡ 1024) (a : o₁ ≡ over o 0 (file_header n))
    (b : o₂ ≡ over o₁ 100 (start_bytes table_leaf 1 start))
    (c : o₃ ≡ over o₂ 108 (be_bytes 2 start)) (d : o₄ ≡ over o₃ 110 (replicate (start - 110) 0))
    (e : o₅ ≡ over o₄ start (leaf_cell size (pos 1) schema 0)) where
  abbrev cell : List ℕ
  cell = leaf_cell size (pos 1) schema 0

  page_is : file_header n ++ (start_bytes table_leaf 1 start ++ (be_bytes 2 start ++ (replicate (start - 110) 0 ++ cell))) ≡ first_page n schema
  unfolding tree_page header_bytes pointers_of joined
  page_is =
      let j : length (cell ++ []) ≡ length cell = ap length (append-nil cell) in
      let s : start ≡ size - length (cell ++ []) = omega arith in
      let m : start - 110 ≡ size - (length (file_header n) + 8 + 0 + 2 * 1 + length (cell ++ [])) = omega (arith, header-size n) in
      ap (λ k. file_header n ++ (start_bytes table_leaf 1 start ++ (be_bytes 2 start ++ (replicate k 0 ++ cell)))) m
      ∙ ap (λ k. file_header n ++ (start_bytes table_leaf 1 k
      ++ (be_bytes 2 k ++ (replicate (size - (length (file_header n) + 8 + 0 + 2 * 1 + length (cell ++ []))) 0 ++ cell)))) s
      ∙ ap (λ x. file_header n ++ (start_bytes table_leaf 1 (size - length (cell ++ []))
      ++ (x ++ (replicate (size - (length (file_header n) + 8 + 0 + 2 * 1 + length (cell ++ []))) 0 ++ cell))))
      (sym (append-nil (be_bytes 2 (size - length (cell ++ [])))))
      ∙ ap (λ x. file_header n ++ (start_bytes table_leaf 1 (size - length (cell ++ [])) ++ ((be_bytes 2 (size - length (cell ++ [])) ++ [])
      ++ (replicate (size - (length (file_header n) + 8 + 0 + 2 * 1 + length (cell ++ []))) 0 ++ x))))
      (sym (append-nil cell))

  pub first-laid : o₅ ≡ over o 0 (first_page n schema)
  first-laid =
      let H = file_header n in
      let S = start_bytes table_leaf 1 start in
      let P = be_bytes 2 start in
      let Z = replicate {A = ℕ} (start - 110) 0 in
      let hl = header-size n in
      let sl = start-length table_leaf 1 start in
      let pl = be-length 2 start in
      let zl = length-replicate {A = ℕ} (start - 110) 0 in
      let l₁ : length o₁ ≡ length o = laid-length o o₁ 0 H a (omega arith) in
      let l₂ : length o₂ ≡ length o = laid-length o₁ o₂ 100 S b (omega arith) ∙ l₁ in
      let l₃ : length o₃ ≡ length o = laid-length o₂ o₃ 108 P c (omega arith) ∙ l₂ in
      let zc : length (Z ++ cell) ≡ start - 110 + length cell = length-append Z cell ∙ omega arith in
      let pzc : length (P ++ (Z ++ cell)) ≡ start - 108 + length cell = length-append P (Z ++ cell) ∙ omega arith in
      let spzc : length (S ++ (P ++ (Z ++ cell))) ≡ start - 100 + length cell = length-append S (P ++ (Z ++ cell)) ∙ omega arith in
      let x = two-laid o₃ o₄ o₅ 110 start Z cell d (omega arith) e (omega arith) in
      let y = two-laid o₂ o₃ o₅ 108 110 P (Z ++ cell) c (omega arith) x (omega arith) in
      let z = two-laid o₁ o₂ o₅ 100 108 S (P ++ (Z ++ cell)) b (omega arith) y (omega arith) in
      two-laid o o₁ o₅ 0 100 H (S ++ (P ++ (Z ++ cell))) a (omega arith) z (omega arith) ∙ ap (over o 0) page_is
