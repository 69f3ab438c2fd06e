-- The refusal that a tree page by itself gives in its place, and what its check answers.
use Rattle.std.specs.Prelude.{ℕ, zero, suc, ◌+◌, cond, List, leb, ltb, eqb}
use Rattle.page.specs.declared.Place.{Place}
use Rattle.page.specs.Checked as D
use Rattle.page.specs.Checked.{Refused, Page}
use Rattle.page.specs.Header.{page_type, cell_count, content_start, right_pointer, pointer_place, pointer, cell_of}
use Rattle.page.specs.Place.{allowed}
use Rattle.page.specs.Sound.{soundb}

-- the ith cell's refusal, 0 for none: its pointer runs past u, or does not lie from the content start to below u, or the cell's own
unfoldable pub cell_fault : List ℕ → (u head i : ℕ) → ℕ
cell_fault p u head i =
    cond (ltb u (pointer_place p head i + 2)) 23
    (cond (ltb (pointer p head i) (content_start p head)) 23
    (cond (leb u (pointer p head i)) 23 (cell_of p u head i).fault))

-- the first refusal among the k cells from the ith on, in pointer order
unfoldable pub cells_fault : List ℕ → (u head i k : ℕ) → ℕ
cells_fault p u head i zero = 0
cells_fault p u head i (suc k) = cond (eqb (cell_fault p u head i) 0) (cells_fault p u head (i + 1) k) (cell_fault p u head i)

-- the cells, all of them, then the rest of soundness
unfoldable pub sound_fault : List ℕ → (u head : ℕ) → ℕ
sound_fault p u head =
    cond (eqb (cells_fault p u head 0 (cell_count p head)) 0) (cond (soundb p u head) 0 23) (cells_fault p u head 0 (cell_count p head))

-- first the type
unfoldable pub page_fault : Place → List ℕ → (u head : ℕ) → ℕ
page_fault place p u head = cond (allowed place (page_type p head)) (sound_fault p u head) 22

-- what checking a page answers: the refusal's number; or the type, the number of cells and the right pointer
abbrev pub answer_of : (fault : ℕ) → List ℕ → (head : ℕ) → D.Checked
answer_of fault p head = cond (eqb fault 0) (Page (page_type p head) (cell_count p head) (right_pointer p head)) (Refused fault)

abbrev pub checked_of : Place → List ℕ → (u head : ℕ) → D.Checked
checked_of place p u head = answer_of (page_fault place p u head) p head
