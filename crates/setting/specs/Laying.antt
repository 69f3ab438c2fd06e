-- What the parts of the code ask of each other.
use Rattle.std.specs.Prelude.{ℕ, zero, suc, ◌+◌, ◌-◌, ◌*◌, ◌≤◌, ◌<◌, ◌≡◌, cond, List, eqb, ℤ, length}
use Rattle.paging.specs.Pages.{over}
use Rattle.cell.specs.Split.{table_leaf}
use Rattle.page.specs.Header.{page_type, cell_count}
use Rattle.page.specs.Fault.{sound_fault}
use Rattle.writing.specs.Cells.{leaf_cell}
use Rattle.setting.specs.Relaid.{cell_part, cell_with, cells_with, stacked, stack_pointers, leaf_room}

-- a sound table leaf, with its header at byte 0
pub record SoundLeaf (p : List ℕ) (u : ℕ) : Type 0 where
  pub least : 480 ≤ u
  pub most : u ≤ 65536
  pub whole : u ≤ length p
  pub type : page_type p 0 ≡ table_leaf
  pub sound : sound_fault p u 0 ≡ 0

-- how many bytes k cells from the ith on take, the one with index `cell` having n
unfoldable pub sizes_with : List ℕ → (u cell n i k : ℕ) → ℕ
sizes_with p u cell n i zero = 0
sizes_with p u cell n i (suc k) = sizes_with p u cell n (i + 1) k + cond (eqb i cell) n (length (cell_part p u i))

-- the row's cell, and all of them
abbrev pub new_cell : (u : ℕ) (row : ℤ) (s : List ℕ) → List ℕ
new_cell u row s = leaf_cell u row s 0

abbrev pub cells_anew : List ℕ → (u cell : ℕ) (row : ℤ) (s : List ℕ) → List (List ℕ)
cells_anew p u cell row s = cells_with p u cell (new_cell u row s) 0 (cell_count p 0)

-- cells with their pointers from `at` on, the first cell ending at `top`
abbrev pub stack_laid : (b : List ℕ) (at top : ℕ) → List (List ℕ) → List ℕ
stack_laid b at top cs = over (over b at (stack_pointers top cs)) (top - length (stacked cs)) (stacked cs)

-- a leaf that may be laid anew over a buffer of `room` bytes
pub record MayLay (p : List ℕ) (u cell : ℕ) (row : ℤ) (s : List ℕ) (room : ℕ) : Type 0 where
  pub leaf : SoundLeaf p u
  pub short : length s ≤ u - 35
  pub fits : leaf_room (cells_anew p u cell row s) ≤ u
  pub buffer : u ≤ room

-- the kth cell has its place below `top`
pub record CellRoom (p : List ℕ) (u cell : ℕ) (row : ℤ) (s : List ℕ) (room k top : ℕ) : Type 0 where
  pub leaf : SoundLeaf p u
  pub short : length s ≤ u - 35
  pub index : k < cell_count p 0
  pub low : 8 + 2 * k + 2 + length (cell_with p u cell (new_cell u row s) k) ≤ top
  pub high : top ≤ room
  pub top_in : top ≤ 65536
