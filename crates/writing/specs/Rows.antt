-- Table leaves and table interior pages by what stands on them, and the overflow pages of a payload.
use Rattle.std.specs.Prelude.{ℕ, zero, suc, ◌+◌, ◌-◌, cond, List, [], ◌∷◌, map, eqb, ℤ, pos, length, take, drop}
use Rattle.number.specs.Bytes.{bias_of}
use Rattle.dealing.specs.File as F
use Rattle.compare.specs.Values.{values_of, list_of}
use Rattle.record.specs.Record.{reads_of}
use Rattle.cell.specs.Split.{table_interior, table_leaf, chain_length}
use Rattle.writing.specs.Cells.{local_of, leaf_cell, child_cell, RowFits, ChildFits}
use Rattle.writing.specs.Pages.{tree_page, overflow_page}

-- a row, as its leaf has it: its number, its payload, and where not all of that is local the first page of its chain
pub record Row : Type 0 where
  pub number : ℤ
  pub payload : List ℕ
  pub first : ℕ

-- a child of an interior page with its key, the largest row number under it
pub record Child : Type 0 where
  pub page : ℕ
  pub key : ℤ

abbrev pub no_row : Row
no_row = record { number = pos 0; payload = []; first = 0 }

abbrev pub no_child : Child
no_child = record { page = 0; key = pos 0 }

abbrev pub row_cell : (u : ℕ) → Row → List ℕ
row_cell u r = leaf_cell u r.number r.payload r.first

abbrev pub key_cell : Child → List ℕ
key_cell c = child_cell c.page c.key

abbrev pub row_cells : (u : ℕ) → List Row → List (List ℕ)
row_cells u rows = map (row_cell u) rows

abbrev pub key_cells : List Child → List (List ℕ)
key_cells cs = map key_cell cs

-- a table leaf; `front` is the image's header on page 1, else nothing
abbrev pub leaf_page : (u : ℕ) (front : List ℕ) → List Row → List ℕ
leaf_page u front rows = tree_page u front table_leaf 0 (row_cells u rows)

-- a table interior page: the children with keys, then the right child
abbrev pub inner_page : (u : ℕ) → List Child → (right : ℕ) → List ℕ
inner_page u cs right = tree_page u [] table_interior right (key_cells cs)

abbrev pub AllRows : List Row → Type 0
AllRows [] = Unit {0}
AllRows (r ∷ rs) = RowFits r.number r.payload r.first × AllRows rs

abbrev pub AllChildren : List Child → Type 0
AllChildren [] = Unit {0}
AllChildren (c ∷ cs) = ChildFits c.page c.key × AllChildren cs

-- ---- overflow pages

-- what is not local of a payload, and how many pages it takes
abbrev pub rest_of : (u : ℕ) (payload : List ℕ) → List ℕ
rest_of u payload = drop (local_of u payload) payload

abbrev pub links_of : (u : ℕ) (payload : List ℕ) → ℕ
links_of u payload = chain_length u (length payload - local_of u payload)

-- n pages side by side from page `first` on that hold `rest`; the last has no next
unfoldable pub chain_of : (u n first : ℕ) (rest : List ℕ) → List (List ℕ)
chain_of u zero first rest = []
chain_of u (suc n) first rest =
    overflow_page u (cond (eqb n 0) 0 (first + 1)) (take (u - 4) rest) ∷ chain_of u n (first + 1) (drop (u - 4) rest)

-- ---- as a file has them

-- a row's cell: its first page is read where there is a chain; no number is spelled long
abbrev pub file_row : (u : ℕ) → Row → F.Cell
file_row u r =
    record {
      child = 0;
      row = bias_of r.number;
      length = length r.payload;
      links = links_of u r.payload;
      first = cond (eqb (local_of u r.payload) (length r.payload)) 0 r.first;
      long = 0;
      reads = reads_of r.payload;
      key = list_of (values_of r.payload);
    }

abbrev pub file_child : Child → F.Cell
file_child c =
    record {
      child = c.page;
      row = bias_of c.key;
      length = 0;
      links = 0;
      first = 0;
      long = 0;
      reads = reads_of [];
      key = list_of (values_of []);
    }
