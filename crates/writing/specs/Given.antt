-- Rows as they are given: their numbers, the lengths of their payloads, and these one behind the other. What the functions that write them ask.
use Rattle.std.specs.Prelude.{ℕ, zero, suc, ◌+◌, ◌-◌, ◌*◌, ◌^◌, ◌<◌, ◌≤◌, ◌≡◌, List, [], ◌∷◌, ◌++◌, ℤ, pos, length, get_or, replicate}
use Rattle.number.specs.Bytes.{part, word_of}
use Rattle.number.specs.Varint.{varint_size, spelling}
use Rattle.cell.specs.Cell.{at_least4, local_end}
use Rattle.cell.specs.Split.{table_leaf, payload_limit, local_size, chain_length}
use Rattle.paging.specs.Pages.{over}
use Rattle.writing.specs.Cells.{be_bytes, leaf_cell}
use Rattle.writing.specs.Pages.{joined, pointers_of}
use Rattle.writing.specs.Rows.{Row, row_cells, links_of}
use Rattle.writing.specs.Layout.{size, links_all}

-- how many overflow pages a payload of P bytes takes
abbrev pub links_for : (P : ℕ) → ℕ
links_for P = chain_length size (P - local_size size table_leaf P)

-- how many bytes the cell of a row with a payload of P bytes takes
abbrev pub cell_size : (row : ℤ) (P : ℕ) → ℕ
cell_size row P = at_least4 0 (local_end (varint_size P + varint_size (word_of row)) (local_size size table_leaf P) P)

-- k rows from the ith on, whose payloads stand from `off` on; the chain of the first begins on page t, each other chain behind the one before it
unfoldable pub rows_from : List ℤ → (lengths payloads : List ℕ) (k i off t : ℕ) → List Row
rows_from ns ls ps zero i off t = []
rows_from ns ls ps (suc k) i off t =
    record { number = get_or ns i (pos 0); payload = part ps off (get_or ls i 0); first = t }
    ∷ rows_from ns ls ps k (i + 1) (off + get_or ls i 0) (t + links_of size (part ps off (get_or ls i 0)))

-- all rows
abbrev pub rows_given : List ℤ → (lengths payloads : List ℕ) → List Row
rows_given ns ls ps = rows_from ns ls ps (length ns) 0 0 0

-- their payloads are there, and none is over the limit
abbrev pub Held : (lengths payloads : List ℕ) (k i off : ℕ) → Type 0
Held ls ps zero i off = Unit {0}
Held ls ps (suc k) i off = (get_or ls i 0 ≤ payload_limit) × (off + get_or ls i 0 ≤ length ps) × Held ls ps k (i + 1) (off + get_or ls i 0)

-- cells of a page, side by side up to its end: their pointers from p on, they themselves from q on
abbrev pub cells_laid : (b : List ℕ) (p q : ℕ) → List (List ℕ) → List ℕ
cells_laid b p q cs = over (over b p (pointers_of size cs)) q (joined cs)

-- one more cell of a leaf, the kth, has its place there
pub record CellPlace (room page k at : ℕ) (row : ℤ) (payload : List ℕ) (first : ℕ) : Type 0 where
  pub whole : page + size ≤ room
  pub limit : length payload ≤ payload_limit
  pub low : 8 + 2 * k + 2 ≤ at
  pub high : at + length (leaf_cell size row payload first) ≤ size

-- so have so many rows, their cells ending where the page does
pub record LeafRoom (ns : List ℤ) (ls ps : List ℕ) (room page start i count off t : ℕ) : Type 0 where
  pub whole : page + size ≤ room
  pub numbers : i + count ≤ length ns
  pub lengths : i + count ≤ length ls
  pub held : Held ls ps count i off
  pub low : 8 + 2 * count ≤ start
  pub high : start + length (joined (row_cells size (rows_from ns ls ps count i off t))) ≡ size
  pub links : t + links_all (rows_from ns ls ps count i off t) < 2 ^ 32

-- ---- interior pages and chains, by what the code has

-- the first 8 bytes of a tree page's header
abbrev pub start_bytes : (type count start : ℕ) → List ℕ
start_bytes type count start = (type ∷ []) ++ (replicate 2 0 ++ (be_bytes 2 count ++ (be_bytes 2 start ++ (0 ∷ []))))

-- a child and its key, the key by its 64 bits
abbrev pub key_bytes : (child bits : ℕ) → List ℕ
key_bytes child bits = be_bytes 4 child ++ spelling (varint_size bits) bits

-- the cells of k children from page t on, whose keys are those from the ith on
unfoldable pub keys_from : (keys : List ℕ) (k i t : ℕ) → List (List ℕ)
keys_from keys zero i t = []
keys_from keys (suc k) i t = key_bytes t (get_or keys i 0) ∷ keys_from keys k (i + 1) (t + 1)

-- they have their place on an interior page; the right child is the one behind them
pub record KeysRoom (keys : List ℕ) (room page start i count t : ℕ) : Type 0 where
  pub whole : page + size ≤ room
  pub keys_in : i + count ≤ length keys
  pub low : 12 + 2 * count ≤ start
  pub high : start + length (joined (keys_from keys count i t)) ≡ size
  pub pages : t + count < 2 ^ 32

-- n overflow pages from page `first` on, which begins at `at`, for the bytes `from` to `end` of the payloads
pub record ChainRoom (held room at first n from end : ℕ) : Type 0 where
  pub whole : at + n * size ≤ room
  pub order : from ≤ end
  pub bytes : end ≤ held
  pub enough : end ≤ from + n * (size - 4)
  pub pages : first + n < 2 ^ 32
