-- How many rows a leaf takes and how many children an interior page, by what the code has: row numbers with lengths, and keys by their bits; the pages that follow.
use Rattle.std.specs.Prelude.{ℕ, zero, suc, ◌+◌, ◌-◌, ◌*◌, ◌^◌, ◌<◌, ◌≤◌, ◌≡◌, Bool, cond, List, [], ◌∷◌, ◌++◌, eqb, leb, ℤ, pos, length, get_or}
use Rattle.number.specs.Bytes.{part, word_of}
use Rattle.number.specs.Varint.{varint_size}
use Rattle.cell.specs.Split.{table_interior, table_leaf, local_size}
use Rattle.writing.specs.Pages.{tree_page}
use Rattle.writing.specs.Rows.{Row, chain_of}
use Rattle.writing.specs.Layout.{size}
use Rattle.writing.specs.Given.{cell_size, links_for, rows_from, keys_from, Held}

-- what k entries from the ith on come to
unfoldable pub total : (at : ℕ → ℕ) (k i : ℕ) → ℕ
total at zero i = 0
total at (suc k) i = at i + total at k (i + 1)

-- the bytes of k payloads from the ith on, and their overflow pages
abbrev pub sum_from : List ℕ → (k i : ℕ) → ℕ
sum_from ls k i = total (λ j. get_or ls j 0) k i

abbrev pub links_from : List ℕ → (k i : ℕ) → ℕ
links_from ls k i = total (λ j. links_for (get_or ls j 0)) k i

-- no payload is over the limit
pub record Limits (ls : List ℕ) : Type 0 where
  pub limit : (j : ℕ) → get_or ls j 0 ≤ 65536

-- how many of a list join a group whose members take `used`
unfoldable pub more : {A : Type 0} (w : A → ℕ) (joins : (used : ℕ) → A → Bool) (used : ℕ) → List A → ℕ
more w joins used [] = 0
more w joins used (x ∷ xs) = cond (joins used x) (suc (more w joins (used + w x) xs)) 0

-- ---- leaves

-- the cell of a row with its pointer
abbrev pub weight_at : List ℤ → List ℕ → (j : ℕ) → ℕ
weight_at ns ls j = 2 + cell_size (get_or ns j (pos 0)) (get_or ls j 0)

-- of k rows from the jth on, so many join a leaf whose rows take `used`
unfoldable pub rows_taken : List ℤ → List ℕ → (k j used : ℕ) → ℕ
rows_taken ns ls zero j used = 0
rows_taken ns ls (suc k) j used = cond (leb (used + weight_at ns ls j) 1016) (suc (rows_taken ns ls k (j + 1) (used + weight_at ns ls j))) 0

abbrev pub rows_grouped : List ℤ → List ℕ → (left i : ℕ) → ℕ
rows_grouped ns ls left i = rows_taken ns ls left i 0

-- what k of them take
abbrev pub rows_weight : List ℤ → List ℕ → (k j : ℕ) → ℕ
rows_weight ns ls k j = total (weight_at ns ls) k j

-- ---- interior pages

-- a child with its key and its pointer
abbrev pub key_weight : List ℕ → (j : ℕ) → ℕ
key_weight keys j = 6 + varint_size (get_or keys j 0)

-- of k children from the jth on, so many join an interior page whose children take `used`
unfoldable pub keys_taken : List ℕ → (k j used : ℕ) → ℕ
keys_taken keys zero j used = 0
keys_taken keys (suc k) j used = cond (leb used 1012) (suc (keys_taken keys k (j + 1) (used + key_weight keys j))) 0

-- .. but one less where one alone would be left
unfoldable pub keys_grouped : List ℕ → (k j : ℕ) → ℕ
keys_grouped keys k j = cond (eqb (k - keys_taken keys k j 0) 1) (keys_taken keys k j 0 - 1) (keys_taken keys k j 0)

-- the bytes of k cells of them
abbrev pub keys_size : List ℕ → (k i : ℕ) → ℕ
keys_size keys k i = total (λ j. 4 + varint_size (get_or keys j 0)) k i

-- ---- groups, by how many members each has

-- of `left` members from the ith on the next group takes `takes left i`; `fuel` is no less than `left`
unfoldable pub counts : (takes : (left i : ℕ) → ℕ) (fuel left i : ℕ) → List ℕ
counts takes zero left i = []
counts takes (suc k) left i = cond (eqb left 0) [] (takes left i ∷ counts takes k (left - takes left i) (i + takes left i))

abbrev pub row_counts : List ℤ → List ℕ → List ℕ
row_counts ns ls = counts (rows_grouped ns ls) (length ns) (length ns) 0

abbrev pub key_counts : List ℕ → (k : ℕ) → List ℕ
key_counts keys k = counts (keys_grouped keys) k k 0

-- the last member of each group
unfoldable pub lasts : (at : ℕ → ℕ) → List ℕ → (i : ℕ) → List ℕ
lasts at [] i = []
lasts at (c ∷ cs) i = at (i + c - 1) ∷ lasts at cs (i + c)

abbrev pub last_rows : List ℤ → List ℕ → List ℕ
last_rows ns cs = lasts (λ j. word_of (get_or ns j (pos 0))) cs 0

abbrev pub last_keys : List ℕ → List ℕ → List ℕ
last_keys keys cs = lasts (λ j. get_or keys j 0) cs 0

-- ---- pages

-- interior pages for children from page t on, whose keys are those from the ith on
unfoldable pub inners_from : List ℕ → List ℕ → (i t : ℕ) → List (List ℕ)
inners_from keys [] i t = []
inners_from keys (c ∷ cs) i t = tree_page size [] table_interior (t + (c - 1)) (keys_from keys (c - 1) i t) ∷ inners_from keys cs (i + c) (t + c)

-- leaves for rows from the ith on, whose payloads stand from `off` on and whose chains from page t on
unfoldable pub leaves_from : List ℤ → (lengths payloads : List ℕ) → List ℕ → (i off t : ℕ) → List (List Row)
leaves_from ns ls ps [] i off t = []
leaves_from ns ls ps (c ∷ cs) i off t =
    rows_from ns ls ps c i off t ∷ leaves_from ns ls ps cs (i + c) (off + sum_from ls c i) (t + links_from ls c i)

-- where what is not local of a payload begins
abbrev pub local_at : (P : ℕ) → ℕ
local_at P = local_size size table_leaf P

-- the chains of k rows
unfoldable pub chains_from : (lengths payloads : List ℕ) (k i off t : ℕ) → List (List ℕ)
chains_from ls ps zero i off t = []
chains_from ls ps (suc k) i off t =
    chain_of size (links_for (get_or ls i 0)) t (part ps (off + local_at (get_or ls i 0)) (off + get_or ls i 0 - (off + local_at (get_or ls i 0))))
    ++ chains_from ls ps k (i + 1) (off + get_or ls i 0) (t + links_for (get_or ls i 0))

-- ---- what the functions that write ask

-- k children from page `child` on have their interior pages from `at` on
pub record InnersRoom (keys : List ℕ) (room at k child : ℕ) : Type 0 where
  pub keys_in : k ≤ length keys
  pub few : k ≤ 4096
  pub whole : at + size * length (key_counts keys k) ≤ room
  pub pages : child + k < 2 ^ 32

-- the rows have their leaves from `at` on, and page numbers for their chains from t on
pub record LeavesRoom (ns : List ℤ) (ls ps : List ℕ) (room at t : ℕ) : Type 0 where
  pub same : length ls ≡ length ns
  pub few : length ns ≤ 4096
  pub limits : Limits ls
  pub held : Held ls ps (length ns) 0 0
  pub whole : at + size * length (row_counts ns ls) ≤ room
  pub pages : t + links_from ls (length ns) 0 < 2 ^ 32

-- the chains have their pages from `at` on, which is page t
pub record ChainsRoom (ls ps : List ℕ) (room at t : ℕ) : Type 0 where
  pub limits : Limits ls
  pub held : Held ls ps (length ls) 0 0
  pub whole : at + size * links_from ls (length ls) 0 ≤ room
  pub pages : t + links_from ls (length ls) 0 < 2 ^ 32
