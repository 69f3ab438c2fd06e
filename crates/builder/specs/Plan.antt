-- What is counted before the image is written: leaves, interior pages by levels, overflow pages; and the room that the writing asks.
use Rattle.std.specs.Prelude.{ℕ, ◌+◌, ◌*◌, ◌≤◌, ◌≡◌, cond, List, [], ◌++◌, map, ltb, ℤ, length}
use Rattle.writing.specs.Pages.{joined}
use Rattle.writing.specs.Rows.{leaf_page}
use Rattle.writing.specs.Groups.{group_leaves}
use Rattle.writing.specs.Layout.{size, first_page}
use Rattle.writing.specs.Given.{rows_from, Held}
use Rattle.filling.specs.Fill.{links_from, Limits, row_counts, key_counts, last_rows, last_keys, inners_from, chains_from}
use Rattle.builder.specs.declared.Plan.{Plan}

-- one page alone has no level above it
abbrev pub several : ℕ → ℕ
several n = cond (ltb n 2) 0 n

-- there is a leaf even without rows
abbrev pub at_least1 : ℕ → ℕ
at_least1 n = cond (ltb n 1) 1 n

-- what is asked of the lists
pub record Sound (ns : List ℤ) (ls : List ℕ) : Type 0 where
  pub same : length ls ≡ length ns
  pub few : length ns ≤ 4096
  pub limits : Limits ls

-- the counts, with the keys of the leaves and of the interior pages above them
pub record Planned (ns : List ℤ) (ls keys tops : List ℕ) (p : Plan) : Type 0 where
  pub leaves : p.leaves ≡ at_least1 (length (row_counts ns ls))
  pub low : p.low ≡ several (length (row_counts ns ls))
  pub inners : p.inners ≡ length (key_counts keys p.low)
  pub high : p.high ≡ several p.inners
  pub roots : p.roots ≡ cond (ltb p.inners 2) 0 1
  pub links : p.links ≡ links_from ls (length ns) 0
  pub more_keys : List ℕ
  pub keys_are : keys ≡ last_rows ns (row_counts ns ls) ++ more_keys
  pub more_tops : List ℕ
  pub tops_are : tops ≡ last_keys keys (key_counts keys p.low) ++ more_tops

-- the pages that it comes to
abbrev pub tree_of : Plan → ℕ
tree_of p = p.roots + p.inners + p.leaves

abbrev pub pages_of : Plan → ℕ
pages_of p = 1 + tree_of p + p.links

-- the bytes that are laid one behind the other
abbrev pub table_bytes : List ℤ → (lengths payloads : List ℕ) (t : ℕ) → List ℕ
table_bytes ns ls ps t = joined (map (leaf_page 1024 []) (group_leaves 1024 (rows_from ns ls ps (length ns) 0 0 t)))

abbrev pub laid_bytes : (schema : List ℕ) → List ℤ → (lengths payloads keys tops : List ℕ) → Plan → List ℕ
laid_bytes schema ns ls ps keys tops p =
    first_page (pages_of p) schema
    ++ (joined (inners_from tops (key_counts tops p.high) 0 3)
    ++ (joined (inners_from keys (key_counts keys p.low) 0 (2 + p.roots + p.inners))
    ++ (table_bytes ns ls ps (2 + tree_of p) ++ joined (chains_from ls ps (length ls) 0 0 (2 + tree_of p)))))

-- the table has its leaves from `at` on
pub record TableRoom (ns : List ℤ) (ls ps : List ℕ) (room at t : ℕ) : Type 0 where
  pub sound : Sound ns ls
  pub held : Held ls ps (length ns) 0 0
  pub whole : at + size * at_least1 (length (row_counts ns ls)) ≤ room
  pub pages : t + links_from ls (length ns) 0 ≤ 8192

-- the image has its place
pub record ImageRoom (schema : List ℕ) (ns : List ℤ) (ls ps keys tops : List ℕ) (room : ℕ) (p : Plan) : Type 0 where
  pub short : length schema ≤ 911
  pub sound : Sound ns ls
  pub held : Held ls ps (length ns) 0 0
  pub planned : Planned ns ls keys tops p
  pub tops_in : p.high ≤ length tops
  pub keys_in : p.low ≤ length keys
  pub roots_are : p.roots ≡ length (key_counts tops p.high)
  pub pages : pages_of p ≤ 4096
  pub whole : pages_of p * size ≤ room
