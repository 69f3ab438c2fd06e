-- How a payload of P bytes is split between its cell and a chain of overflow pages, on a page of u usable bytes.
use Rattle.std.specs.Prelude.{ℕ, ◌+◌, ◌-◌, ◌*◌, ◌/◌, ◌%◌, cond, eqb, leb}

-- the types of tree pages
abbrev pub index_interior : ℕ
index_interior = 2

abbrev pub table_interior : ℕ
table_interior = 5

abbrev pub index_leaf : ℕ
index_leaf = 10

abbrev pub table_leaf : ℕ
table_leaf = 13

-- X: the longest payload that is all local
abbrev pub max_local : (u type : ℕ) → ℕ
max_local u type = cond (eqb type table_leaf) (u - 35) ((u - 12) * 64 / 255 - 23)

-- M
abbrev pub min_local : (u : ℕ) → ℕ
min_local u = (u - 12) * 32 / 255 - 23

-- K: with it the chain's last page is full
abbrev pub full_local : (u P : ℕ) → ℕ
full_local u P = min_local u + (P - min_local u) % (u - 4)

-- how many bytes of the payload are local
unfoldable pub local_size : (u type P : ℕ) → ℕ
local_size u type P =
    cond (leb P (max_local u type)) P (cond (leb (full_local u P) (max_local u type)) (full_local u P) (min_local u))

-- how many overflow pages the rest takes, each with u - 4 bytes of it
unfoldable pub chain_length : (u rest : ℕ) → ℕ
chain_length u rest = (rest + (u - 5)) / (u - 4)

-- the longest payload (26)
abbrev pub payload_limit : ℕ
payload_limit = 65536
