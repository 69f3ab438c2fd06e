-- One cell, read from a page p at a place, where bytes at or past u are never read. A field that would run past u is 23, a payload over the
-- limit 26; fields are tested in the order in which they stand.
use Rattle.std.specs.Prelude.{ℕ, ◌+◌, ◌-◌, Bool, cond, List, eqb, ltb}
use Rattle.number.specs.Bytes.{be, biased}
use Rattle.number.specs.Varint.{varint_at, varint_length, varint_bits, long_of}
use Rattle.cell.specs.declared.Cell as D
use Rattle.cell.specs.Split.{index_interior, table_interior, table_leaf, local_size, chain_length, payload_limit}

-- interior pages have a child before each cell's other fields
abbrev pub child_width : (type : ℕ) → ℕ
child_width type = cond (eqb type index_interior) 4 (cond (eqb type table_interior) 4 0)

abbrev pub refused_cell : (number : ℕ) → D.Cell
refused_cell n = record { fault = n; child = 0; payload = 0; row = 0; start = 0; local = 0; first = 0; end = 0; long = 0 }

-- a cell takes at least 4 bytes
abbrev pub at_least4 : (at end : ℕ) → ℕ
at_least4 at end = cond (ltb end (at + 4)) (at + 4) end

-- the child of an interior cell, 0 on leaves
abbrev pub child_at : List ℕ → (type at : ℕ) → ℕ
child_at p type at = cond (eqb (child_width type) 0) 0 (be 4 p at)

-- a table interior page's cell: child, key
abbrev pub key_cell : List ℕ → (u at : ℕ) → D.Cell
key_cell p u at =
    cond (eqb (varint_length p (at + 4) u) 0) (refused_cell 23)
    (record {
      fault = 0;
      child = be 4 p at;
      payload = 0;
      row = biased (varint_bits p (at + 4) u);
      start = 0;
      local = 0;
      first = 0;
      end = at + 4 + varint_length p (at + 4) u;
      long = long_of (varint_at p (at + 4) u);
    })

-- where the local bytes end, or after them the number of the chain's first page
abbrev pub local_end : (start local P : ℕ) → ℕ
local_end start local P = cond (eqb local P) (start + local) (start + local + 4)

-- the number of the chain's first page, 0 where all is local
abbrev pub first_at : List ℕ → (start local P : ℕ) → ℕ
first_at p start local P = cond (eqb local P) 0 (be 4 p (start + local))

-- the local bytes of a payload of P bytes begin at `start`; `long` of the numbers before them are spelled long
unfoldable pub body_cell : List ℕ → (u type at P row start long : ℕ) → D.Cell
body_cell p u type at P row start long =
    cond (ltb u (at_least4 at (local_end start (local_size u type P) P))) (refused_cell 23)
    (record {
      fault = 0;
      child = child_at p type at;
      payload = P;
      row = row;
      start = start;
      local = local_size u type P;
      first = first_at p start (local_size u type P) P;
      end = at_least4 at (local_end start (local_size u type P) P);
      long = long;
    })

-- 26: the payload's length, read as unsigned
abbrev pub over_limit : (P : ℕ) → Bool
over_limit P = ltb payload_limit P

-- a payload of P bytes, whose length ends at `next` (`long` is 1 where it is spelled long); a table leaf's row number stands there
unfoldable pub payload_cell : List ℕ → (u type at P next long : ℕ) → D.Cell
payload_cell p u type at P next long =
    cond (over_limit P) (refused_cell 26)
    (cond (eqb type table_leaf)
    (cond (eqb (varint_length p next u) 0) (refused_cell 23)
    (body_cell p u type at P (biased (varint_bits p next u)) (next + varint_length p next u) (long + long_of (varint_at p next u))))
    (body_cell p u type at P 0 next long))

-- the cell at `at` of a page of that type
unfoldable pub cell_at : List ℕ → (u type at : ℕ) → D.Cell
cell_at p u type at =
    cond (ltb u (at + child_width type)) (refused_cell 23)
    (cond (eqb type table_interior) (key_cell p u at)
    (cond (eqb (varint_length p (at + child_width type) u) 0) (refused_cell 23)
    (payload_cell p u type at (varint_bits p (at + child_width type) u) (at + child_width type + varint_length p (at + child_width type) u)
    (long_of (varint_at p (at + child_width type) u)))))

-- how many overflow pages hold the rest of a cell's payload
abbrev pub cell_links : (u : ℕ) → D.Cell → ℕ
cell_links u c = chain_length u (c.payload - c.local)
