-- Payload splits worked by hand, and small cells, each at the end of a page: u 512.
use Prim.Native.Nat.{◌+◌, ◌-◌, ◌^◌}
use mathlib.Core.Path.{◌≡◌, refl}
use mathlib.Core.List.{[], ◌∷◌, ◌++◌}
use lib.ListN.{replicate}
use Rattle.number.specs.Bytes.{be}
use Rattle.number.specs.Varint.{word_from, varint_at, size_from}
use Rattle.cell.specs.Split.{index_interior, table_interior, index_leaf, table_leaf, local_size}
use Rattle.cell.specs.Cell.{refused_cell, body_cell, payload_cell, cell_at}

pub table-477 : local_size 512 table_leaf 477 ≡ 477
unfolding local_size
table-477 = refl

pub table-478 : local_size 512 table_leaf 478 ≡ 39
unfolding local_size
table-478 = refl

pub table-547 : local_size 512 table_leaf 547 ≡ 39
unfolding local_size
table-547 = refl

pub table-600 : local_size 512 table_leaf 600 ≡ 92
unfolding local_size
table-600 = refl

pub index-102 : (local_size 512 index_leaf 102 ≡ 102) × (local_size 512 index_interior 102 ≡ 102)
unfolding local_size
index-102 = (refl, refl)

pub index-103 : (local_size 512 index_leaf 103 ≡ 39) × (local_size 512 index_interior 103 ≡ 39)
unfolding local_size
index-103 = (refl, refl)

-- a table leaf's cell: 3 bytes of payload, row 42
pub leaf-cell : cell_at (replicate 507 0 ++ (3 ∷ 42 ∷ 2 ∷ 15 ∷ 97 ∷ [])) 512 table_leaf 507
    ≡ record { fault = 0; child = 0; payload = 3; row = 2 ^ 63 + 42; start = 509; local = 3; first = 0; end = 512; long = 0 }
unfolding cell_at payload_cell body_cell local_size varint_at word_from size_from
leaf-cell = refl

-- a table interior page's cell: child 7, key -1
pub interior-cell : cell_at (replicate 499 0 ++ (0 ∷ 0 ∷ 0 ∷ 7 ∷ 255 ∷ 255 ∷ 255 ∷ 255 ∷ 255 ∷ 255 ∷ 255 ∷ 255 ∷ 255 ∷ [])) 512 table_interior 499
    ≡ record { fault = 0; child = 7; payload = 0; row = 2 ^ 63 - 1; start = 0; local = 0; first = 0; end = 512; long = 0 }
unfolding cell_at varint_at word_from be size_from
interior-cell = refl

-- the leaf's cell with its numbers spelled long: P in 2 bytes; P in 2 and the row number in 9, which is one too many for it
pub long-length : cell_at (replicate 506 0 ++ (128 ∷ 3 ∷ 42 ∷ 2 ∷ 15 ∷ 97 ∷ [])) 512 table_leaf 506
    ≡ record { fault = 0; child = 0; payload = 3; row = 2 ^ 63 + 42; start = 509; local = 3; first = 0; end = 512; long = 1 }
unfolding cell_at payload_cell body_cell local_size varint_at word_from size_from
long-length = refl

pub long-both : cell_at (replicate 498 0 ++ (128 ∷ 3 ∷ 128 ∷ 128 ∷ 128 ∷ 128 ∷ 128 ∷ 128 ∷ 128 ∷ 128 ∷ 42 ∷ 2 ∷ 15 ∷ 97 ∷ [])) 512 table_leaf 498
    ≡ record { fault = 0; child = 0; payload = 3; row = 2 ^ 63 + 42; start = 509; local = 3; first = 0; end = 512; long = 2 }
unfolding cell_at payload_cell body_cell local_size varint_at word_from size_from
long-both = refl

-- an interior page's key 42 in 2 bytes
pub long-key : cell_at (replicate 506 0 ++ (0 ∷ 0 ∷ 0 ∷ 7 ∷ 128 ∷ 42 ∷ [])) 512 table_interior 506
    ≡ record { fault = 0; child = 7; payload = 0; row = 2 ^ 63 + 42; start = 0; local = 0; first = 0; end = 512; long = 1 }
unfolding cell_at varint_at word_from be size_from
long-key = refl

-- an index leaf's cell whose fields take 3 bytes takes 4
pub small-cell : cell_at (replicate 508 0 ++ (2 ∷ 2 ∷ 8 ∷ 0 ∷ [])) 512 index_leaf 508
    ≡ record { fault = 0; child = 0; payload = 2; row = 0; start = 509; local = 2; first = 0; end = 512; long = 0 }
unfolding cell_at payload_cell body_cell local_size varint_at word_from size_from
small-cell = refl

-- so 3 bytes before u are not enough for it
pub small-past : cell_at (replicate 509 0 ++ (2 ∷ 2 ∷ 8 ∷ [])) 512 index_leaf 509 ≡ refused_cell 23
unfolding cell_at payload_cell body_cell local_size varint_at word_from size_from
small-past = refl

-- 65537 bytes are refused before the row number, which is missing; so are nine ff, -1 as a signed number
pub over-cell : cell_at (replicate 509 0 ++ (132 ∷ 128 ∷ 1 ∷ [])) 512 table_leaf 509 ≡ refused_cell 26
unfolding cell_at payload_cell varint_at word_from
over-cell = refl

pub minus-cell : cell_at (replicate 503 0 ++ (255 ∷ 255 ∷ 255 ∷ 255 ∷ 255 ∷ 255 ∷ 255 ∷ 255 ∷ 255 ∷ [])) 512 table_leaf 503 ≡ refused_cell 26
unfolding cell_at payload_cell varint_at word_from
minus-cell = refl

-- 65536 bytes are not: of this cell only the row number is missing
pub limit-cell : cell_at (replicate 509 0 ++ (132 ∷ 128 ∷ 0 ∷ [])) 512 table_leaf 509 ≡ refused_cell 23
unfolding cell_at payload_cell varint_at word_from
limit-cell = refl

-- a varint that needs a byte at u is short, though the page has one there
pub cut-cell : cell_at (replicate 511 0 ++ (129 ∷ 0 ∷ [])) 512 index_leaf 511 ≡ refused_cell 23
unfolding cell_at varint_at word_from
cut-cell = refl
