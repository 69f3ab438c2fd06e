-- Small pages of 512 usable bytes, by computation.
use Prim.Native.Nat.{ℕ}
use mathlib.Core.Path.{◌≡◌, refl}
use mathlib.Core.List.{List, [], ◌∷◌, ◌++◌}
use lib.ListN.{replicate}
use Rattle.number.specs.Bytes.{be}
use Rattle.number.specs.Varint.{varint_at, word_from}
use Rattle.cell.specs.Split.{local_size}
use Rattle.cell.specs.Cell.{cell_at, payload_cell, body_cell}
use Rattle.page.specs.declared.Place.TheVariants.{SchemaRoot, AnyRoot, IndexPage}
use Rattle.page.specs.Checked.{Refused, Page}
use Rattle.page.specs.Place.{allowed}
use Rattle.page.specs.Sound.{soundb, cell_spans, freeblocks, freeblocksb, all_withinb, onceb, zeros, cover, holds}
use Rattle.page.specs.Fault.{cell_fault, cells_fault, sound_fault, page_fault, checked_of}

-- no cells
abbrev empty : List ℕ
empty = 13 ∷ 0 ∷ 0 ∷ 0 ∷ 0 ∷ 2 ∷ 0 ∷ 0 ∷ replicate 504 0

empty-sound : checked_of AnyRoot empty 512 0 ≡ Page 13 0 0
unfolding page_fault allowed sound_fault cells_fault be soundb freeblocksb freeblocks cell_spans all_withinb onceb zeros cover
empty-sound = refl

empty-is-no-index : checked_of IndexPage empty 512 0 ≡ Refused 22
unfolding page_fault allowed
empty-is-no-index = refl

-- a content start of 0 means 65536: past a page of 512 bytes
zero-start : checked_of AnyRoot (13 ∷ replicate 511 0) 512 0 ≡ Refused 23
unfolding page_fault allowed sound_fault cells_fault be soundb freeblocksb freeblocks cell_spans all_withinb onceb zeros cover
zero-start = refl

-- page 1, its one cell at 506: the header begins at 100, the cell pointer counts from the page's start
abbrev page-1 : (high low : ℕ) → List ℕ
page-1 high low = replicate 100 0 ++ (13 ∷ 0 ∷ 0 ∷ 0 ∷ 1 ∷ 1 ∷ 250 ∷ 0 ∷ high ∷ low ∷ replicate 396 0 ++ (4 ∷ 2 ∷ 9 ∷ 9 ∷ 9 ∷ 9 ∷ []))

from-page-start : checked_of SchemaRoot (page-1 1 250) 512 100 ≡ Page 13 1 0
unfolding page_fault allowed sound_fault cells_fault cell_fault be soundb freeblocksb freeblocks cell_spans all_withinb onceb zeros cover holds cell_at payload_cell body_cell local_size varint_at word_from
from-page-start = refl

not-from-100 : checked_of SchemaRoot (page-1 1 150) 512 100 ≡ Refused 23
unfolding page_fault allowed sound_fault cells_fault cell_fault be soundb freeblocksb freeblocks cell_spans all_withinb onceb zeros cover holds cell_at payload_cell body_cell local_size varint_at word_from
not-from-100 = refl

-- a table leaf: n cells at the offsets in `pointers`, the first freeblock and the fragments in the header; the freeblock is at 496, cells are at 500 and 506
abbrev leaf : (n start fragments pointer : ℕ) (cell : List ℕ) → List ℕ
leaf n start fragments pointer cell =
    13 ∷ 1 ∷ 240 ∷ 0 ∷ n ∷ 1 ∷ start ∷ fragments ∷ 1 ∷ 250 ∷ 1 ∷ pointer ∷ 1 ∷ 244 ∷ replicate 482 0 ++ (0 ∷ 0 ∷ 0 ∷ 4 ∷ cell ++ (4 ∷ 1 ∷ 8 ∷ 8 ∷ 8 ∷ 8 ∷ []))

abbrev short : List ℕ
short = 4 ∷ 2 ∷ 9 ∷ 9 ∷ 9 ∷ 9 ∷ []

-- a payload of 65537 bytes
abbrev long : List ℕ
long = 132 ∷ 128 ∷ 1 ∷ 9 ∷ 9 ∷ 9 ∷ []

tiled : checked_of AnyRoot (leaf 2 240 0 244 short) 512 0 ≡ Page 13 2 0
unfolding page_fault allowed sound_fault cells_fault cell_fault be soundb freeblocksb freeblocks cell_spans all_withinb onceb zeros cover holds cell_at payload_cell body_cell local_size varint_at word_from
tiled = refl

-- two bytes in no span must be two fragments
fragments-counted : checked_of AnyRoot (leaf 2 238 2 244 short) 512 0 ≡ Page 13 2 0
unfolding page_fault allowed sound_fault cells_fault cell_fault be soundb freeblocksb freeblocks cell_spans all_withinb onceb zeros cover holds cell_at payload_cell body_cell local_size varint_at word_from
fragments-counted = refl

fragments-missed : checked_of AnyRoot (leaf 2 238 1 244 short) 512 0 ≡ Refused 23
unfolding page_fault allowed sound_fault cells_fault cell_fault be soundb freeblocksb freeblocks cell_spans all_withinb onceb zeros cover holds cell_at payload_cell body_cell local_size varint_at word_from
fragments-missed = refl

-- one cell twice is 23; the payload of the cell after that is 26, and comes first
overlap : checked_of AnyRoot (leaf 2 240 0 250 short) 512 0 ≡ Refused 23
unfolding page_fault allowed sound_fault cells_fault cell_fault be soundb freeblocksb freeblocks cell_spans all_withinb onceb zeros cover holds cell_at payload_cell body_cell local_size varint_at word_from
overlap = refl

payload-first : checked_of AnyRoot (leaf 3 240 0 250 long) 512 0 ≡ Refused 26
unfolding page_fault allowed sound_fault cells_fault cell_fault be cell_at payload_cell body_cell local_size varint_at word_from
payload-first = refl
