-- What `file_of` reads off images made by sqlite3, computed: each number is what sqlite3 put there, so that a wrong offset fails here.
use Prim.Native.Nat.{ℕ}
use mathlib.Core.Path.{◌≡◌, refl}
use mathlib.Core.Bool.{true, false}
use mathlib.Core.List.{List, [], ◌∷◌, ◌++◌, map}
use lib.IntN.{ℤ, pos, negsuc}
use lib.ListN.{replicate}
use Rattle.number.specs.Bytes.{be, bias_of}
use Rattle.number.specs.Varint.{varint_at, word_from, size_from}
use Rattle.header.specs.Header.{size_for, size_of, pages_of, present_of, counted, usable_of, page_of}
use Rattle.record.specs.Serial as Se
use Rattle.record.specs.Record.{types_from, sizes, types_of, reads_of, columns_of, column_at}
use Rattle.cell.specs.Split.{local_size, chain_length}
use Rattle.cell.specs.Cell.{body_cell, payload_cell, cell_at}
use Rattle.page.specs.Sound as So
use Rattle.page.specs.Fault.{cell_fault, cells_fault, sound_fault}
use Rattle.dealing.specs.File.{Cell, Column4, unfit, null, integer, cells_from, cells_of}
use Rattle.image.specs.Pages.{cell_in}
use Rattle.image.specs.Payload.{chain_bytes, payload_of}
use Rattle.image.specs.Schema.{column4_of}
use Rattle.paging.specs.Pages.{lock_page}
use Rattle.image.specs.Maps.{past_place, past_map, map_of, entry_of, fixed_in}
use Rattle.image.specs.Image.{file_of}
use Rattle.image.proofs.RealImages.{laid, patched, tables, indexes, schemas, levels, vacuums}

-- a cell without its record's values (compare/proofs/Examples has those)
abbrev keyless : Cell → Cell
keyless c = record { child = c.child; row = c.row; length = c.length; links = c.links; first = c.first; long = c.long; reads = c.reads; key = [] }

-- cells of table leaves, table interior pages (which have no payload), index leaves, index interior pages
abbrev row : (number : ℤ) (length links first : ℕ) → Cell
row r n links first = record { child = 0; row = bias_of r; length = n; links = links; first = first; long = 0; reads = true; key = [] }

abbrev key : (child : ℕ) (number : ℤ) → Cell
key c k = record { child = c; row = bias_of k; length = 0; links = 0; first = 0; long = 0; reads = false; key = [] }

abbrev entry : (length links first : ℕ) → Cell
entry n links first = record { child = 0; row = 0; length = n; links = links; first = first; long = 0; reads = true; key = [] }

abbrev inner_entry : (child length links first : ℕ) → Cell
inner_entry c n links first = record { child = c; row = 0; length = n; links = links; first = first; long = 0; reads = true; key = [] }

-- the header's fields, and a trunk's room: of these images the third has U 480, the others 512
pub headers : ((file_of tables).N ≡ 12)
    × ((file_of tables).free_head ≡ 10)
    × ((file_of tables).free_total ≡ 4)
    × ((file_of tables).trunk_room ≡ 126)
    × ((file_of indexes).N ≡ 10)
    × ((file_of indexes).free_head ≡ 0)
    × ((file_of indexes).free_total ≡ 0)
    × ((file_of schemas).N ≡ 6)
    × ((file_of schemas).trunk_room ≡ 118)
    × ((file_of levels).N ≡ 41)
unfolding tables indexes schemas levels file_of pages_of present_of counted size_of size_for usable_of be
headers = (refl, refl, refl, refl, refl, refl, refl, refl, refl, refl)

-- the freelist: one trunk; then two, where page 10 names page 4 as the next
pub trunks : ((file_of tables).trunk_next 10 ≡ 0)
    × ((file_of tables).trunk_count 10 ≡ 3)
    × (map ((file_of tables).trunk_leaf 10) (0 ∷ 1 ∷ 2 ∷ []) ≡ 11 ∷ 12 ∷ 4 ∷ [])
    × ((file_of (patched tables 10 3 (4 ∷ 0 ∷ 0 ∷ 0 ∷ 2 ∷ []))).trunk_next 10 ≡ 4)
    × ((file_of (patched tables 10 3 (4 ∷ 0 ∷ 0 ∷ 0 ∷ 2 ∷ []))).trunk_count 10 ≡ 2)
unfolding tables laid patched file_of size_of size_for page_of be
trunks = (refl, refl, refl, refl, refl)

-- types, counts and right pointers; on the third image of page 1 too
pub pages : (map (file_of tables).type (1 ∷ 2 ∷ 3 ∷ 5 ∷ 6 ∷ 7 ∷ []) ≡ 13 ∷ 5 ∷ 13 ∷ 13 ∷ 13 ∷ 13 ∷ [])
    × (map (file_of tables).count (1 ∷ 2 ∷ 3 ∷ 5 ∷ 6 ∷ 7 ∷ []) ≡ 3 ∷ 2 ∷ 3 ∷ 2 ∷ 2 ∷ 2 ∷ [])
    × (map (file_of indexes).type (1 ∷ 2 ∷ 3 ∷ 4 ∷ 5 ∷ 6 ∷ 8 ∷ []) ≡ 13 ∷ 2 ∷ 13 ∷ 10 ∷ 10 ∷ 10 ∷ 10 ∷ [])
    × (map (file_of indexes).count (1 ∷ 2 ∷ 3 ∷ 4 ∷ 5 ∷ 6 ∷ 8 ∷ []) ≡ 3 ∷ 2 ∷ 3 ∷ 3 ∷ 5 ∷ 3 ∷ 4 ∷ [])
    × (map (file_of schemas).type (1 ∷ 2 ∷ 3 ∷ 4 ∷ 5 ∷ 6 ∷ []) ≡ 5 ∷ 13 ∷ 13 ∷ 13 ∷ 10 ∷ 13 ∷ [])
    × (map (file_of schemas).count (1 ∷ 2 ∷ 3 ∷ 4 ∷ 5 ∷ 6 ∷ []) ≡ 1 ∷ 0 ∷ 1 ∷ 3 ∷ 1 ∷ 2 ∷ [])
    × (map (file_of levels).type (1 ∷ 2 ∷ 3 ∷ 38 ∷ 39 ∷ 41 ∷ []) ≡ 13 ∷ 5 ∷ 13 ∷ 5 ∷ 5 ∷ 13 ∷ [])
    × (map (file_of levels).count (1 ∷ 2 ∷ 3 ∷ 38 ∷ 39 ∷ 41 ∷ []) ≡ 1 ∷ 1 ∷ 1 ∷ 17 ∷ 18 ∷ 2 ∷ [])
    × ((file_of tables).right 2 ≡ 7)
    × ((file_of indexes).right 2 ≡ 8)
    × ((file_of schemas).right 1 ≡ 6)
    × (map (file_of levels).right (2 ∷ 38 ∷ 39 ∷ []) ≡ 39 ∷ 20 ∷ 41 ∷ [])
unfolding tables indexes schemas levels file_of size_of size_for page_of be
pages = (refl, refl, refl, refl, refl, refl, refl, refl, refl, refl, refl, refl)

-- every tree page is sound: among them are a page with a freeblock and fragments and pages with reserved bytes. With other fragments it is not
pub soundness : (map (file_of tables).broken (1 ∷ 2 ∷ 3 ∷ 5 ∷ 6 ∷ 7 ∷ []) ≡ replicate 6 0)
    × (map (file_of indexes).broken (1 ∷ 2 ∷ 3 ∷ 4 ∷ 5 ∷ 6 ∷ 8 ∷ []) ≡ replicate 7 0)
    × (map (file_of schemas).broken (1 ∷ 2 ∷ 3 ∷ 4 ∷ 5 ∷ 6 ∷ []) ≡ replicate 6 0)
    × ((file_of (patched tables 3 7 (1 ∷ []))).broken 3 ≡ 23)
    × ((file_of (patched tables 3 148 (132 ∷ 128 ∷ 1 ∷ []))).broken 3 ≡ 26)
unfolding tables indexes schemas laid patched file_of size_of size_for usable_of page_of be cell_fault cells_fault sound_fault So.cell_spans So.holds So.cover
    So.zeros So.freeblocks So.freeblocksb So.all_withinb So.onceb So.soundb varint_at word_from local_size chain_length body_cell payload_cell cell_at
soundness = (refl, refl, refl, refl, refl)

-- all cells of some pages of each type, in pointer order
pub cells : (map keyless (cells_of (file_of tables) 2) ≡ key 5 (pos 1) ∷ key 6 (pos 5) ∷ [])
    × (map keyless (cells_of (file_of tables) 3) ≡ row (pos 1) 1373 2 8 ∷ row (pos 4) 6 0 0 ∷ row (pos 5) 10 0 0 ∷ [])
    × (map keyless (cells_of (file_of tables) 5) ≡ row (negsuc 2) 233 0 0 ∷ row (pos 1) 233 0 0 ∷ [])
    × (map keyless (cells_of (file_of tables) 7) ≡ row (pos 7) 233 0 0 ∷ row (pos 300) 103 0 0 ∷ [])
    × (map keyless (cells_of (file_of indexes) 2) ≡ inner_entry 5 93 0 0 ∷ inner_entry 6 565 1 7 ∷ [])
    × (map keyless (cells_of (file_of indexes) 4) ≡ entry 4 0 0 ∷ entry 5 0 0 ∷ entry 4 0 0 ∷ [])
    × (map keyless (cells_of (file_of indexes) 8) ≡ entry 93 0 0 ∷ entry 93 0 0 ∷ entry 93 0 0 ∷ entry 705 2 9 ∷ [])
    × (map keyless (cells_of (file_of schemas) 1) ≡ key 4 (pos 3) ∷ [])
    × (map keyless (cells_of (file_of schemas) 4) ≡ row (pos 1) 31 0 0 ∷ row (pos 2) 129 0 0 ∷ row (pos 3) 111 0 0 ∷ [])
    × (map keyless (cells_of (file_of levels) 2) ≡ key 38 (negsuc 22) ∷ [])
    × (map keyless (cells_of (file_of levels) 41) ≡ row (negsuc 3) 458 0 0 ∷ row (pos 5) 7 0 0 ∷ [])
unfolding tables indexes schemas levels file_of size_of size_for usable_of page_of be cells_of cells_from cell_in chain_bytes reads_of types_of types_from sizes
    Se.refused Se.size_of varint_at word_from size_from local_size chain_length body_cell payload_cell cell_at
cells = (refl, refl, refl, refl, refl, refl, refl, refl, refl, refl, refl)

-- records: another header length, a text of one byte more, type 10 and an integer of 6 bytes do not read, a
-- blob for the text does; the same over a chain, on a leaf and on an index interior page
pub records : (((file_of (patched tables 3 121 (3 ∷ []))).cell 3 1).reads ≡ false)
    × (((file_of (patched tables 3 122 (23 ∷ []))).cell 3 1).reads ≡ false)
    × (((file_of (patched tables 3 122 (10 ∷ []))).cell 3 1).reads ≡ false)
    × (((file_of (patched tables 3 122 (5 ∷ []))).cell 3 1).reads ≡ false)
    × (((file_of (patched tables 3 122 (20 ∷ []))).cell 3 1).reads ≡ true)
    × (((file_of (patched tables 3 151 (2 ∷ []))).cell 3 0).reads ≡ false)
    × (((file_of (patched tables 3 153 (67 ∷ []))).cell 3 0).reads ≡ false)
    × (((file_of (patched indexes 2 353 (3 ∷ []))).cell 2 1).reads ≡ false)
    × (((file_of (patched indexes 2 356 (111 ∷ []))).cell 2 1).reads ≡ false)
    × (((file_of (patched indexes 2 356 (108 ∷ []))).cell 2 1).reads ≡ true)
unfolding tables indexes laid patched file_of size_of size_for usable_of page_of be cell_in chain_bytes reads_of types_of types_from sizes Se.refused Se.size_of
    varint_at word_from local_size chain_length body_cell payload_cell cell_at
records = (refl, refl, refl, refl, refl, refl, refl, refl, refl, refl)

-- overflow pages and the payloads through them: a text of 470, 600 and 300 letters; a number with 560 letters, of an interior page; one with 500 and 200
pub chains : (map (file_of tables).next (8 ∷ 9 ∷ []) ≡ 9 ∷ 0 ∷ [])
    × (map (file_of indexes).next (7 ∷ 9 ∷ 10 ∷ []) ≡ 0 ∷ 10 ∷ 0 ∷ [])
    × (payload_of tables 3 0 ≡ 3 ∷ 149 ∷ 65 ∷ replicate 470 97 ++ replicate 600 98 ++ replicate 300 99)
    × (payload_of indexes 2 1 ≡ 4 ∷ 1 ∷ 136 ∷ 109 ∷ 10 ∷ replicate 560 109)
    × (payload_of indexes 8 3 ≡ 4 ∷ 1 ∷ 139 ∷ 5 ∷ 14 ∷ replicate 500 110 ++ replicate 200 111)
unfolding tables indexes file_of size_of size_for usable_of page_of be payload_of chain_bytes cell_in varint_at word_from local_size chain_length body_cell
    payload_cell cell_at
chains = (refl, refl, refl, refl, refl)

-- column four: roots, a trigger and views; null; a text. With H 5 the record does not read
pub columns : (map ((file_of tables).column4 1) (0 ∷ 1 ∷ 2 ∷ []) ≡ integer (pos 2) ∷ integer (pos 3) ∷ integer (pos 0) ∷ [])
    × (map ((file_of indexes).column4 1) (0 ∷ 1 ∷ 2 ∷ []) ≡ integer (pos 2) ∷ integer (pos 3) ∷ integer (pos 4) ∷ [])
    × (map ((file_of schemas).column4 4) (0 ∷ 1 ∷ 2 ∷ []) ≡ integer (pos 2) ∷ integer (pos 0) ∷ integer (pos 0) ∷ [])
    × (map ((file_of schemas).column4 6) (0 ∷ 1 ∷ []) ≡ integer (pos 3) ∷ integer (pos 5) ∷ [])
    × ((file_of (patched tables 1 380 (0 ∷ []))).column4 1 2 ≡ null)
    × ((file_of (patched tables 1 485 (15 ∷ []))).column4 1 0 ≡ unfit)
    × ((file_of (patched tables 1 376 (5 ∷ []))).column4 1 2 ≡ unfit)
unfolding tables indexes schemas laid patched file_of size_of size_for usable_of page_of be payload_of chain_bytes column4_of columns_of column_at types_of
    types_from sizes Se.refused Se.size_of Se.real_of Se.value_of cell_in varint_at word_from local_size chain_length body_cell payload_cell cell_at
columns = (refl, refl, refl, refl, refl, refl, refl)

-- pointer maps: with U 1024 they are the pages 2, 207 and 412; the last entry of the first is about page 206, the first of the second about page 208
pub maps : (map (past_map 1024 1024) (2 ∷ 3 ∷ 206 ∷ 207 ∷ 208 ∷ 411 ∷ 412 ∷ 413 ∷ []) ≡ 0 ∷ 1 ∷ 204 ∷ 0 ∷ 1 ∷ 204 ∷ 0 ∷ 1 ∷ [])
    × (map (map_of 1024 1024) (3 ∷ 206 ∷ 208 ∷ 411 ∷ 413 ∷ []) ≡ 2 ∷ 2 ∷ 207 ∷ 207 ∷ 412 ∷ [])
    × (map (entry_of 1024 1024) (3 ∷ 4 ∷ 206 ∷ 208 ∷ 411 ∷ 413 ∷ []) ≡ 0 ∷ 5 ∷ 1015 ∷ 0 ∷ 1015 ∷ 0 ∷ [])
unfolding past_place past_map lock_page
maps = (refl, refl, refl)

-- the lock-byte page at both ends of the page sizes
pub locks : (lock_page 512 ≡ 2097153) × (lock_page 1024 ≡ 1048577) × (lock_page 65536 ≡ 16385)
unfolding lock_page
locks = (refl, refl, refl)

-- with U 1024 a map would be page 1048577, the lock-byte page: it is the next one, its first entry is about the page after that, its last but one
-- about page 1048781; the next map is page 1048782, where it would be. With U 1000 no map falls there, and page 1048577 would have an entry
pub moved : (map (past_map 1024 1024) (1048576 ∷ 1048578 ∷ 1048579 ∷ 1048781 ∷ 1048782 ∷ 1048783 ∷ []) ≡ 204 ∷ 0 ∷ 1 ∷ 203 ∷ 0 ∷ 1 ∷ [])
    × (map (map_of 1024 1024) (1048576 ∷ 1048579 ∷ 1048781 ∷ 1048783 ∷ []) ≡ 1048372 ∷ 1048578 ∷ 1048578 ∷ 1048782 ∷ [])
    × (map (entry_of 1024 1024) (1048576 ∷ 1048579 ∷ 1048781 ∷ 1048783 ∷ []) ≡ 1015 ∷ 0 ∷ 1010 ∷ 0 ∷ [])
    × (map (past_map 1024 1000) (1048576 ∷ 1048577 ∷ 1048578 ∷ []) ≡ 158 ∷ 159 ∷ 160 ∷ [])
unfolding past_place past_map lock_page
moved = (refl, refl, refl, refl)

-- what page 2 says of the pages from 3 on; without a number at 52 no page has its kind by its place
pub entries : ((file_of vacuums).vacuum ≡ 4)
    × (map (file_of vacuums).fixed (1 ∷ 2 ∷ 3 ∷ 11 ∷ 104 ∷ 105 ∷ []) ≡ 0 ∷ 1 ∷ 0 ∷ 0 ∷ 0 ∷ 1 ∷ [])
    × (map (file_of vacuums).entry_type (3 ∷ 4 ∷ 5 ∷ 6 ∷ 7 ∷ 8 ∷ 9 ∷ 10 ∷ 11 ∷ []) ≡ 1 ∷ 1 ∷ 2 ∷ 5 ∷ 5 ∷ 3 ∷ 4 ∷ 2 ∷ 2 ∷ [])
    × (map (file_of vacuums).entry_number (3 ∷ 4 ∷ 5 ∷ 6 ∷ 7 ∷ 8 ∷ 9 ∷ 10 ∷ 11 ∷ []) ≡ 0 ∷ 0 ∷ 0 ∷ 3 ∷ 3 ∷ 4 ∷ 8 ∷ 0 ∷ 0 ∷ [])
    × ((file_of tables).vacuum ≡ 0)
    × (map (file_of tables).fixed (1 ∷ 2 ∷ 3 ∷ 12 ∷ []) ≡ replicate 4 0)
unfolding tables vacuums file_of size_of size_for usable_of page_of be lock_page past_place past_map fixed_in
entries = (refl, refl, refl, refl, refl, refl)
