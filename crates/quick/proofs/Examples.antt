-- Quick reading of images made by sqlite3, whole and damaged, computed.
use mathlib.Core.Path.{◌≡◌, refl}
use mathlib.Core.List.{[], ◌∷◌}
use lib.IntN.{pos, negsuc}
use Rattle.number.specs.Bytes.{be}
use Rattle.number.specs.Varint.{varint_at, word_from, size_from}
use Rattle.header.specs.Header.{pages_of, present_of, counted, size_of, size_for, usable_of, header_refusal, form_refusal, field_refusal, holds, page_of}
use Rattle.cell.specs.Split.{local_size, chain_length}
use Rattle.cell.specs.Cell.{body_cell, payload_cell, cell_at}
use Rattle.page.specs.Place.{allowed}
use Rattle.page.specs.Fault.{cell_fault}
use Rattle.dealing.specs.Lookup.{follow, follow_cell}
use Rattle.image.specs.Pages.{cell_in}
use Rattle.image.specs.Image.{file_of}
use Rattle.image.proofs.RealImages.{laid, patched, tables, indexes, schemas}
use Rattle.lookup.specs.Answers.{cell_fetched}
use Rattle.lookup.specs.Found as Fo
use Rattle.lookup.specs.Fetched as Fe
use Rattle.quick.specs.Search.{row_word, row_seen, halve, cell_step, end_step, step_at, page_step}
use Rattle.quick.specs.Answers.{find_page, find_of, page_quick, quick_of}

-- rows that are there, first and last of a leaf, and rows that are not; an index page and a root that is no page
pub found : (find_of tables 2 (negsuc 2) ≡ Fo.At 5 0 233)
    × (find_of tables 2 (pos 1) ≡ Fo.At 5 1 233)
    × (find_of tables 2 (pos 5) ≡ Fo.At 6 1 233)
    × (find_of tables 2 (pos 300) ≡ Fo.At 7 1 103)
    × (find_of tables 2 (negsuc 3) ≡ Fo.Nothing)
    × (find_of tables 2 (pos 6) ≡ Fo.Nothing)
    × (find_of tables 2 (pos 301) ≡ Fo.Nothing)
    × (find_of tables 3 (pos 1) ≡ Fo.At 3 0 1373)
    × (find_of schemas 1 (pos 3) ≡ Fo.At 4 2 111)
    × (find_of indexes 2 (pos 1) ≡ Fo.Refused 22 2)
    × (find_of tables 13 (pos 1) ≡ Fo.Refused 20 0)
unfolding tables indexes schemas find_of find_page page_step step_at end_step cell_step halve row_seen row_word header_refusal form_refusal field_refusal holds pages_of present_of counted size_of size_for usable_of page_of be cell_fault varint_at word_from size_from local_size chain_length body_cell payload_cell cell_at
found = (refl, refl, refl, refl, refl, refl, refl, refl, refl, refl, refl)

-- damage: page 3's fragments (lookup refuses it with 23), its cell 0 over the limit (26 where the search ends there, else unread), its pointer 1 past the page; a child that is no page
pub damaged : (find_of (patched tables 3 7 (1 ∷ [])) 3 (pos 5) ≡ Fo.At 3 2 10)
    × (find_of (patched tables 3 148 (132 ∷ 128 ∷ 1 ∷ [])) 3 (pos 5) ≡ Fo.At 3 2 10)
    × (find_of (patched tables 3 10 (2 ∷ [])) 3 (pos 5) ≡ Fo.Refused 23 3)
    × (find_of (patched tables 2 11 (13 ∷ [])) 2 (pos 300) ≡ Fo.Refused 20 2)
unfolding tables laid patched find_of find_page page_step step_at end_step cell_step halve row_seen row_word header_refusal form_refusal field_refusal holds pages_of present_of counted size_of size_for usable_of page_of be cell_fault varint_at word_from size_from local_size chain_length body_cell payload_cell cell_at
damaged = (refl, refl, refl, refl)

pub fetched : (quick_of tables 3 0 1373 ≡ Fe.Copied 1373)
    × (quick_of indexes 2 1 65536 ≡ Fe.Copied 565)
    × (quick_of tables 3 0 1372 ≡ Fe.Refused 44 0)
    × (quick_of tables 13 0 1372 ≡ Fe.Refused 46 0)
    × (quick_of tables 3 3 1372 ≡ Fe.Refused 46 0)
    × (quick_of tables 2 0 1372 ≡ Fe.Refused 22 2)
unfolding tables indexes quick_of page_quick cell_fetched allowed follow follow_cell file_of cell_in header_refusal form_refusal field_refusal holds pages_of present_of counted size_of size_for usable_of page_of be cell_fault varint_at word_from size_from local_size chain_length body_cell payload_cell cell_at
fetched = (refl, refl, refl, refl, refl, refl)
