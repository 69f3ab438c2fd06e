-- What it takes to compute an answer about an image that is given byte for byte. Each of these is a name alone: to unfold it is to unfold
-- all that its line names, so that an example says `unfolding compute.verdicts` and no more.
use Prim.Native.Nat.{ℕ}
use Rattle.number.specs.Bytes.{be}
use Rattle.number.specs.Varint.{varint_at, word_from, size_from}
use Rattle.header.specs.Header as H
use Rattle.record.specs.Serial as S
use Rattle.record.specs.Record.{types_from, sizes, types_of, reads_of, columns_of, column_at}
use Rattle.compare.specs.Values.{values_of, values_from}
use Rattle.order.specs.Order.{of_lists, unit}
use Rattle.cell.specs.Split.{local_size, chain_length}
use Rattle.cell.specs.Cell.{body_cell, payload_cell, cell_at}
use Rattle.page.specs.Place.{allowed}
use Rattle.page.specs.Sound.{cell_spans, holds, cover, zeros, freeblocks, freeblocksb, all_withinb, onceb, soundb}
use Rattle.page.specs.Fault.{cell_fault, cells_fault, sound_fault, page_fault}
use Rattle.dealing.specs.File.{is_leaf, is_table, cells_from, cells_of, suits}
use Rattle.dealing.specs.Spelling.{long_cells, long_on, long_to}
use Rattle.dealing.specs.Walk.{run, step, and_then, events, free_events, free_count, trunk_events, trunk_leaves, root_events, schema_roots}
use Rattle.dealing.specs.Walk.{over_children, leaf_roots}
use Rattle.dealing.specs.Walk.{page_events, inner_events, inner_cell, leaf_events, leaf_cell, payload_events, chain_of, chain_events, first_zero, fault_in}
use Rattle.dealing.specs.Walk.{verdict_for, is_named, is_index_root, name_checks, finish, final, settle, kinds_to, agrees, entry_checks, largest_root}
use Rattle.dealing.specs.Lookup.{child_for, cell_for, lookup_page, lookup, follow, follow_cell}
use Rattle.paging.specs.Pages.{lock_page}
use Rattle.image.specs.Pages.{cell_in}
use Rattle.image.specs.Payload.{chain_bytes, payload_of}
use Rattle.image.specs.Schema.{column4_of}
use Rattle.image.specs.Maps.{past_place, past_map, fixed_in}
use Rattle.image.specs.Image.{file_of}
use Rattle.names.specs.Names.{bad34}
use Rattle.verdict.specs.Verdict.{verdict_is, begins, kinds_at, namers_at}
use Rattle.lookup.specs.Answers.{lookup_of, cell_fetched, page_fetched, fetched_of}

-- the header, and how many pages there are
unfoldable pub headers : ℕ
unfolding be H.header_refusal H.form_refusal H.field_refusal H.holds H.pages_of H.present_of H.counted H.size_of H.size_for H.usable_of
headers = 0

unfoldable pub cells : ℕ
unfolding varint_at word_from size_from local_size chain_length body_cell payload_cell cell_at
cells = 0

-- whether a page is sound
unfoldable pub faults : ℕ
unfolding cell_fault cells_fault sound_fault page_fault cell_spans holds cover zeros freeblocks freeblocksb all_withinb onceb soundb
faults = 0

-- the pages of a file and their cells
unfoldable pub pages : ℕ
unfolding headers cells faults H.page_of file_of cell_in is_leaf is_table cells_from cells_of suits fault_in
pages = 0

unfoldable pub lookups : ℕ
unfolding pages lookup_of lookup lookup_page child_for cell_for
lookups = 0

unfoldable pub payloads : ℕ
unfolding pages payload_of chain_bytes fetched_of page_fetched cell_fetched follow follow_cell allowed
payloads = 0

unfoldable pub columns : ℕ
unfolding cells column_at types_of types_from sizes S.refused S.size_of S.real_of S.value_of
columns = 0

unfoldable pub records : ℕ
unfolding columns reads_of columns_of column4_of
records = 0

-- the walk over a file
unfoldable pub walks : ℕ
unfolding run step and_then events free_events free_count trunk_events trunk_leaves root_events schema_roots over_children leaf_roots
walks = 0

-- the walk over a tree
unfoldable pub trees : ℕ
unfolding page_events inner_events inner_cell leaf_events leaf_cell payload_events chain_of chain_events first_zero
trees = 0

-- the checks after the walk: of pointer maps, and of the roots named by the caller
unfoldable pub endings : ℕ
unfolding is_named name_checks finish final settle kinds_to lock_page fixed_in agrees entry_checks largest_root past_place past_map
endings = 0

unfoldable pub verdicts : ℕ
unfolding payloads records walks trees endings verdict_for verdict_is bad34 begins kinds_at namers_at long_to long_on long_cells
verdicts = 0

-- the order of keys, which a verdict asks for if roots are named
unfoldable pub orders : ℕ
unfolding values_of values_from of_lists unit is_index_root
orders = 0
