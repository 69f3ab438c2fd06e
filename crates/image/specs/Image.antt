-- The file that the bytes of an image say: where each thing stands in them.
use Rattle.std.specs.Prelude.{ℕ, List}
use Rattle.header.specs.Header.{usable_of, pages_of}
use Rattle.page.specs.Header.{page_type, cell_count}
use Rattle.page.specs.Fault.{sound_fault}
use Rattle.cell.specs.declared.Cell as D
use Rattle.dealing.specs.File as F
use Rattle.cell.specs.Cell.{cell_links}
use Rattle.record.specs.Record.{reads_of}
use Rattle.compare.specs.Values.{values_of, list_of}
use Rattle.image.specs.Pages.{page_in, head_of, cell_in, right_in, free_head_in, free_total_in, trunk_next_in, trunk_count_in, trunk_leaf_in, trunk_room_in}
use Rattle.image.specs.Payload.{next_in, cell_bytes, payload_of}
use Rattle.image.specs.Schema.{column4_of}
use Rattle.image.specs.Maps.{vacuum_in, fixed_in, entry_type_in, entry_number_in}

-- a cell of page p, as a file has it; its payload is read as a record
abbrev pub file_cell : List ℕ → (p : ℕ) → D.Cell → F.Cell
file_cell b p c =
    record {
      child = c.child;
      row = c.row;
      length = c.payload;
      links = cell_links (usable_of b) c;
      first = c.first;
      long = c.long;
      reads = reads_of (cell_bytes b p c);
      key = list_of (values_of (cell_bytes b p c));
    }

unfoldable pub file_of : List ℕ → F.File
file_of b =
    record {
      N = pages_of b;
      free_head = free_head_in b;
      free_total = free_total_in b;
      type = λ p. page_type (page_in b p) (head_of p);
      broken = λ p. sound_fault (page_in b p) (usable_of b) (head_of p);
      count = λ p. cell_count (page_in b p) (head_of p);
      cell = λ p i. file_cell b p (cell_in b p i);
      column4 = λ p i. column4_of (payload_of b p i);
      right = λ p. right_in b p;
      next = λ p. next_in b p;
      trunk_next = λ p. trunk_next_in b p;
      trunk_count = λ p. trunk_count_in b p;
      trunk_leaf = λ p j. trunk_leaf_in b p j;
      trunk_room = trunk_room_in b;
      fixed = λ p. fixed_in b p;
      vacuum = vacuum_in b;
      entry_type = λ p. entry_type_in b p;
      entry_number = λ p. entry_number_in b p;
    }
