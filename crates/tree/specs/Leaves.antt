-- A leaf's cell after its row number: payload, then order or schema row.
use Rattle.std.specs.Prelude.{ℕ, zero, suc, ◌+◌, List, [], ◌++◌}
use Rattle.dealing.specs.File.{File, is_table}
use Rattle.dealing.specs.Walk.{Mode, is_schema, is_ordered, Event, payload_events, entry_of, schema_row}

unfoldable pub leaf_last : File → Mode → (p i : ℕ) → List Event
leaf_last f mode p i = entry_of (is_ordered mode) (is_table f p) p (f.cell p i) ++ schema_row f.N (is_schema mode) (f.column4 p i) p

unfoldable pub leaf_rest : File → Mode → (p i : ℕ) → List Event
leaf_rest f mode p i = payload_events f p (f.cell p i) ++ leaf_last f mode p i

-- the payloads of k cells from the ith on, one after the other
unfoldable pub payloads_in : File → (p i k : ℕ) → List Event
payloads_in f p i zero = []
payloads_in f p i (suc k) = payload_events f p (f.cell p i) ++ payloads_in f p (i + 1) k
