-- What a row gives: its payload is fetched into a lent room, over what that held, and the column asked for is read from it.
use Rattle.std.specs.Prelude.{ℕ, List, length}
use Rattle.record.specs.Record.{column_at}
use Rattle.record.specs.declared.Column as Col
use Rattle.std.specs.Prelude.{Result, Ok, Err}
use Rattle.record.specs.declared.NoValue.{NoValue}
use Rattle.record.specs.declared.NoValue.TheVariants.{DoesNotRead, Missing}
use Rattle.image.specs.Payload.{payload_of}
use Rattle.lookup.specs.Answers.{fetched_of, out_of}
use Rattle.lookup.specs.Fetched as Fe
use Rattle.report.specs.Level as Le

-- all that is no real is passed over: nulls, and so NaNs, integers, texts and blobs
abbrev pub column_level : Col.Column → Le.Level
column_level Col.TheVariants.Null = Le.Passed
column_level (Col.TheVariants.Int v) = Le.Passed
column_level (Col.TheVariants.Real x) = Le.Real x
column_level (Col.TheVariants.Text place length) = Le.Passed
column_level (Col.TheVariants.Blob place length) = Le.Passed

-- a record that does not read is 28 with its page; column 0 and one past the last are passed over
abbrev pub value_level : (page : ℕ) → Result Col.Column NoValue → Le.Level
value_level p (Err DoesNotRead) = Le.Refused 28 p
value_level p (Err Missing) = Le.Passed
value_level p (Ok c) = column_level c

-- what the payload's fetch refuses comes first
abbrev pub if_fetched : Fe.Fetched → Le.Level → Le.Level
if_fetched (Fe.Copied n) l = l
if_fetched (Fe.Refused number page) l = Le.Refused number page

unfoldable pub level_of : List ℕ → (column page cell room : ℕ) → Le.Level
level_of b column p i room = if_fetched (fetched_of b p i room) (value_level p (column_at (payload_of b p i) column))

-- the room then: the payload laid over what it held; unchanged where the fetch refuses
unfoldable pub laid_over : List ℕ → (page cell : ℕ) → (room : List ℕ) → List ℕ
laid_over b p i room = out_of (fetched_of b p i (length room)) (payload_of b p i) room
