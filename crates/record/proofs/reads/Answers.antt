use mathlib.Core.Path.{◌∙◌, ap}
use Rattle.std.specs.Prelude.{is_some}
use Rattle.record.proofs.ColumnLaws.{reads-is}
use Rattle.record.proofs.reads.Goals as goal

pub returns : goal.returns
returns c = c.is_some.ensures ∙ ap is_some c.column_count.ensures ∙ reads-is _
