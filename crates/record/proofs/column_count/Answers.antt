use mathlib.Core.Path.{sym, ap, ◌∙◌}
use Rattle.record.proofs.ColumnLaws.{counted, counted-is}
use Rattle.record.proofs.column_count.Goals as goal

pub returns-in_err-scan : goal.returns-in_err-scan
returns-in_err-scan c = c.from_residual.ensures ∙ ap counted (sym c.in_err-scan.was ∙ c.scan.ensures) ∙ counted-is _ 0

pub returns : goal.returns
returns c = ap counted (sym c.in_ok-scan.was ∙ c.scan.ensures) ∙ counted-is _ 0
