use Rattle.std.proofs.Common.{ap, ◌∙◌}
use Rattle.report.specs.Summary.{told_of}
use Rattle.report.proofs.Laws.{totals-are}
use Rattle.report.proofs.finished.Goals as goal

pub returns : goal.returns
returns c =
    totals-are c.unwrap_or-all.result c.real_sum.result c.real_sum.ensures.told c.real_sum.ensures.nan ∙ ap told_of c.unwrap_or-all.ensures
