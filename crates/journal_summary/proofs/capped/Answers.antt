use Rattle.std.proofs.Common.{◌∙◌}
use Rattle.journal_summary.proofs.TellLaws.{is_capped}
use Rattle.journal_summary.proofs.capped.Goals as goal

pub returns : goal.returns
returns c = c.min.ensures ∙ is_capped _
