use Rattle.journal_summary.proofs.StopLaws.{layable-is}
use Rattle.journal_summary.proofs.layable.Goals as goal

pub returns : goal.returns
returns c = layable-is _ _ _ c.from.ensures
