use Rattle.journal.proofs.SumLaws.{sums}
use Rattle.journal.proofs.page_sum.Goals as goal

pub loop-offset-init : goal.loop-offset-init
loop-offset-init c = search sums

pub loop-offset-preserved : goal.loop-offset-preserved
loop-offset-preserved c = search sums
