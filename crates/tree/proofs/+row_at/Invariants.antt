-- The room that is lent falls.
use lib.ListN.{length}
use Rattle.tree.proofs.+row_at.Given as goal

abbrev pub decreases-row_at : goal.decreases-row_at
decreases-row_at l = length l.work.now
