use lib.ListN.{length}
use Rattle.cells.proofs.+copied_reads.Given as goal

-- the room that is lent
abbrev pub decreases-copied_reads : goal.decreases-copied_reads
decreases-copied_reads l = length l.work.now
