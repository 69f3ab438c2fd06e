use lib.ListN.{length}
use Rattle.paging.specs.Pages.{over}
use Rattle.writing.specs.Pages.{joined}
use Rattle.filling.specs.Fill.{chains_from}
use Rattle.filling.proofs.Loops.{ChainsLeft}
use Rattle.filling.proofs.put_chains.Given as goal

abbrev pub invariant-loop-length : goal.invariant-loop-length
invariant-loop-length l =
    ChainsLeft l.lengths l.payloads (length l.initial.out) (over l.initial.out l.at (joined (chains_from l.lengths l.payloads (length l.lengths) 0 0 l.t))) l.out l.place l.length-index l.off l.next
