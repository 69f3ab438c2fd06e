use Rattle.super_journal.proofs.Sums.{sum_starts, sum_on, sum_ends}
use Rattle.super_journal.proofs.name_sum.Goals as goal

pub loop-byte-init : goal.loop-byte-init
loop-byte-init c = sum_starts _

pub loop-byte-preserved : goal.loop-byte-preserved
loop-byte-preserved c = sum_on _ _ _ _ c.loop-byte.invariant c.loop-byte-test.true c.signed_byte-sum.ensures

pub returns : goal.returns
returns c = sum_ends _ _ _ c.loop-byte.invariant c.loop-byte-test.false
