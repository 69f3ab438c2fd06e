use Rattle.std.proofs.Common.{rules}
use Rattle.wal.proofs.SumLaws.{four-summed}
use Rattle.appending.proofs.LaidLaws.{page-next, page-done}
use Rattle.appending.proofs.page_sums.Goals as goal

pub loop-i-preserved : goal.loop-i-preserved
loop-i-preserved c =
    let sums = four-summed _ _ _ _ _ _ _ _ _ _ _ c.over-p.ensures c.over-q.ensures c.over-r.ensures _ c.over-sums.ensures in
    page-next _ _ _ _ _ _ _ _ _ c.loop-i.invariant 4 _ _ (search rules) (search rules) c.loop-i-test.true sums

pub loop-k-preserved : goal.loop-k-preserved
loop-k-preserved c = page-next _ _ _ _ _ _ _ _ _ c.loop-k.invariant 1 _ _ (search rules) (search rules) (search rules) c.over-sums-in-loop-k.ensures

pub returns : goal.returns
returns c = page-done _ _ _ _ _ _ _ _ _ _ _ c.loop-i.invariant c.loop-k.invariant c.loop-k-test.false
