use Rattle.wal.proofs.SumLaws.{three-summed}
use Rattle.wal.proofs.header_sums.Goals as goal

pub returns : goal.returns
returns c = three-summed _ _ 0 _ _ _ _ _ _ _ _ c.over-p.ensures c.over-q.ensures c.over.ensures
