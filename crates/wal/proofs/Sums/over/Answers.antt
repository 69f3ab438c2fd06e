use Rattle.wal.proofs.SumLaws.{one-summed}
use Rattle.wal.proofs.Sums.over.Goals as goal

pub returns : goal.returns
returns c = one-summed _ _ _ _ _ _ _ _ _ c.word.ensures c.mix-s0.ensures c.word-2.ensures c.mix-s1.ensures
