use Rattle.setting.proofs.LayLaws as W
use Rattle.setting.proofs.sizes.Given as goal

abbrev pub invariant-loop-k : goal.invariant-loop-k
invariant-loop-k l = W.SumLeft l.p l.u l.cell l.n l.count l.sum l.k
