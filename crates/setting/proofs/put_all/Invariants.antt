use lib.ListN.{length}
use Rattle.setting.specs.Laying.{new_cell, cells_anew, stack_laid}
use Rattle.setting.proofs.LayLaws as W
use Rattle.setting.proofs.put_all.Given as goal

abbrev pub invariant-loop-k : goal.invariant-loop-k
invariant-loop-k l = W.StackLeft (stack_laid l.initial.out 8 l.u (cells_anew l.p l.u l.cell l.row l.fresh)) (length l.initial.out) l.p l.u l.cell (new_cell l.u l.row l.fresh) l.count l.out l.k l.top
