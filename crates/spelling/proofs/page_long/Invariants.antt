use Rattle.spelling.proofs.Laws.{Counting}
use Rattle.spelling.proofs.page_long.Given as goal

abbrev pub invariant-loop-i : goal.invariant-loop-i
invariant-loop-i l = Counting l.p l.u l.head l.i l.total
