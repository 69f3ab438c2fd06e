use Rattle.image.specs.Image.{file_of}
use Rattle.spelling.proofs.Laws.{Over}
use Rattle.spelling.proofs.count_long.Given as goal

abbrev pub invariant-loop-i : goal.invariant-loop-i
invariant-loop-i l = Over (file_of l.image) l.kinds l.i l.total
