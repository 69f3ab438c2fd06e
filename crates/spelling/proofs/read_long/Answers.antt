use native.Mathlib.Omega.{arith}
use Rattle.spelling.proofs.Laws.{inside}
use Rattle.spelling.proofs.read_long.Goals as goal

pub read_cell-requires : goal.read_cell-requires
read_cell-requires c = let r = c.requires in omega (arith, r.least, inside r)
