use mathlib.Core.Path.{sym}
use native.Mathlib.Omega.{arith}
use Rattle.cell.proofs.CellSpelled.{quick-one, quick-two}
use Rattle.spelling.proofs.Laws.{inside}
use Rattle.spelling.proofs.leaf_long.Goals as goal

pub bounds-p-at : goal.bounds-p-at
bounds-p-at c = omega (arith, inside c.requires.0)

pub overflow_add-y : goal.overflow_add-y
overflow_add-y c = omega (arith, inside c.requires.0)

pub bounds-p-at-2 : goal.bounds-p-at-2
bounds-p-at-2 c = omega (arith, inside c.requires.0)

pub returns-then-y : goal.returns-then-y
returns-then-y c = sym (quick-one _ _ _ _ c.requires.0.reads c.requires.1 c.if-x-lt128.true c.if-y.true)

pub bounds-p-at-then-y-lt128 : goal.bounds-p-at-then-y-lt128
bounds-p-at-then-y-lt128 c = omega (arith, inside c.requires.0)

pub returns-then-p-at : goal.returns-then-p-at
returns-then-p-at c =
    sym (quick-two _ _ _ _ c.requires.0.reads c.requires.1 c.if-x-gt128.true c.if-y-lt128.true c.if-p-at.true)
