use native.Mathlib.Omega.{arith}
use mathlib.Core.Path.{◌∙◌}
use Rattle.image.specs.Image.{file_of}
use Rattle.lookup.proofs.Ways.{few-cells, length-few}
use Rattle.cursor.proofs.Ways.{leaf-found, leaf-passed, leaf-over, answer-end, shown-is}
use Rattle.cursor.proofs.leaf_from.Goals as goal

pub overflow_cast-i : goal.overflow_cast-i
overflow_cast-i c = omega (arith, few-cells c.requires.0)

pub overflow_cast-c : goal.overflow_cast-c
overflow_cast-c c = omega (arith, length-few c.requires.0 _ _ (omega arith) c.tree_cell-c.ensures)

pub returns-then-least-c : goal.returns-then-least-c
returns-then-least-c c =
    leaf-found c.requires.0 _ _ (omega arith) c.tree_cell-c.ensures _ _ _ c.loop-i.invariant c.if-least-c.true _
    (shown-is c.show.result c.show.ensures.row c.show.ensures.cursor)

pub loop-i-preserved : goal.loop-i-preserved
loop-i-preserved c = c.loop-i.invariant ∙ leaf-passed c.requires.0 _ _ (omega arith) c.tree_cell-c.ensures _ c.if-least-c.false

pub returns : goal.returns
returns c = answer-end (file_of c.args.image.now) c.args.above _ (c.loop-i.invariant ∙ leaf-over c.requires.0 _ _ (omega arith))
