use mathlib.Core.Path.{sym, ◌∙◌}
use native.Mathlib.Omega.{arith}
use Rattle.image.specs.Image.{file_of}
use Rattle.tree.proofs.Turns.{child-cell, child-right}
use Rattle.tree.proofs.child_at.Goals as goal

pub returns-then-i-cells : goal.returns-then-i-cells
returns-then-i-cells c =
    let a = c.args in c.child_of.ensures ∙ sym (child-cell (file_of a.image.now) a.p a.cells a.right a.i (omega arith))

pub returns-else-i-cells : goal.returns-else-i-cells
returns-else-i-cells c = let a = c.args in sym (child-right (file_of a.image.now) a.p a.cells a.right a.i (omega arith))
