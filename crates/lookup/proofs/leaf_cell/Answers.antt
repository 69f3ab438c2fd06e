use mathlib.Core.Path.{sym, ap, ◌∙◌}
use native.Mathlib.Omega.{arith}
use Rattle.image.specs.Image.{file_of}
use Rattle.dealing.specs.Lookup.{cell_for}
use Rattle.dealing.proofs.WalkLaws.{rest_all}
use Rattle.dealing.proofs.LookupLaws.{cell-end}
use Rattle.lookup.specs.Answers.{found_of}
use Rattle.lookup.proofs.Ways.{few-cells, length-few, cell-found, cell-passed}
use Rattle.lookup.proofs.leaf_cell.Goals as goal

pub loop-i-init : goal.loop-i-init
loop-i-init c =
    ap (cell_for c.args.row c.args.page 0)
    (rest_all (file_of c.args.image.now) c.args.page)

pub overflow_cast-result : goal.overflow_cast-result
overflow_cast-result c = omega (arith, few-cells c.requires)

pub overflow_cast-result-then-cell-row : goal.overflow_cast-result-then-cell-row
overflow_cast-result-then-cell-row c =
    omega (arith, length-few c.requires _ _ (omega arith) c.tree_cell-cell.ensures)

pub returns-then-cell-row : goal.returns-then-cell-row
returns-then-cell-row c =
    cell-found c.requires _ _ (omega arith) c.tree_cell-cell.ensures _ c.if-cell-row.true c.loop-i.invariant

pub loop-i-preserved : goal.loop-i-preserved
loop-i-preserved c =
    c.loop-i.invariant ∙ cell-passed c.requires _ _ (omega arith) c.tree_cell-cell.ensures _ c.if-cell-row.false

pub returns : goal.returns
returns c =
    sym (ap found_of (c.loop-i.invariant ∙ cell-end _ _ _ _ (omega (arith, c.requires.count_is))))
