use mathlib.Core.Path.{sym, ap, ◌∙◌}
use native.Mathlib.Omega.{arith}
use Rattle.image.specs.Image.{file_of}
use Rattle.dealing.specs.Lookup.{child_for}
use Rattle.dealing.proofs.WalkLaws.{rest_all}
use Rattle.dealing.proofs.LookupLaws.{child-end}
use Rattle.lookup.proofs.Ways.{child-found, child-passed}
use Rattle.lookup.proofs.child_for.Goals as goal

pub loop-i-init : goal.loop-i-init
loop-i-init c =
    ap (child_for c.args.row ((file_of c.args.image.now).right c.args.page))
    (rest_all (file_of c.args.image.now) c.args.page)

pub returns-then-row-cell : goal.returns-then-row-cell
returns-then-row-cell c =
    sym (c.loop-i.invariant ∙ child-found c.requires.0 _ _ (omega arith) c.tree_cell-cell.ensures _ c.if-row-cell.true)

pub loop-i-preserved : goal.loop-i-preserved
loop-i-preserved c =
    c.loop-i.invariant ∙ child-passed c.requires.0 _ _ (omega arith) c.tree_cell-cell.ensures _ c.if-row-cell.false

pub returns : goal.returns
returns c =
    c.requires.1 ∙ sym (c.loop-i.invariant ∙ child-end (file_of c.args.image.now) _ _ _ (omega (arith, c.requires.0.count_is)))
