use Prim.Native.Nat.{ℕ}
use mathlib.Core.Path.{sym, ◌∙◌}
use Rattle.page.specs.declared.Place.TheVariants.{TablePage}
use Rattle.lookup.proofs.Ways.{Fit, fit_at, found-deep, found-refused, leaf-found, inner-tree, child-lost, child-down}
use Rattle.lookup.proofs.+descend.Goals as goal
use Rattle.lookup.proofs.+descend.Goals.{In-Ok}

-- the page was found fit
fit : (t : ℕ) (c : In-Ok t) → Fit TablePage c.requires.0 c.in-Ok.tree.kind c.in-Ok.tree.cells c.in-Ok.tree.right
fit t c = fit_at TablePage _ _ _ _ c.in-Ok.ensures

pub returns-then-levels-eq0 : goal.returns-then-levels-eq0
returns-then-levels-eq0 t c = found-deep c.requires.0 _ _ c.if-levels-eq0.true

pub leaf_cell-requires : goal.leaf_cell-requires
leaf_cell-requires t c = rw (← c.if-tree-eq13.true) (fit t (goal.at.leaf_cell-requires t c).In-Ok).tree

pub returns-then-tree-eq13 : goal.returns-then-tree-eq13
returns-then-tree-eq13 t c =
    leaf-found _ _ _ c.if-levels-eq0.false (fit t (goal.at.returns-then-tree-eq13 t c).In-Ok) _ c.if-tree-eq13.true c.leaf_cell.ensures

pub child_for-child-requires : goal.child_for-child-requires
child_for-child-requires t c =
    let w = fit t (goal.at.child_for-child-requires t c).In-Ok in
    (inner-tree _ _ c.args.row c.if-levels-eq0.false w c.if-tree-eq13.false, w.right_is)

pub returns-then-not-has_page : goal.returns-then-not-has_page
returns-then-not-has_page t c =
    child-lost _ _ _ c.if-levels-eq0.false (fit t (goal.at.returns-then-not-has_page t c).In-Ok) c.if-tree-eq13.false _
    c.child_for-child.ensures (sym c.has_page.ensures ∙ c.if-not-has_page.true)

pub returns-in-Err : goal.returns-in-Err
returns-in-Err t c = found-refused c.requires.0 _ _ c.if-levels-eq0.false _ c.in-Err.ensures

pub returns : goal.returns
returns t c =
    child-down _ _ _ c.if-levels-eq0.false (fit t (goal.at.returns t c).In-Ok) c.if-tree-eq13.false _
    c.child_for-child.ensures _ (sym c.has_page.ensures ∙ c.if-not-has_page.false) c.descend.ensures
