use mathlib.Core.Path.{refl}
use native.Mathlib.Omega.{arith}
use Rattle.page.specs.declared.Place.TheVariants.{PayloadPage}
use Rattle.lookup.proofs.Ways.{Fit, fit_at, readable, page-refused, cell-past, cell-at}
use Rattle.lookup.proofs.fetch_at.Goals as goal
use Rattle.lookup.proofs.fetch_at.Goals.{In-Ok}

fit : (c : In-Ok) → Fit PayloadPage c.requires c.in-Ok.tree.kind c.in-Ok.tree.cells c.in-Ok.tree.right
fit c = fit_at PayloadPage _ _ _ _ c.in-Ok.ensures

pub returns-then-tree-i : goal.returns-then-tree-i
returns-then-tree-i c = rw c.into.ensures (cell-past _ _ _ (fit (goal.at.returns-then-tree-i c).In-Ok) (omega arith), refl)

pub tree_cell-c-requires : goal.tree_cell-c-requires
tree_cell-c-requires c =
    let w = fit (goal.at.tree_cell-c-requires c).In-Ok in
    (w.tree.at, w.tree.kind_is, w.tree.sound, omega (arith, w.tree.count_is))

pub fetch-requires : goal.fetch-requires
fetch-requires c =
    let w = fit (goal.at.fetch-requires c).In-Ok in
    readable w.tree.at w.tree.sound (omega (arith, w.tree.count_is)) c.tree_cell-c.ensures

pub returns-in-Err : goal.returns-in-Err
returns-in-Err c = (page-refused c.requires _ _ _ c.in-Err.ensures, refl)

pub returns : goal.returns
returns c =
    (cell-at _ _ _ (fit (goal.at.returns c).In-Ok) _ (omega arith) c.fetch.ensures.0, c.fetch.ensures.1)
