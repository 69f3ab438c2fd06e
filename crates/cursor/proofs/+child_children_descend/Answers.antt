use Prim.Native.Nat.{ℕ, ◌-◌}
use mathlib.Core.Path.{◌≡◌, refl, sym, ap, ◌∙◌}
use native.Mathlib.Omega.{arith}
use Rattle.std.proofs.lemmas.Result.{err_from_is_err_and}
use Rattle.page.specs.declared.Place.TheVariants.{TablePage}
use Rattle.image.specs.Image.{file_of}
use Rattle.lookup.proofs.Ways.{Fit, few-cells, fit_at, inner-tree}
use Rattle.cursor.specs.Answers.{answer_of, blank}
use Rattle.cursor.specs.Told.{told_row}
use Rattle.cursor.proofs.Ways.{child-lost, child-ends, child-row, child-refuses, children-over, children-on, children-row, children-stop, page-deep, page-refused, leaf-tree, page-leaf, page-next, page-row, page-stop, answer-end}
use Rattle.cursor.proofs.+child_children_descend.Goals as goal
use Rattle.cursor.proofs.+child_children_descend.Goals.{descend-In-Ok}

-- ---- child
pub child-returns-then-not-has_page : goal.child-returns-then-not-has_page
child-returns-then-not-has_page t c =
    child-lost c.requires.0 _ _ _ _ _ c.child_at-target.ensures c.requires.3 (sym c.has_page.ensures ∙ c.if-not-has_page.true)

pub child-overflow_cast-i : goal.child-overflow_cast-i
child-overflow_cast-i t c = omega (arith, few-cells c.requires.0)

pub child-returns-in_err-descend : goal.child-returns-in_err-descend
child-returns-in_err-descend t c =
    let p = err_from_is_err_and c.from_residual.result c.from_residual.ensures.1 in
    rw (p.1, p.2) (child-refuses c.requires.0 _ _ _ _ _ c.child_at-target.ensures c.requires.3 (sym c.has_page.ensures ∙ c.if-not-has_page.false)
    _ c.in_err-descend.ensures _ _ refl)

pub child-returns-in-None : goal.child-returns-in-None
child-returns-in-None t c =
    child-ends c.requires.0 _ _ _ _ _ c.child_at-target.ensures c.requires.3 (sym c.has_page.ensures ∙ c.if-not-has_page.false)
    _ (ap (told_row) (sym c.in-None.is) ∙ c.in_ok-descend.ensures) refl

pub child-returns-in-Some : goal.child-returns-in-Some
child-returns-in-Some t c =
    child-row c.requires.0 _ _ _ _ _ c.child_at-target.ensures c.requires.3 (sym c.has_page.ensures ∙ c.if-not-has_page.false)
    _ (ap (told_row) (sym c.in-Some.is) ∙ c.in_ok-descend.ensures) _ _ _ _ refl _ c.placed-cursor.ensures

-- ---- children
pub children-overflow_add-i-end : goal.children-overflow_add-i-end
children-overflow_add-i-end t c = omega (arith, few-cells c.requires.0)

pub children-returns-in_err-standing : goal.children-returns-in_err-standing
children-returns-in_err-standing t c =
    let p = err_from_is_err_and c.from_residual.result c.from_residual.ensures.1 in
    rw (p.1, p.2) (children-stop c.requires.0 _ _ _ (omega arith) _ _ c.in_err-standing.ensures _ _ refl
    ∙ ap (answer_of (file_of c.args.image.now) blank (19 - c.args.levels)) (sym c.loop-i.invariant.1))

pub children-returns-in-Some : goal.children-returns-in-Some
children-returns-in-Some t c =
    children-row c.requires.0 _ _ _ (omega arith) _ _ (ap (told_row) (sym c.in-Some.is) ∙ c.in_ok-standing.ensures) _ _ _ _ refl
    ∙ ap (answer_of (file_of c.args.image.now) blank (19 - c.args.levels)) (sym c.loop-i.invariant.1)

pub children-loop-i-preserved : goal.children-loop-i-preserved
children-loop-i-preserved t c =
    (omega arith, c.loop-i.invariant.1 ∙ children-on c.requires.0 _ _ _ (omega arith) _ _ (ap (told_row) (sym c.in_default.is) ∙ c.in_ok-standing.ensures) refl)

pub children-returns : goal.children-returns
children-returns t c =
    answer-end (file_of c.args.image.now) (19 - c.args.levels) _ (c.loop-i.invariant.1 ∙ children-over c.requires.0 _ _ _ (omega arith))

-- ---- descend
-- the page was found fit
fit : (t : ℕ) (c : descend-In-Ok t) → Fit TablePage c.requires.0 c.in-Ok.tree.kind c.in-Ok.tree.cells c.in-Ok.tree.right
fit t c = fit_at TablePage _ _ _ _ c.in-Ok.ensures

pub descend-returns-then-levels-eq0 : goal.descend-returns-then-levels-eq0
descend-returns-then-levels-eq0 t c = page-deep c.requires.0 _ _ _ c.if-levels-eq0.true

pub descend-leaf_from-requires : goal.descend-leaf_from-requires
descend-leaf_from-requires t c =
    (leaf-tree _ _ 0 0 c.if-levels-eq0.false (fit t (goal.at.descend-leaf_from-requires t c).In-Ok) c.if-tree-eq13.true, omega arith)

pub descend-returns-then-tree-eq13 : goal.descend-returns-then-tree-eq13
descend-returns-then-tree-eq13 t c =
    page-leaf _ _ _ _ c.if-levels-eq0.false (fit t (goal.at.descend-returns-then-tree-eq13 t c).In-Ok) c.if-tree-eq13.true _ c.leaf_from.ensures

pub descend-index_for-start-requires : goal.descend-index_for-start-requires
descend-index_for-start-requires t c =
    inner-tree _ _ 0 c.if-levels-eq0.false (fit t (goal.at.descend-index_for-start-requires t c).In-Ok) c.if-tree-eq13.false

pub descend-child-requires : goal.descend-child-requires
descend-child-requires t c =
    let w = fit t (goal.at.descend-child-requires t c).In-Ok in
    let inner = inner-tree _ _ 0 c.if-levels-eq0.false w c.if-tree-eq13.false in
    (omega arith, (inner, w.right_is, omega arith, omega arith, c.index_for-start.ensures.1))

pub descend-overflow_add-start : goal.descend-overflow_add-start
descend-overflow_add-start t c =
    omega (arith, few-cells (fit t (goal.at.descend-overflow_add-start t c).In-Ok).tree, c.index_for-start.ensures.1)

pub descend-children-requires : goal.descend-children-requires
descend-children-requires t c =
    let w = fit t (goal.at.descend-children-requires t c).In-Ok in
    (omega arith, (inner-tree _ _ 0 c.if-levels-eq0.false w c.if-tree-eq13.false, w.right_is, omega arith, omega arith))

pub descend-returns-in-Err : goal.descend-returns-in-Err
descend-returns-in-Err t c = page-refused c.requires.0 _ _ _ c.if-levels-eq0.false _ c.in-Err.ensures

pub descend-returns-in_err-child : goal.descend-returns-in_err-child
descend-returns-in_err-child t c =
    let p = err_from_is_err_and c.from_residual.result c.from_residual.ensures.1 in
    rw (p.1, p.2) (page-stop _ _ _ _ c.if-levels-eq0.false (fit t (goal.at.descend-returns-in_err-child t c).In-Ok) c.if-tree-eq13.false _
    c.index_for-start.ensures.0 _ c.in_err-child.ensures _ _ refl)

pub descend-returns-in-None : goal.descend-returns-in-None
descend-returns-in-None t c =
    page-next _ _ _ _ c.if-levels-eq0.false (fit t (goal.at.descend-returns-in-None t c).In-Ok) c.if-tree-eq13.false _
    c.index_for-start.ensures.0 _ (ap (told_row) (sym c.in-None.is) ∙ c.in_ok-child.ensures) refl _ c.children.ensures

pub descend-returns-in-Some : goal.descend-returns-in-Some
descend-returns-in-Some t c =
    page-row _ _ _ _ c.if-levels-eq0.false (fit t (goal.at.descend-returns-in-Some t c).In-Ok) c.if-tree-eq13.false _
    c.index_for-start.ensures.0 _ (ap (told_row) (sym c.in-Some.is) ∙ c.in_ok-child.ensures) _ _ _ _ refl
