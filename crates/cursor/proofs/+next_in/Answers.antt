use Prim.Native.Nat.{ℕ, ◌-◌}
use mathlib.Core.Path.{refl, sym, ap, ◌∙◌}
use lib.ListN.{get_or}
use native.Mathlib.Omega.{arith}
use Rattle.std.proofs.lemmas.Result.{err_from_is_err_and}
use Rattle.page.specs.declared.Place.TheVariants.{TablePage}
use Rattle.dealing.proofs.Passed.{in-range}
use Rattle.image.specs.Ready.{PageAt}
use Rattle.lookup.proofs.Ways.{Fit, fit_at, inner-tree}
use Rattle.cursor.specs.Answers.{blank}
use Rattle.cursor.specs.Told.{told_row}
use Rattle.cursor.proofs.Ways.{leaf-tree}
use Rattle.cursor.proofs.Next.{next-range, next-fault, next-short, next_past, next-deep, next-wide, next-other, next-leaf, next-on, next_row, next-stop}
use Rattle.cursor.proofs.+next_in.Goals as goal
use Rattle.cursor.proofs.+next_in.Goals.{In-Ok}

-- the page that the cursor has at this level
page : (t : ℕ) (c : In-Ok t) → PageAt c.args.image.now c.args.h (get_or c.args.c.pages (20 - c.args.levels) 0)
page t c = let w = in-range _ _ (sym c.has_page.ensures ∙ c.if-not-has_page.false) in record { opened = c.requires.0; low = w.0; high = w.1 }

-- it was found fit
fit : (t : ℕ) (c : In-Ok t) → Fit TablePage (page t c) c.in-Ok.tree.kind c.in-Ok.tree.cells c.in-Ok.tree.right
fit t c = fit_at TablePage _ _ _ _ c.in-Ok.ensures

pub returns-then-not-has_page : goal.returns-then-not-has_page
returns-then-not-has_page t c = next-range c.requires.0 _ _ c.requires.2 (sym c.has_page.ensures ∙ c.if-not-has_page.true)

pub returns-in-Err : goal.returns-in-Err
returns-in-Err t c =
    let w = in-range _ _ (sym c.has_page.ensures ∙ c.if-not-has_page.false) in
    next-fault c.requires.0 _ _ c.requires.2 (record { opened = c.requires.0; low = w.0; high = w.1 }) _ c.in-Err.ensures

pub returns-then-depth-k : goal.returns-then-depth-k
returns-then-depth-k t c =
    next-short c.requires.0 _ _ c.requires.2 _ (fit t (goal.at.returns-then-depth-k t c).In-Ok) c.if-tree-eq13.true c.if-depth-k.true

pub returns-then-count-i : goal.returns-then-count-i
returns-then-count-i t c =
    next_past c.requires.0 _ _ c.requires.2 _ (fit t (goal.at.returns-then-count-i t c).In-Ok) (omega arith) c.if-count-i.true

pub leaf_from-requires : goal.leaf_from-requires
leaf_from-requires t c =
    (leaf-tree _ c.args.levels 0 0 (λ z. omega arith) (fit t (goal.at.leaf_from-requires t c).In-Ok) c.if-tree-eq13.true, omega arith)

pub returns-then-tree-eq13 : goal.returns-then-tree-eq13
returns-then-tree-eq13 t c =
    next-leaf c.requires.0 _ _ c.requires.2 _ (fit t (goal.at.returns-then-tree-eq13 t c).In-Ok) c.if-tree-eq13.true
    (omega arith) c.if-count-i.false _ c.leaf_from.ensures

pub returns-then-depth-k-2 : goal.returns-then-depth-k-2
returns-then-depth-k-2 t c =
    next-deep c.requires.0 _ _ c.requires.2 _ (fit t (goal.at.returns-then-depth-k-2 t c).In-Ok) c.if-tree-eq13.false c.if-depth-k-2.true

pub returns-then-count-i-2 : goal.returns-then-count-i-2
returns-then-count-i-2 t c =
    next-wide c.requires.0 _ _ c.requires.2 _ (fit t (goal.at.returns-then-count-i-2 t c).In-Ok) c.if-depth-k-2.false c.if-count-i-2.true

pub child_at-target-requires : goal.child_at-target-requires
child_at-target-requires t c =
    let w = fit t (goal.at.child_at-target-requires t c).In-Ok in
    (inner-tree _ c.args.levels 0 (λ z. omega arith) w c.if-tree-eq13.false, w.right_is)

pub returns-then-target-c : goal.returns-then-target-c
returns-then-target-c t c =
    next-other c.requires.0 _ _ c.requires.2 _ (fit t (goal.at.returns-then-target-c t c).In-Ok)
    c.if-depth-k-2.false _ c.child_at-target.ensures c.if-target-c.true

pub children-requires : goal.children-requires
children-requires t c =
    let w = fit t (goal.at.children-requires t c).In-Ok in
    (inner-tree _ c.args.levels 0 (λ z. omega arith) w c.if-tree-eq13.false, w.right_is, omega arith, omega arith)

pub returns-in_err-next_in : goal.returns-in_err-next_in
returns-in_err-next_in t c =
    let p = err_from_is_err_and c.from_residual.result c.from_residual.ensures.1 in
    rw (p.1, p.2) (next-stop c.requires.0 _ _ c.requires.2 _ (fit t (goal.at.returns-in_err-next_in t c).In-Ok)
    c.if-tree-eq13.false c.if-depth-k-2.false c.if-count-i-2.false _ c.child_at-target.ensures c.if-target-c.false
    _ c.in_err-next_in.ensures _ _ refl)

pub returns-in-None : goal.returns-in-None
returns-in-None t c =
    next-on c.requires.0 _ _ c.requires.2 _ (fit t (goal.at.returns-in-None t c).In-Ok)
    c.if-tree-eq13.false c.if-depth-k-2.false c.if-count-i-2.false _ c.child_at-target.ensures c.if-target-c.false
    _ (ap (told_row) (sym c.in-None.is) ∙ c.in_ok-next_in.ensures) refl _ c.children.ensures

pub returns-in-Some : goal.returns-in-Some
returns-in-Some t c =
    next_row c.requires.0 _ _ c.requires.2 _ (fit t (goal.at.returns-in-Some t c).In-Ok)
    c.if-tree-eq13.false c.if-depth-k-2.false c.if-count-i-2.false _ c.child_at-target.ensures c.if-target-c.false
    _ (ap (told_row) (sym c.in-Some.is) ∙ c.in_ok-next_in.ensures) _ _ _ _ refl _ c.placed-cursor.ensures
