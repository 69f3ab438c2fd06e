use Rattle.std.proofs.Common.{◌≡◌, refl, ap, ◌∙◌, Ok, Some}
use Rattle.std.proofs.lemmas.Result.{err_from_is_err_and}
use Rattle.cursor.specs.Shown.{Row}
use Rattle.cursor.specs.Told.{told_shown}
use Rattle.report.specs.Summary.{none}
use Rattle.report.proofs.Walk.{starts, at-end, at-stop, falls, row-stops, row-takes}
use Rattle.report.proofs.Theorems.{all_three}
use Rattle.report.proofs.report.Goals as goal
use Rattle.report.proofs.report.Goals.{In-Some}

pub loop-row-init : goal.loop-row-init
loop-row-init c =
    let a = c.args in
    starts a.image.now a.root a.column a.room.now none refl _ c.first-at.ensures.answer

pub returns-in_err-row : goal.returns-in_err-row
returns-in_err-row c =
    let p = err_from_is_err_and c.from_residual.result c.from_residual.ensures.1 in
    let a = c.args in
    rw (p.1, p.2) (all_three a.image.now a.root a.column a.room.now (at-stop c.loop-row.invariant _ _ (ap told_shown c.in_err-row.was)) refl)

-- the cursor shows a row
shows : (c : In-Some) → told_shown c.loop-row.at.shown ≡ Row c.in-Some.row.page c.in-Some.row.cell c.in-Some.row.length c.in-Some.row.number
shows c = ap told_shown (c.in_ok-row.was ∙ ap Ok c.in-Some.is)

pub returns-in_err-level : goal.returns-in_err-level
returns-in_err-level c =
    let r = c.from_residual-in_err-level in
    let p = err_from_is_err_and r.result r.ensures.1 in
    let a = c.args in
    rw (p.1, p.2) (all_three a.image.now a.root a.column a.room.now
    (row-stops c.loop-row.invariant _ _ _ _ (shows (goal.at.returns-in_err-level c).In-Some) _ c.in_err-level.ensures.0
    _ c.in_err-level.ensures.1 _ _ refl) refl)

pub loop-row-smaller : goal.loop-row-smaller
loop-row-smaller c =
    falls c.loop-row.invariant _ _ _ _ (shows (goal.at.loop-row-smaller c).In-Some) _ c.step-at.ensures.answer

pub loop-row-preserved : goal.loop-row-preserved
loop-row-preserved c =
    row-takes c.loop-row.invariant _ _ _ _ (shows (goal.at.loop-row-preserved c).In-Some) _ c.in_ok-level.ensures.0
    _ c.in_ok-level.ensures.1 _ c.step-at.ensures.answer
    c.loop-row.s refl refl c.in_ok-level.level refl c.with_level-s.result c.with_level-s.ensures

pub returns : goal.returns
returns c =
    let a = c.args in
    all_three a.image.now a.root a.column a.room.now
    (at-end c.loop-row.invariant (ap told_shown (c.in_ok-row.was ∙ ap Ok c.in_default.is))) c.finished.ensures
