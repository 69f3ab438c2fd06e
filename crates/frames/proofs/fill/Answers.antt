use mathlib.Core.Path.{◌≡◌, refl}
use lib.ListN.{length}
use native.Mathlib.Omega.{arith}
use Rattle.std.proofs.lemmas.Result.{err_from_is_err_and}
use Rattle.refusal.proofs.Laws.{number-some}
use Rattle.wal.specs.View.{pair_state}
use Rattle.wal.proofs.ViewLaws.{found-bounds}
use Rattle.frames.proofs.FillLaws.{refused-early, refused-short, refused-late, passes, answers-refusal, leaves_table, answers-filled, leaves-filled}
use Rattle.frames.proofs.Theorems.{serves}
use Rattle.frames.specs.Table.{fill_refusal}
use Rattle.frames.proofs.fill.Goals as goal
use Rattle.frames.proofs.fill.Goals.{Joined-then-table-state, After-fill_in, then-table-state-via-then-table-state, then-table-state-via-else-table-state+then-is_late}

pub returns-in_err-state-clause-answer : goal.returns-in_err-state-clause-answer
returns-in_err-state-clause-answer c =
    let p = err_from_is_err_and c.from_residual.result c.from_residual.ensures.1 in
    let t = c.args.table.now in
    rw (p.1, p.2) (answers-refusal _ _ t _ (refused-early _ _ t _ c.in_err-state.ensures (number-some _)) (number-some _))

pub returns-in_err-state-clause-table : goal.returns-in_err-state-clause-table
returns-in_err-state-clause-table c =
    let t = c.args.table.now in
    leaves_table _ _ t _ (refused-early _ _ t _ c.in_err-state.ensures (number-some _)) (number-some _)

pub invariant_of-view : goal.invariant_of-view
invariant_of-view c = record { bounds = found-bounds _ _ 0 _ c.in_ok-state.ensures refl }

-- the first refusal, where the table is too short or a frame late
too_small : (c : Joined-then-table-state) → fill_refusal (pair_state c.args.log.now c.args.image.now) c.args.log.now (length c.args.table.now) ≡ 47
too_small c =
    let t = c.args.table.now in
    elim c.then-table-state.branch [
      | then-table-state-via-then-table-state w ↦ refused-short _ _ t _ c.in_ok-state.ensures refl w.if-table-state.true
      | then-table-state-via-else-table-state+then-is_late w ↦
          refused-late _ _ t _ c.in_ok-state.ensures refl w.if-table-state.false _ w.is_late.ensures w.if-is_late.true
    ]

pub returns-then-table-state-clause-answer : goal.returns-then-table-state-clause-answer
returns-then-table-state-clause-answer c = answers-refusal _ _ c.args.table.now 47 (too_small (goal.at.returns-then-table-state-clause-answer c).Joined-then-table-state) (λ z. omega arith)

pub returns-then-table-state-clause-table : goal.returns-then-table-state-clause-table
returns-then-table-state-clause-table c = leaves_table _ _ c.args.table.now 47 (too_small (goal.at.returns-then-table-state-clause-table c).Joined-then-table-state) (λ z. omega arith)

passing : (c : After-fill_in) → fill_refusal (pair_state c.args.log.now c.args.image.now) c.args.log.now (length c.args.table.now) ≡ 0
passing c = passes _ _ c.args.table.now _ c.in_ok-state.ensures refl c.if-table-state.false _ c.is_late.ensures c.if-is_late.false

pub returns-clause-answer : goal.returns-clause-answer
returns-clause-answer c = answers-filled _ _ c.args.table.now _ c.in_ok-state.ensures (passing (goal.at.returns-clause-answer c).After-fill_in)

pub returns-clause-table : goal.returns-clause-table
returns-clause-table c = leaves-filled _ _ c.args.table.now _ c.in_ok-state.ensures (passing (goal.at.returns-clause-table c).After-fill_in) _ c.fill_in.ensures

pub returns-clause-pages : goal.returns-clause-pages
returns-clause-pages c =
    let t = c.args.table.now in
    let e = passing (goal.at.returns-clause-pages c).After-fill_in in
    serves _ _ t _ _ (answers-filled _ _ t _ c.in_ok-state.ensures e) (leaves-filled _ _ t _ c.in_ok-state.ensures e _ c.fill_in.ensures) refl
