use mathlib.Core.Path.{refl}
use Rattle.std.proofs.lemmas.Result.{err_from_is_err_and}
use Rattle.refusal.proofs.Laws.{number-some}
use Rattle.wal.proofs.ViewLaws.{found-bounds}
use Rattle.wal.proofs.RecoverLaws.{recovered-early, recovered-late, recovered-whole}
use Rattle.wal.proofs.recover.Goals as goal

pub returns-in_err-state-clause-answer : goal.returns-in_err-state-clause-answer
returns-in_err-state-clause-answer c =
    let p = err_from_is_err_and c.from_residual.result c.from_residual.ensures.1 in
    rw (p.1, p.2) (recovered-early _ _ c.args.out.now _ c.in_err-state.ensures (number-some _)).0

pub returns-in_err-state-clause-output : goal.returns-in_err-state-clause-output
returns-in_err-state-clause-output c = (recovered-early _ _ c.args.out.now _ c.in_err-state.ensures (number-some _)).1

pub invariant_of-recover : goal.invariant_of-recover
invariant_of-recover c = record { bounds = found-bounds _ _ 0 _ c.in_ok-state.ensures refl }

pub returns-in_err-recover-clause-answer : goal.returns-in_err-recover-clause-answer
returns-in_err-recover-clause-answer c =
    let p = err_from_is_err_and c.from_residual-in_err-recover.result c.from_residual-in_err-recover.ensures.1 in
    rw (p.1, p.2) (recovered-late _ _ _ _ c.in_ok-state.ensures refl _ _ c.in_err-recover.ensures (number-some _)).0

pub returns-in_err-recover-clause-output : goal.returns-in_err-recover-clause-output
returns-in_err-recover-clause-output c = (recovered-late _ _ _ _ c.in_ok-state.ensures refl _ _ c.in_err-recover.ensures (number-some _)).1

pub returns-clause-answer : goal.returns-clause-answer
returns-clause-answer c = (recovered-whole _ _ _ _ c.in_ok-state.ensures refl _ _ c.in_ok-recover.ensures refl).0

pub returns-clause-output : goal.returns-clause-output
returns-clause-output c = (recovered-whole _ _ _ _ c.in_ok-state.ensures refl _ _ c.in_ok-recover.ensures refl).1
