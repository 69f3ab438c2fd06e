use mathlib.Core.Path.{refl}
use Rattle.std.specs.Prelude.{Ok, Some, None}
use Rattle.std.proofs.lemmas.Result.{err_from_is_err_and}
use Rattle.refusal.proofs.Laws.{number-some}
use Rattle.wal.specs.State.{nothing, state_of}
use Rattle.wal.specs.Told.{Finds}
use Rattle.wal.proofs.ViewLaws.{pair-refused, pair-forced, pair-alone}
use Rattle.wal.proofs.state_of.Goals as goal

pub returns-in_err-state : goal.returns-in_err-state
returns-in_err-state c =
    let p = err_from_is_err_and c.from_residual.result c.from_residual.ensures.1 in
    rw (p.1, p.2) (pair-refused _ _ _ c.in_err-state.ensures.told (number-some _))

pub returns-in-Some : goal.returns-in-Some
returns-in-Some c =
    let found : Finds (Ok (Some c.in-Some.state)) (state_of c.args.log.now) = rw c.in-Some.is at c.in_ok-state.ensures in
    pair-forced _ _ _ found.told refl found.forced

pub returns-in_err-alone-in-None : goal.returns-in_err-alone-in-None
returns-in_err-alone-in-None c =
    let found : Finds (Ok None) (state_of c.args.log.now) = rw c.in-None.is at c.in_ok-state.ensures in
    let p = err_from_is_err_and c.from_residual-in_err-alone-in-None.result c.from_residual-in_err-alone-in-None.ensures.1 in
    rw (p.1, p.2) (pair-alone _ _ nothing found.told refl _ refl c.in_err-alone-in-None.ensures)

pub returns-in_ok-alone-in-None : goal.returns-in_ok-alone-in-None
returns-in_ok-alone-in-None c =
    let found : Finds (Ok None) (state_of c.args.log.now) = rw c.in-None.is at c.in_ok-state.ensures in
    pair-alone _ _ nothing found.told refl _ refl c.in_ok-alone-in-None.ensures
