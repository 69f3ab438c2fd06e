use mathlib.Core.List.{[]}
use Rattle.std.proofs.lemmas.Result.{err_from_is_err_and}
use Rattle.image.proofs.Shape.{opened_of}
use Rattle.verdict.specs.Answer.{told}
use Rattle.verdict.specs.Judged.{Answers}
use Rattle.verdict.proofs.MeansLaws.{meant}
use Rattle.verdict.proofs.VerdictLaws.{header-refuses, room_most}
use Rattle.verdict.proofs.verdict.Goals as goal
use Rattle.verdict.proofs.verdict.Goals.{After-from_residual}

-- the header refuses
stopped : (c : After-from_residual) → let a = c.args in
    Answers a.image.now a.ordered.now a.kinds.now a.namers.now a.steps.now (told c.from_residual.result) a.kinds.now a.namers.now a.steps.now
stopped c =
    let a = c.args in
    let q = err_from_is_err_and c.from_residual.result c.from_residual.ensures.1 in
    rw (q.1, q.2) (header-refuses a.image.now a.ordered.now a.kinds.now a.namers.now a.steps.now _ c.in_err-h.ensures)

pub returns-in_err-h-clause-answer : goal.returns-in_err-h-clause-answer
returns-in_err-h-clause-answer c = (stopped (goal.at.returns-in_err-h-clause-answer c).After-from_residual).answer

pub returns-in_err-h-clause-kinds : goal.returns-in_err-h-clause-kinds
returns-in_err-h-clause-kinds c = (stopped (goal.at.returns-in_err-h-clause-kinds c).After-from_residual).kinds

pub returns-in_err-h-clause-namers : goal.returns-in_err-h-clause-namers
returns-in_err-h-clause-namers c = (stopped (goal.at.returns-in_err-h-clause-namers c).After-from_residual).namers

pub returns-in_err-h-clause-steps : goal.returns-in_err-h-clause-steps
returns-in_err-h-clause-steps c = (stopped (goal.at.returns-in_err-h-clause-steps c).After-from_residual).steps

pub returns-in_err-h-clause-meaning : goal.returns-in_err-h-clause-meaning
returns-in_err-h-clause-meaning c = meant (stopped (goal.at.returns-in_err-h-clause-meaning c).After-from_residual)

pub decide-requires : goal.decide-requires
decide-requires c = let o = opened_of _ c.in_ok-h.ensures in (o, room_most o c.args.ordered.now)

pub returns-clause-meaning : goal.returns-clause-meaning
returns-clause-meaning c = meant c.decide.ensures
