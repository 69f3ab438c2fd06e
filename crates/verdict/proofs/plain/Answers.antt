use mathlib.Core.List.{[]}
use Rattle.std.proofs.lemmas.Result.{err_from_is_err_and}
use Rattle.image.proofs.Shape.{opened_of}
use Rattle.verdict.specs.Answer.{told}
use Rattle.verdict.specs.Judged.{Answers}
use Rattle.verdict.proofs.MeansLaws.{meant}
use Rattle.verdict.proofs.VerdictLaws.{header-refuses, usable-most, room-none}
use Rattle.verdict.proofs.plain.Goals as goal
use Rattle.verdict.proofs.plain.Goals.{After-from_residual}

-- the header refuses
stopped : (c : After-from_residual) → let a = c.args in
    Answers a.image.now [] a.kinds.now a.namers.now a.steps.now (told c.from_residual.result) a.kinds.now a.namers.now a.steps.now
stopped c =
    let a = c.args in
    let q = err_from_is_err_and c.from_residual.result c.from_residual.ensures.1 in
    rw (q.1, q.2) (header-refuses a.image.now [] a.kinds.now a.namers.now a.steps.now _ c.in_err-h.ensures)

pub returns-in_err-h-clause-answer : goal.returns-in_err-h-clause-answer
returns-in_err-h-clause-answer c = (stopped (goal.at.returns-in_err-h-clause-answer c).After-from_residual).answer

pub returns-in_err-h-clause-kinds : goal.returns-in_err-h-clause-kinds
returns-in_err-h-clause-kinds c = (stopped (goal.at.returns-in_err-h-clause-kinds c).After-from_residual).kinds

pub returns-in_err-h-clause-namers : goal.returns-in_err-h-clause-namers
returns-in_err-h-clause-namers c = (stopped (goal.at.returns-in_err-h-clause-namers c).After-from_residual).namers

pub returns-in_err-h-clause-steps : goal.returns-in_err-h-clause-steps
returns-in_err-h-clause-steps c = (stopped (goal.at.returns-in_err-h-clause-steps c).After-from_residual).steps

pub returns-in_err-h-clause-meaning : goal.returns-in_err-h-clause-meaning
returns-in_err-h-clause-meaning c = meant (stopped (goal.at.returns-in_err-h-clause-meaning c).After-from_residual)

pub decide-requires : goal.decide-requires
decide-requires c = (opened_of _ c.in_ok-h.ensures, room-none c.in_ok-h.h _ c.if-h-le4096.true)

pub returns-then-h-le4096-clause-meaning : goal.returns-then-h-le4096-clause-meaning
returns-then-h-le4096-clause-meaning c = meant c.decide.ensures

pub decide-requires-then-h-le16384 : goal.decide-requires-then-h-le16384
decide-requires-then-h-le16384 c = (opened_of _ c.in_ok-h.ensures, room-none c.in_ok-h.h _ c.if-h-le16384.true)

pub returns-then-h-le16384-clause-meaning : goal.returns-then-h-le16384-clause-meaning
returns-then-h-le16384-clause-meaning c = meant c.decide-then-h-le16384.ensures

pub decide-requires-2 : goal.decide-requires-2
decide-requires-2 c = let o = opened_of _ c.in_ok-h.ensures in (o, room-none c.in_ok-h.h _ (usable-most o))

pub returns-clause-meaning : goal.returns-clause-meaning
returns-clause-meaning c = meant c.decide-2.ensures
