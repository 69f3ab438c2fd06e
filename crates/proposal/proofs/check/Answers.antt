use mathlib.Core.Path.{◌≡◌, refl, sym, ap, ◌∙◌}
use native.Mathlib.Omega.{arith}
use Rattle.std.proofs.lemmas.Result.{err_from_is_err_and}
use Rattle.std.proofs.Common.{Option, Some, None, Ok}
use Rattle.verdict.specs.Answer.{told}
use Rattle.proposal.specs.Checked as D
use Rattle.proposal.specs.Check.{checked_of, said}
use Rattle.proposal.proofs.Laws.{Told, accepted-fits, checks}
use Rattle.proposal.proofs.check.Goals as goal
use Rattle.proposal.proofs.check.Goals.{After-plain, After-from_residual, After-compare}

told-by : (c : After-plain) → let a = c.args in let p = c.plain in
    Told a.image.now a.kinds.now a.namers.now a.steps.now (told p.result) p.new.kinds p.new.namers p.new.steps
told-by c = let e = c.plain.ensures in (e.answer, (e.kinds, (e.namers, (e.steps, e.meaning))))

pub compare-requires : goal.compare-requires
compare-requires c =
    let f = accepted-fits _ c.args.proposal.now _ _ _ _ _ _ _ (told-by (goal.at.compare-requires c).After-plain) _ _ (ap told c.in_ok-accepted.was) in
    (f.0, omega (arith, f.1), omega (arith, f.2), omega (arith, f.3))

-- the verdict refuses
refused : (c : After-from_residual) → let p = c.plain in
    D.told c.from_residual.result ≡ checked_of c.args.proposal.now (told p.result) p.new.kinds p.new.namers p.new.steps
refused c =
    let p = c.plain in
    let q = err_from_is_err_and c.from_residual.result c.from_residual.ensures.1 in
    rw (q.1, q.2) (ap (λ r. checked_of c.args.proposal.now (told r) p.new.kinds p.new.namers p.new.steps) (sym c.in_err-accepted.was))

pub returns-in_err-accepted-clause-answer : goal.returns-in_err-accepted-clause-answer
returns-in_err-accepted-clause-answer c =
    let p = c.plain in
    refused (goal.at.returns-in_err-accepted-clause-answer c).After-from_residual
    ∙ ap (λ r. checked_of c.args.proposal.now r p.new.kinds p.new.namers p.new.steps) p.ensures.answer

pub returns-in_err-accepted-clause-meaning : goal.returns-in_err-accepted-clause-meaning
returns-in_err-accepted-clause-meaning c =
    let at = goal.at.returns-in_err-accepted-clause-meaning c in
    checks _ _ _ _ _ _ _ _ _ (told-by at.After-plain) _ (refused at.After-from_residual)

-- it accepts
compared : (c : After-compare) → let p = c.plain in
    D.told (Ok c.compare.result) ≡ checked_of c.args.proposal.now (told p.result) p.new.kinds p.new.namers p.new.steps
compared c =
    let p = c.plain in
    ap said c.compare.ensures
    ∙ ap (λ r. checked_of c.args.proposal.now (told r) p.new.kinds p.new.namers p.new.steps) (sym c.in_ok-accepted.was)

pub returns-clause-answer : goal.returns-clause-answer
returns-clause-answer c =
    let p = c.plain in
    compared (goal.at.returns-clause-answer c).After-compare
    ∙ ap (λ r. checked_of c.args.proposal.now r p.new.kinds p.new.namers p.new.steps) p.ensures.answer

pub returns-clause-meaning : goal.returns-clause-meaning
returns-clause-meaning c =
    let at = goal.at.returns-clause-meaning c in
    checks _ _ _ _ _ _ _ _ _ (told-by at.After-plain) _ (compared at.After-compare)
