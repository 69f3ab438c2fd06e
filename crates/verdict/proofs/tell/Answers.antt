use mathlib.Core.Path.{◌≡◌, ap, ◌∙◌}
use Rattle.verdict.specs.Judgement.{judged}
use native.Mathlib.Omega.{arith}
use Rattle.dealing.specs.Walk.{accepted, verdict_for}
use Rattle.image.proofs.Shape.{shape}
use Rattle.image.specs.Image.{file_of}
use Rattle.verdict.proofs.VerdictLaws.{judged-walked, told-accepted, walk-trees, walk-rooted, steps-filled}
use Rattle.verdict.proofs.tell.Goals as goal
use Rattle.verdict.proofs.tell.Goals.{In-Ok}

-- accepted: the ledgers are the walk's
by-walk : (c : In-Ok) → let a = c.args in let j = c.judge.new in verdict_for a.ordered.now (file_of a.image.now) ≡ accepted j.kinds j.namers
by-walk c = (judged-walked _ _ _ _ _ c.judge.ensures.0 _ (ap judged c.in-Ok.is)).1

pub count_long-long-requires : goal.count_long-long-requires
count_long-long-requires c =
    let P = c.requires in let w = (goal.at.count_long-long-requires c).In-Ok in
    (walk-trees _ _ _ P.0 (c.judge.auto.kinds ∙ P.1.kinds_n) (by-walk w), c.judge.ensures.1)

pub fill_steps-requires : goal.fill_steps-requires
fill_steps-requires c =
    let P = c.requires in
    (walk-rooted _ _ _ P.0 (by-walk (goal.at.fill_steps-requires c).In-Ok), omega (arith, (shape P.0).few), c.judge.ensures.1.entries)

pub returns-in-Ok : goal.returns-in-Ok
returns-in-Ok c =
    told-accepted _ _ _ _ _ c.judge.ensures.0 _ _ _ (ap judged c.in-Ok.is) c.count_long-long.ensures.0 (c.fill_steps.ensures ∙ steps-filled c.requires.0 _)
