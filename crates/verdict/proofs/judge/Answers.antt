use mathlib.Core.Path.{◌≡◌, ◌∙◌}
use native.Mathlib.Omega.{arith}
use Rattle.dealing.specs.Walk.{first_zero}
use Rattle.image.proofs.Shape.{shape}
use Rattle.ledger_entries.proofs.Laws.{first-whole}
use Rattle.verdict.proofs.VerdictLaws.{judged-walk, judged-unnamed, judged-settled}
use Rattle.verdict.proofs.judge.Goals as goal
use Rattle.verdict.proofs.judge.Goals.{After-first_zero-first}

first : (c : After-first_zero-first) → c.first_zero-first.result ≡ first_zero c.walk.new.kinds
first c = c.first_zero-first.ensures.0 ∙ first-whole _ c.args.h.pages (c.walk.auto.kinds ∙ c.requires.1.kinds_n)

pub returns-in-Err : goal.returns-in-Err
returns-in-Err c =
    let e = c.refuse.ensures in
    (judged-walk _ _ _ (shape c.requires.0).N-is _ _ _ _ _ c.in-Err.ensures.0 e.0 e.1 e.2, c.walk.ensures.1)

pub overflow_cast-page : goal.overflow_cast-page
overflow_cast-page c = omega (arith, (shape c.requires.0).few)

pub overflow_add-page : goal.overflow_add-page
overflow_add-page c = omega (arith, (shape c.requires.0).few)

pub returns-then-first-n : goal.returns-then-first-n
returns-then-first-n c =
    let e = c.refuse-then-first-n.ensures in (
      judged-unnamed _ _ _ (shape c.requires.0).N-is _ _ _ _ _ c.in-Ok.ensures.0 (first (goal.at.returns-then-first-n c).After-first_zero-first)
          (omega arith) e.0 e.1 e.2,
      c.walk.ensures.1,
    )

pub returns : goal.returns
returns c = (
  judged-settled _ _ _ (shape c.requires.0).N-is _ _ _ _ _ _ _ _ c.in-Ok.ensures.0 (first (goal.at.returns c).After-first_zero-first)
      (omega arith) c.conclude.ensures,
  c.walk.ensures.1,
)
