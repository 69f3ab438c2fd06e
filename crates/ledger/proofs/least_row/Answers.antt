use mathlib.Core.Logic.{inl, inr}
use native.Mathlib.Omega.{arith}
use Rattle.ledger.proofs.Ways.{least_first, least-after-row, least-after-key}
use Rattle.ledger.proofs.least_row.Goals as goal

pub returns-in-Nothing : goal.returns-in-Nothing
returns-in-Nothing c = least_first _ _ c.in-Nothing.is

pub returns-in-Row : goal.returns-in-Row
returns-in-Row c =
    elim c.in-Row.is [
      | inl e ↦ least-after-row _ _ c.in-Row.x (λ r l g. omega arith) e
      | inr e ↦ least-after-key _ _ c.in-Row.x (λ r l g. omega arith) e
    ]
