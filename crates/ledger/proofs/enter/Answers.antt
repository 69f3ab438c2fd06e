use mathlib.Core.List.{[]}
use mathlib.Core.Path.{◌∙◌}
use native.Mathlib.Omega.{arith}
use Rattle.dealing.specs.Walk.{state}
use Rattle.dealing.proofs.RunLaws.{run-far, run-zero, run-twice, run-name, run_none}
use Rattle.ledger.proofs.enter.Goals as goal
use Rattle.ledger.proofs.enter.Goals.{then-t-eq0-via-then-t-eq0, then-t-eq0-via-else-t-eq0+then-n-t}

pub returns-then-t-eq0 : goal.returns-then-t-eq0
returns-then-t-eq0 c = λ m l.
    let a = c.args in let s = state a.kinds.now a.namers.now m l in
    elim c.then-t-eq0.branch [
      | then-t-eq0-via-then-t-eq0 w ↦ rw w.if-t-eq0.true (run-zero a.n s [] a.holder a.kind)
      | then-t-eq0-via-else-t-eq0+then-n-t w ↦ run-far a.n s [] a.holder a.t a.kind w.if-n-t.true
    ]

pub returns-then-kinds-at-ne0 : goal.returns-then-kinds-at-ne0
returns-then-kinds-at-ne0 c = λ m l.
    let a = c.args in
    run-twice a.n (state a.kinds.now a.namers.now m l) [] a.holder a.t a.kind (omega arith) (omega arith) c.if-kinds-at-ne0.true

pub returns : goal.returns
returns c = λ m l.
    let a = c.args in
    run-name a.n (state a.kinds.now a.namers.now m l) [] a.holder a.t a.kind (omega arith) (omega arith) c.if-kinds-at-ne0.false ∙ run_none a.n _
