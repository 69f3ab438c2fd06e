use Prim.Native.Nat.{◌≤◌}
use mathlib.Core.Path.{◌∙◌}
use native.Mathlib.Omega.{arith}
use borrow.Author.Tests.{eq-eqb}
use Rattle.maps.proofs.Laws.{agrees_first, agrees-lock, agrees-map, agrees-entry}
use Rattle.maps.proofs.agrees.Goals as goal
use Rattle.maps.proofs.agrees.Goals.{then-p-eq1-via-then-p-eq1, then-p-eq1-via-else-p-eq1+then-p-lock}

pub returns-then-p-eq1 : goal.returns-then-p-eq1
returns-then-p-eq1 c =
    let a = c.args in
    elim c.then-p-eq1.branch [
      | then-p-eq1-via-then-p-eq1 w ↦ agrees_first _ a.p a.kind a.namer w.if-p-eq1.true
      | then-p-eq1-via-else-p-eq1+then-p-lock w ↦ agrees-lock c.requires.0.opened a.lock a.p a.kind a.namer c.requires.1 w.if-p-eq1.false w.if-p-lock.true
    ]

pub returns-then-past-eq0 : goal.returns-then-past-eq0
returns-then-past-eq0 c =
    let w = c.past_map-past in
    let a = c.args in
    let l : 2 ≤ a.p = omega (arith, c.requires.0.low, c.if-p-eq1.false) in
    eq-eqb _ 0 c.if-past-eq0.true
    ∙ agrees-map c.requires.0.opened a.lock a.p a.kind a.namer c.requires.1 c.if-p-eq1.false c.if-p-lock.false c.requires.2 l
    w.result w.ensures.0 c.if-past-eq0.true

pub returns-else-past-eq0 : goal.returns-else-past-eq0
returns-else-past-eq0 c =
    let n = c.number_for in
    let t = c.type_for in
    let w = c.past_map-past in
    let a = c.args in
    let l : 2 ≤ a.p = omega (arith, c.requires.0.low, c.if-p-eq1.false) in
    agrees-entry c.requires.0.opened a.lock a.p a.kind a.namer c.requires.1 c.if-p-eq1.false c.if-p-lock.false c.requires.2 l w.result
    w.ensures.0 c.if-past-eq0.false t.result n.result t.ensures n.ensures c.entry_is.result c.entry_is.ensures
