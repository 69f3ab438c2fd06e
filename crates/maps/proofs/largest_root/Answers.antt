use mathlib.Core.Path.{◌≡◌, sym, ◌∙◌}
use Prim.Native.Nat.{◌+◌, ◌-◌}
use native.Mathlib.Omega.{arith}
use Rattle.maps.proofs.Laws.{root-here, root_below, root_none}
use Rattle.maps.proofs.largest_root.Goals as goal

pub returns-then-kinds-at-eq1 : goal.returns-then-kinds-at-eq1
returns-then-kinds-at-eq1 c =
    let l = c.loop-at in
    let e : l.at - 1 + 1 ≡ l.at = omega (arith, c.loop-at-test.true) in
    e ∙ root-here _ l.at c.loop-at-test.true c.if-kinds-at-eq1.true ∙ sym l.invariant

pub loop-at-preserved : goal.loop-at-preserved
loop-at-preserved c =
    let l = c.loop-at in
    l.invariant ∙ root_below _ l.at c.loop-at-test.true c.if-kinds-at-eq1.false

pub returns : goal.returns
returns c =
    let l = c.loop-at in
    sym (l.invariant ∙ root_none _ l.at c.loop-at-test.false)
