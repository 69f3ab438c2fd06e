use Prim.Native.Nat.{◌-◌}
use native.Mathlib.Omega.{arith}
use mathlib.Core.Logic.{inl, inr}
use Rattle.page.proofs.Hops.{Turn, hopped-none, hopped-end, turn}
use Rattle.page.proofs.count_gaps.Goals as goal
use Rattle.page.proofs.count_gaps.Goals.{Joined-step-eq1, then-step-eq1, else-step-eq1}

pub loop-j-init : goal.loop-j-init
loop-j-init c = (omega arith, omega arith, hopped-none _ _ _, omega arith)

-- the turn, once a hop is made
turned : (c : Joined-step-eq1) → Turn c.args.s.now c.args.a c.args.e c.loop-j.j c.if-step-eq1.gaps c.hop-step.result
turned c =
    turn _ _ _ _ _ c.loop-j.invariant.2 c.loop-j.invariant.0 c.loop-j.invariant.3 (omega (arith, c.loop-j-test.true, c.requires)) c.requires.4
    _ c.hop-step.ensures _ (elim c.if-step-eq1.branch [ then-step-eq1 w ↦ inl (w.if-step-eq1.true, w.gaps-is) | else-step-eq1 w ↦ inr (w.if-step-eq1.false, w.gaps-is) ])

pub loop-j-preserved : goal.loop-j-preserved
loop-j-preserved c = let g = turned (goal.at.loop-j-preserved c).Joined-step-eq1 in (omega (arith, g.counts), g.stops, g.hopped, g.counts)

pub returns : goal.returns
returns c = hopped-end _ _ _ _ _ c.loop-j.invariant.2 c.loop-j.invariant.0 (omega arith) c.loop-j.invariant.1
