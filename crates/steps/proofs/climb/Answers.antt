use mathlib.Core.Path.{refl}
use native.Mathlib.Omega.{arith}
use Rattle.steps.proofs.Laws.{climb-top, climb-small, climb-fits}
use Rattle.steps.proofs.climb.Goals as goal

pub returns-then-up-eq0 : goal.returns-then-up-eq0
returns-then-up-eq0 c = climb-top c.loop-p.invariant c.if-up-eq0.true

pub overflow_add-result : goal.overflow_add-result
overflow_add-result c =
    let e = c.requires in omega (arith, e.few, climb-fits c.loop-p.invariant c.args.steps.now e.some c.if-known-ne0.true)

pub overflow_add-count : goal.overflow_add-count
overflow_add-count c =
    let e = c.requires in omega (arith, e.few, climb-small c.loop-p.invariant e.rooted _ refl c.if-up-eq0.false)
