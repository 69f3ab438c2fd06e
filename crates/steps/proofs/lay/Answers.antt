use mathlib.Core.Path.{refl}
use Rattle.steps.proofs.Laws.{lay-more}
use Rattle.steps.proofs.lay.Goals as goal

pub loop-left-preserved : goal.loop-left-preserved
loop-left-preserved c =
    let e = c.requires.0 in lay-more e.low e.high e.some c.loop-left.invariant e.rooted c.loop-left-test.true _ refl
