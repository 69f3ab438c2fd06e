use Rattle.std.proofs.Common.{ap, ◌∙◌, replicate}
use Rattle.steps.proofs.Laws.{fill-starts, fill-next, fill_more, fill-ends}
use Rattle.steps.proofs.fill_steps.Goals as goal

pub loop-i-init : goal.loop-i-init
loop-i-init c = fill-starts _ _ _ (c.fill.ensures.after (λ y e. e) ∙ ap (λ k. replicate k 0) c.requires.2)

pub enter-last-requires : goal.enter-last-requires
enter-last-requires c = fill-next c.loop-i.invariant c.loop-i-test.true c.loop-i.invariant.some.long c.requires.0 c.requires.1

pub loop-i-preserved : goal.loop-i-preserved
loop-i-preserved c = fill_more c.loop-i.invariant c.loop-i-test.true c.loop-i.invariant.some.long c.enter-last.ensures

pub returns : goal.returns
returns c = fill-ends c.loop-i.invariant c.loop-i-test.false
