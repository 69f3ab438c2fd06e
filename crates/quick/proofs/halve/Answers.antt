use borrow.Author.Rules.{rules}
use Rattle.quick.proofs.Laws.{halving-ends, halving-stops, halving-up, halving-down}
use Rattle.quick.proofs.halve.Goals as goal

pub returns-then-w-eq0 : goal.returns-then-w-eq0
returns-then-w-eq0 c = search (halving-stops, rules)

pub loop-a-preserved-then-bias-row : goal.loop-a-preserved-then-bias-row
loop-a-preserved-then-bias-row c = search (halving-up, rules)

pub loop-a-preserved : goal.loop-a-preserved
loop-a-preserved c = search (halving-down, rules)

pub returns : goal.returns
returns c = search (halving-ends, rules)
