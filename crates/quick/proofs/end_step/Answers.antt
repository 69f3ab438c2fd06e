use Rattle.quick.proofs.Laws.{end-leaf, end-inner}
use borrow.Author.Rules.{rules}
use Rattle.quick.proofs.end_step.Goals as goal

pub returns-then-kind-eq13 : goal.returns-then-kind-eq13
returns-then-kind-eq13 c = search (end-leaf, rules)

pub returns : goal.returns
returns c = search (end-inner, rules)
