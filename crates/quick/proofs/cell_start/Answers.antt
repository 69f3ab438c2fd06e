use borrow.Author.Rules.{rules}
use Rattle.quick.proofs.Laws.{start-past, start-low, start-high, start-at}
use Rattle.quick.proofs.cell_start.Goals as goal

pub returns-then-place-u-clause-place : goal.returns-then-place-u-clause-place
returns-then-place-u-clause-place c = search (start-past, rules)

pub returns-then-at-start-clause-place : goal.returns-then-at-start-clause-place
returns-then-at-start-clause-place c = search (start-low, rules)

pub returns-then-at-u-clause-place : goal.returns-then-at-u-clause-place
returns-then-at-u-clause-place c = search (start-high, rules)

pub returns-clause-place : goal.returns-clause-place
returns-clause-place c = search (start-at, rules)
