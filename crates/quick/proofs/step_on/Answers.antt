use Rattle.image.proofs.Shape.{at-within}
use Rattle.quick.proofs.Laws.{ready, step-page}
use borrow.Author.Rules.{rules}
use Rattle.quick.proofs.step_on.Goals as goal

pub page_of-p-requires : goal.page_of-p-requires
page_of-p-requires c = search (at-within, rules)

pub page_step-requires : goal.page_step-requires
page_step-requires c = ready c.requires c.page_of-p.result.now c.head_of.result c.page_of-p.ensures.1 c.head_of.ensures.1

pub returns : goal.returns
returns c = search (step-page, rules)
