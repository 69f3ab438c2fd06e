use borrow.Author.Rules.{rules}
use Rattle.std.proofs.lemmas.Result.{err_from_is_err_and}
use Rattle.quick.proofs.Laws.{page-22, page-stops, page-cell, page-end}
use Rattle.quick.proofs.page_step.Goals as goal

pub returns-then-not-is_table : goal.returns-then-not-is_table
returns-then-not-is_table c = search (page-22, rules)

pub returns-in_err-i : goal.returns-in_err-i
returns-in_err-i c =
    let p = err_from_is_err_and c.from_residual.result c.from_residual.ensures.1 in
    rw (p.1, p.2) (search (page-stops, c.in_err-i.ensures, rules))

pub returns-then-i-n : goal.returns-then-i-n
returns-then-i-n c = search (page-cell, c.in_ok-i.ensures, rules)

pub returns : goal.returns
returns c = search (page-end, c.in_ok-i.ensures, rules)
