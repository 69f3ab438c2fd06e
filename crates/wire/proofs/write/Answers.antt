use borrow.Author.Rules.{rules}
use Rattle.wire.specs.Write.{written_of}
use Rattle.wire.proofs.Laws.{laid-whole}
use Rattle.wire.proofs.write.Goals as goal

pub returns-then-n-gt-MOST_PAGES-clause-answer : goal.returns-then-n-gt-MOST_PAGES-clause-answer
unfolding written_of
returns-then-n-gt-MOST_PAGES-clause-answer c = search rules

pub returns-then-kinds-n-clause-answer : goal.returns-then-kinds-n-clause-answer
unfolding written_of
returns-then-kinds-n-clause-answer c = search rules

pub returns-then-out-length-clause-answer : goal.returns-then-out-length-clause-answer
unfolding written_of
returns-then-out-length-clause-answer c = search rules

pub returns-clause-answer : goal.returns-clause-answer
unfolding written_of
returns-clause-answer c = search rules

pub returns-clause-bytes : goal.returns-clause-bytes
returns-clause-bytes c =
    let a = c.args in
    let front = c.frame_of-front in
    let e = c.lay_entries in
    laid-whole a.out.now a.kinds.now a.namers.now a.steps.now a.n front.result _ e.new.out
    c.if-out-length.false front.ensures c.lay.ensures e.ensures
