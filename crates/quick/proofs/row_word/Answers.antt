use native.Mathlib.Omega.{arith}
use Rattle.quick.proofs.Laws.{word-inner, word_cut, word-leaf, word-ends}
use borrow.Author.Rules.{rules}
use Rattle.quick.proofs.row_word.Goals as goal

pub returns-then-kind-ne13 : goal.returns-then-kind-ne13
returns-then-kind-ne13 c = search (word-inner, rules)

pub returns-then-w-eq0 : goal.returns-then-w-eq0
returns-then-w-eq0 c = search (word_cut, rules)

pub overflow_add-at-2 : goal.overflow_add-at-2
overflow_add-at-2 c =
    let v = c.varint_word-w in
    omega (arith, word-ends c.args.p.now c.args.u c.args.kind c.args.at v.result c.if-kind-ne13.false v.result v.ensures c.if-w-eq0.false)

pub returns : goal.returns
returns c = search (word-leaf, rules)
