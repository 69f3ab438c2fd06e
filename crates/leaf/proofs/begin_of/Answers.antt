use native.Mathlib.Omega.{arith}
use Rattle.leaf.proofs.LocalLaws.{word-ends, begun-row}
use Rattle.leaf.proofs.begin_of.Goals as goal

pub overflow_add-start : goal.overflow_add-start
overflow_add-start c = let e = c.plain-w.ensures c.if-w-eq0.false in omega (arith, word-ends _ _ _ c.plain-w.result e.0 c.if-w-eq0.false)

pub returns : goal.returns
returns c =
    let e = c.plain-w.ensures c.if-w-eq0.false in
    begun-row _ _ _ _ _ c.plain-w.result c.if-kind-ne-TABLE_LEAF.false c.if-w-eq0.false e.0 e.1 c.bias-row.ensures
