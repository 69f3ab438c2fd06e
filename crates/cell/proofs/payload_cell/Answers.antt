use native.Mathlib.Omega.{arith}
use Rattle.cell.proofs.CellWays.{word-within, payload-over, payload-index, row-short, row_read}
use Rattle.cell.proofs.payload_cell.Goals as goal

pub returns-then-payload-gt-PAYLOAD_LIMIT : goal.returns-then-payload-gt-PAYLOAD_LIMIT
returns-then-payload-gt-PAYLOAD_LIMIT c = payload-over _ _ _ _ _ _ _ _ c.if-payload-gt-PAYLOAD_LIMIT.true c.refused.ensures

pub returns-then-kind-ne-TABLE_LEAF : goal.returns-then-kind-ne-TABLE_LEAF
returns-then-kind-ne-TABLE_LEAF c = payload-index _ _ _ _ _ _ _ _ c.if-payload-gt-PAYLOAD_LIMIT.false c.if-kind-ne-TABLE_LEAF.true c.body_cell.ensures

pub returns-then-w-eq0 : goal.returns-then-w-eq0
returns-then-w-eq0 c =
    row-short _ _ _ _ _ _ _ c.if-payload-gt-PAYLOAD_LIMIT.false c.if-kind-ne-TABLE_LEAF.false _ c.varint_word-w.ensures _
    c.if-w-eq0.true c.refused-then-w-eq0.ensures

pub overflow_add-next : goal.overflow_add-next
overflow_add-next c = let h = word-within _ _ _ c.varint_word-w.result
    c.varint_word-w.ensures c.if-w-eq0.false in omega arith

pub body_cell-requires-2 : goal.body_cell-requires-2
body_cell-requires-2 c = let h = word-within _ _ _ c.varint_word-w.result
    c.varint_word-w.ensures c.if-w-eq0.false in omega arith

pub returns : goal.returns
returns c =
    row_read _ _ _ _ _ _ _ c.if-payload-gt-PAYLOAD_LIMIT.false c.if-kind-ne-TABLE_LEAF.false _ c.varint_word-w.ensures _ _ _
    c.if-w-eq0.false c.bias-row.ensures c.long_of.ensures c.body_cell-2.ensures
