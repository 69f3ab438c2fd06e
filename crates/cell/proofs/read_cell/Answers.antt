use native.Mathlib.Omega.{arith}
use Rattle.number.proofs.VarintLaws.{long-one}
use Rattle.cell.proofs.CellWays.{word-within, cell-past, cell-key, length-short, length-read}
use Rattle.cell.proofs.read_cell.Goals as goal

pub returns-then-u-from : goal.returns-then-u-from
returns-then-u-from c = cell-past _ _ _ _ _ c.child_width.ensures _ c.if-u-from.true c.refused.ensures

pub returns-then-kind-eq-TABLE_INTERIOR : goal.returns-then-kind-eq-TABLE_INTERIOR
returns-then-kind-eq-TABLE_INTERIOR c =
    cell-key _ _ _ _ _ c.child_width.ensures c.if-u-from.false _ c.if-kind-eq-TABLE_INTERIOR.true
    c.key_cell.ensures

pub returns-then-w-eq0 : goal.returns-then-w-eq0
returns-then-w-eq0 c =
    length-short _ _ _ _ _ c.child_width.ensures c.if-u-from.false c.if-kind-eq-TABLE_INTERIOR.false _
    c.varint_word-w.ensures _ c.if-w-eq0.true c.refused-then-w-eq0.ensures

pub overflow_add-from-2 : goal.overflow_add-from-2
overflow_add-from-2 c = let h = word-within _ _ _ c.varint_word-w.result c.varint_word-w.ensures c.if-w-eq0.false in omega arith

pub payload_cell-requires : goal.payload_cell-requires
payload_cell-requires c =
    let w = c.varint_word-w.result in
    let h = word-within _ _ _ w c.varint_word-w.ensures c.if-w-eq0.false in omega (arith, c.long_of.ensures, long-one w)

pub returns : goal.returns
returns c =
    length-read _ _ _ _ _ c.child_width.ensures c.if-u-from.false c.if-kind-eq-TABLE_INTERIOR.false _
    c.varint_word-w.ensures _ _ c.if-w-eq0.false c.long_of.ensures c.payload_cell.ensures
