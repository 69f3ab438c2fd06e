use Rattle.cells.proofs.ReadingLaws.{told_none, told-beyond, told-fills, told-fails}
use Rattle.cells.proofs.reads.Goals as goal

pub returns-else-have-whole : goal.returns-else-have-whole
returns-else-have-whole c = told_none _ _ c.varint_word-head.result c.varint_word-head.ensures c.if-head-eq0.true c.if-have-whole.false

pub returns-then-whole-head : goal.returns-then-whole-head
returns-then-whole-head c =
    told-beyond _ _ c.varint_word-head.result c.varint_word-head.ensures c.if-head-eq0.false c.if-whole-head.true

pub returns-then-types_fill : goal.returns-then-types_fill
returns-then-types_fill c =
    let w = c.varint_word-head in
    let t = c.types_fill in
    told-fills _ _ w.result w.ensures c.if-head-eq0.false t.result c.if-have-head.false t.ensures c.if-types_fill.true

pub returns-else-types_fill : goal.returns-else-types_fill
returns-else-types_fill c =
    let w = c.varint_word-head in
    let t = c.types_fill in
    told-fails _ _ w.result w.ensures c.if-head-eq0.false t.result c.if-have-head.false t.ensures c.if-types_fill.false
