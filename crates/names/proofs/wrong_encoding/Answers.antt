use Rattle.names.proofs.Laws.{text-unasked, text-asked}
use Rattle.names.proofs.wrong_encoding.Goals as goal

pub returns-then-not-is_empty : goal.returns-then-not-is_empty
returns-then-not-is_empty c =
    let a = c.args in text-asked a.ordered.now a.image.now _ c.if-not-is_empty.ensures c.be32.ensures

pub returns-else-not-is_empty : goal.returns-else-not-is_empty
returns-else-not-is_empty c =
    let a = c.args in rw c.if-not-is_empty.false (text-unasked a.ordered.now a.image.now c.if-not-is_empty.ensures)
