use native.Mathlib.Omega.{arith}
use Rattle.cell.proofs.CellWays.{word-within}
use Rattle.cell.proofs.key_cell.Goals as goal

pub overflow_add-result-2 : goal.overflow_add-result-2
overflow_add-result-2 c =
    let h =
    word-within _ _ _ c.varint_word-w.result c.varint_word-w.ensures c.if-w-eq0.false in
    omega arith
