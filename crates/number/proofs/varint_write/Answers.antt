use Rattle.std.proofs.Common.{arith}
use Rattle.number.proofs.SpellingLaws.{varint-size}
use Rattle.number.proofs.varint_write.Goals as goal

pub lay_spelling-requires : goal.lay_spelling-requires
lay_spelling-requires c =
    omega (arith, varint-size c.word_of-bits.result, c.varint_size-size.ensures)
