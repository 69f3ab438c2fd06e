use native.Mathlib.Omega.{arith}
use Rattle.number.proofs.SpellingLaws.{varint-size}
use Rattle.cell.specs.Split.{table_leaf}
use Rattle.cell.proofs.SplitLaws.{local-le}
use Rattle.writing.proofs.cell_size.Goals as goal

pub overflow_add-first : goal.overflow_add-first
overflow_add-first c =
    omega (arith, c.varint_size-first.ensures, c.varint_size-second.ensures, varint-size c.args.size, varint-size c.word_of-bits.result)

pub fields_end-end-requires : goal.fields_end-end-requires
fields_end-end-requires c =
    let size = c.args.size in
    omega (
      arith,
      c.varint_size-first.ensures,
      c.varint_size-second.ensures,
      varint-size size,
      varint-size c.word_of-bits.result,
      c.local_size-local.ensures,
      local-le 1024 table_leaf size (omega arith),
    )
