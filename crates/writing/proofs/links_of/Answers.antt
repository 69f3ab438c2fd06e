use native.Mathlib.Omega.{arith}
use Rattle.cell.specs.Split.{table_leaf}
use Rattle.cell.proofs.SplitLaws.{local-le}
use Rattle.writing.proofs.links_of.Goals as goal

pub overflow_sub-size : goal.overflow_sub-size
overflow_sub-size c = omega (arith, c.local_size-local.ensures, local-le 1024 table_leaf c.args.size (omega arith))
