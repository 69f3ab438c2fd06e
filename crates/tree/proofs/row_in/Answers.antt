use native.Mathlib.Omega.{arith}
use Rattle.image.proofs.Shape.{shape}
use Rattle.tree.proofs.row_in.Goals as goal

pub schema_row-requires : goal.schema_row-requires
schema_row-requires c = let s = shape c.requires.at.opened in omega (arith, s.few)
