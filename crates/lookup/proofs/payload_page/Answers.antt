use native.Mathlib.Omega.{arith}
use Rattle.image.proofs.Shape.{shape}
use Rattle.lookup.proofs.payload_page.Goals as goal

pub with_marks-requires-clause-fits : goal.with_marks-requires-clause-fits
with_marks-requires-clause-fits c = let s = shape c.requires.opened in omega arith
