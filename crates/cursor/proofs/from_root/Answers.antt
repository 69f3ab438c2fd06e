use Rattle.image.proofs.Shape.{shape}
use native.Mathlib.Omega.{arith}
use Rattle.cursor.proofs.from_root.Goals as goal

pub descend-requires-2 : goal.descend-requires-2
descend-requires-2 c =
    let a = c.requires in
    let s = shape a.opened in
    (a, omega arith, omega arith)
