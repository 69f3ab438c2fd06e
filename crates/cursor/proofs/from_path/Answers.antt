use Rattle.image.proofs.Shape.{shape}
use native.Mathlib.Omega.{arith}
use Rattle.cursor.proofs.from_path.Goals as goal

pub next_in-requires-2 : goal.next_in-requires-2
next_in-requires-2 c =
    let a = c.requires in
    let s = shape a.0 in
    (a.0, omega arith, a.1)
