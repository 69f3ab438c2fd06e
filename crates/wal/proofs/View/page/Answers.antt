use native.Mathlib.Omega.{arith}
use Rattle.wal.proofs.ViewLaws.{framed}
use Rattle.wal.proofs.View.page.Goals as goal

pub frame_at-requires : goal.frame_at-requires
frame_at-requires c =
    let bounds = c.args.self.now.bounds in
    (bounds.most, omega (arith, framed _ _ _ _ _ _ bounds c.in-Some.ensures))

pub overflow_add-result : goal.overflow_add-result
overflow_add-result c = omega (arith, c.frame_at.ensures, framed _ _ _ _ _ _ c.args.self.now.bounds c.in-Some.ensures)
