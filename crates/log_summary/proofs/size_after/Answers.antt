use native.Mathlib.Omega.{arith}
use Rattle.wal.proofs.FrameLaws.{frame-prev}
use Rattle.log_summary.proofs.size_after.Goals as goal

pub frame_at-requires : goal.frame_at-requires
frame_at-requires c = omega (arith, frame-prev c.args.size c.args.m (omega arith))

pub overflow_add-frame_at : goal.overflow_add-frame_at
overflow_add-frame_at c = omega (arith, frame-prev c.args.size c.args.m (omega arith), c.frame_at.ensures)

pub be32-requires : goal.be32-requires
be32-requires c = omega (arith, frame-prev c.args.size c.args.m (omega arith), c.frame_at.ensures)
