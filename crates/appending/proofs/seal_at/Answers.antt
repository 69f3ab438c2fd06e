use Rattle.std.proofs.Common.{◌-◌, arith}
use Rattle.wal.proofs.FrameLaws.{frame-mono}
use Rattle.appending.proofs.seal_at.Goals as goal

pub frame_at-requires : goal.frame_at-requires
frame_at-requires c =
    let a = c.args in
    (omega arith, omega (arith, frame-mono a.size (a.m - 1) a.m (omega arith)))
