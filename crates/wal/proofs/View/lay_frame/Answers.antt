use Rattle.wal.proofs.RecoverLaws.{frame_here}
use Rattle.wal.proofs.View.lay_frame.Goals as goal

pub returns : goal.returns
returns c = frame_here _ _ _ _ _ _ _ c.if-p-eq0.false c.if-self-p.false c.lay.ensures
