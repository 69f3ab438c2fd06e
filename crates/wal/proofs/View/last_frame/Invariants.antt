use mathlib.Core.Path.{◌≡◌}
use Rattle.wal.specs.Frames.{last_frame}
use Rattle.wal.proofs.View.last_frame.Given as goal

abbrev pub invariant-loop-k : goal.invariant-loop-k
invariant-loop-k l = last_frame l.self.state.size l.self.log.now l.page l.self.state.frames ≡ last_frame l.self.state.size l.self.log.now l.page l.k
