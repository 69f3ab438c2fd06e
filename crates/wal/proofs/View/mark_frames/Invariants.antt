use mathlib.Core.Path.{◌≡◌}
use lib.ListN.{length}
use Rattle.wal.specs.Whole.{Marks}
use Rattle.wal.proofs.View.mark_frames.Given as goal

abbrev pub invariant-loop-k : goal.invariant-loop-k
invariant-loop-k l = (length l.marks ≡ length l.initial.marks) × Marks l.self.state.size l.self.log.now l.k l.self.state.pages l.marks
