use mathlib.Core.Path.{◌≡◌}
use lib.ListN.{length}
use Rattle.wal.specs.Whole.{lay_frames}
use Rattle.wal.proofs.View.lay_frames.Given as goal

abbrev pub invariant-loop-k : goal.invariant-loop-k
invariant-loop-k l =
    (length l.out ≡ length l.initial.out)
    × (l.out ≡ lay_frames l.self.state.size l.self.log.now l.self.state.pages l.initial.out l.k)
