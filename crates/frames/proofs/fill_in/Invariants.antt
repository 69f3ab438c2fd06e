use Prim.Native.Nat.{◌≤◌}
use lib.ListN.{length}
use Rattle.frames.specs.Filling.{Filling}
use Rattle.frames.proofs.fill_in.Given as goal

abbrev pub invariant-loop-k : goal.invariant-loop-k
invariant-loop-k l = (l.pages ≤ length l.table) × Filling l.view.state.size l.view.log.now l.k l.pages l.initial.table l.table
