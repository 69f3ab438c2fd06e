use Prim.Native.Nat.{◌-◌, ◌≤◌}
use mathlib.Core.Path.{◌≡◌}
use lib.ListN.{length}
use Rattle.cursor_words.specs.Words.{laid_levels}
use Rattle.cursor_words.proofs.write.Given as goal

abbrev pub invariant-loop-k : goal.invariant-loop-k
invariant-loop-k l = (41 ≤ length l.words) × (length l.words ≡ length l.initial.words) × (l.words ≡ laid_levels l.pages l.cells l.k l.initial.words)
