use Prim.Native.Nat.{◌-◌, ◌≤◌}
use mathlib.Core.Path.{◌≡◌}
use Rattle.cursor_words.specs.Words.{pages_in, cells_in}
use Rattle.cursor_words.proofs.read.Given as goal

abbrev pub invariant-loop-k : goal.invariant-loop-k
invariant-loop-k l = (l.pages ≡ pages_in l.words l.k) × (l.cells ≡ cells_in l.words l.k)
