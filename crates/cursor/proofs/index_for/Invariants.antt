use Rattle.dealing.specs.Cursor.{index_for}
use Rattle.image.specs.Image.{file_of}
use Prim.Native.Nat.{◌-◌}
use mathlib.Core.Path.{◌≡◌}
use Rattle.cursor.proofs.index_for.Given as goal

abbrev pub invariant-loop-i : goal.invariant-loop-i
invariant-loop-i l = index_for (file_of l.image) l.row l.page 0 l.count ≡ index_for (file_of l.image) l.row l.page l.i (l.count - l.i)
