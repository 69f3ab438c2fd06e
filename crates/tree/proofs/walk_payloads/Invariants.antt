use mathlib.Core.Path.{◌≡◌}
use mathlib.Core.Option.{Option}
use Prim.Native.Nat.{ℕ, ◌-◌}
use Rattle.dealing.specs.Good.{Mark}
use Rattle.dealing.specs.Walk.{state, run}
use Rattle.image.specs.Image.{file_of}
use Rattle.tree.specs.Leaves.{payloads_in}
use Rattle.tree.proofs.walk_payloads.Given as goal

-- the payloads from the ith on are left
abbrev pub invariant-loop-i : goal.invariant-loop-i
invariant-loop-i l =
    (m : Option Mark) (n : ℕ) → run (file_of l.image).N (state l.initial.kinds l.initial.namers m n) (payloads_in (file_of l.image) l.p l.from (l.to - l.from))
    ≡ run (file_of l.image).N (state l.kinds l.namers m n) (payloads_in (file_of l.image) l.p l.i (l.to - l.i))
