use mathlib.Core.Path.{◌≡◌}
use Prim.Native.Nat.{ℕ, ◌-◌}
use mathlib.Core.Option.{Option}
use Rattle.dealing.specs.Good.{Mark}
use Rattle.dealing.specs.Walk.{trunk_leaves, state, run}
use Rattle.image.specs.Image.{file_of}
use Rattle.ledger.specs.Ledger.{Open}
use Rattle.freelist.proofs.walk_trunk.Given as goal

abbrev pub invariant-loop-j : goal.invariant-loop-j
invariant-loop-j l =
    Open l.h.pages l.kinds l.namers
    × ((m : Option Mark) (at : ℕ) → run (file_of l.image).N (state l.initial.kinds l.initial.namers m at) (trunk_leaves (file_of l.image) l.p ((file_of l.image).trunk_count l.p) 0)
    ≡ run (file_of l.image).N (state l.kinds l.namers m at) (trunk_leaves (file_of l.image) l.p ((file_of l.image).trunk_count l.p - l.j) l.j))
