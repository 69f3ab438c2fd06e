use mathlib.Core.Path.{◌≡◌}
use Prim.Native.Nat.{ℕ, ◌≤◌}
use mathlib.Core.Option.{Option}
use Rattle.dealing.specs.Good.{Mark}
use Rattle.dealing.specs.Walk.{chain_events, chain_of, state, run}
use Rattle.image.specs.Image.{file_of}
use Rattle.image.specs.Ready.{PageAt}
use Rattle.ledger.specs.Ledger.{Open}
use Rattle.ledger.proofs.walk_chain.Given as goal

-- pages that follow one another: whatever becomes of the rest becomes of what was left at first; none is left out
abbrev pub invariant-loop-t : goal.invariant-loop-t
invariant-loop-t l =
    PageAt l.image l.h l.holder
    × Open l.n l.kinds l.namers
    × (l.n ≡ l.h.pages)
    × ((m : Option Mark) (at : ℕ) → run (file_of l.image).N (state l.initial.kinds l.initial.namers m at) (chain_events (file_of l.image) l.initial.holder l.initial.kind l.initial.left l.initial.t)
    ≡ run (file_of l.image).N (state l.kinds l.namers m at) (chain_events (file_of l.image) l.holder l.kind l.left l.t))
    × (l.left ≤ l.initial.left)
    × (l.left ≡ l.initial.left → l.t ≡ l.place)

abbrev pub decreases-loop-t : goal.decreases-loop-t
decreases-loop-t l =
    l.left

abbrev pub invariant-loop-left : goal.invariant-loop-left
invariant-loop-left l =
    PageAt l.image l.h l.holder
    × Open l.n l.kinds l.namers
    × (l.n ≡ l.h.pages)
    × ((m : Option Mark) (at : ℕ) → run (file_of l.image).N (state l.initial.kinds l.initial.namers m at) (chain_of (file_of l.image) l.p l.links l.first)
    ≡ run (file_of l.image).N (state l.kinds l.namers m at) (chain_events (file_of l.image) l.holder l.kind l.left l.t))

abbrev pub decreases-loop-left : goal.decreases-loop-left
decreases-loop-left l =
    l.left
