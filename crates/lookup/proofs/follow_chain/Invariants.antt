use mathlib.Core.Path.{◌≡◌}
use Prim.Native.Nat.{◌-◌}
use Rattle.image.specs.Image.{file_of}
use Rattle.dealing.specs.Lookup.{follow, follow_cell}
use Rattle.image.specs.Ready.{PageAt}
use Rattle.lookup.proofs.follow_chain.Given as goal

abbrev pub invariant-loop-link : goal.invariant-loop-link
invariant-loop-link l =
    PageAt l.image l.h l.holder × (follow_cell (file_of l.image) l.p l.links l.first ≡ follow (file_of l.image) l.holder (l.links - l._link) l.next)
