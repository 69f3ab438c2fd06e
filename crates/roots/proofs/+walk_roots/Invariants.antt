-- The levels that are left fall.
use mathlib.Core.Path.{◌≡◌}
use Prim.Native.Nat.{◌-◌}
use Rattle.dealing.specs.Walk.{run, root_events, schema_roots, over_children}
use Rattle.dealing.proofs.WalkLaws.{rest_of}
use Rattle.image.specs.Image.{file_of}
use Rattle.ledger.specs.Ledger.{state_of}
use Rattle.spelling.specs.Count.{Short}
use Rattle.roots.proofs.+walk_roots.Given as goal

abbrev pub decreases-walk_roots : goal.decreases-walk_roots
decreases-walk_roots l = l.levels

-- the roots under the children from the ith on are left
abbrev pub invariant-loop-i : goal.invariant-loop-i
invariant-loop-i l =
    let f = file_of l.image in record {
      walked : run f.N (state_of l.image l.initial.kinds l.initial.namers l.initial.last) (root_events l.ordered f (schema_roots f l.levels l.p))
          ≡ run f.N (state_of l.image l.kinds l.namers l.last)
          (root_events l.ordered f (over_children (schema_roots f (l.levels - 1)) (f.right l.p) (rest_of f l.p l.i)));
      short : Short f l.h.pages l.short;
    }
