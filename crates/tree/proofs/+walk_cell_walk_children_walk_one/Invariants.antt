-- The walk over children, that of a cell and that of one page go down together: levels left, then cells left.
use mathlib.Core.Path.{◌≡◌}
use Prim.Native.Nat.{◌+◌, ◌-◌, ◌*◌, ◌≤◌}
use Rattle.dealing.specs.Walk.{run, page_events}
use Rattle.image.specs.Image.{file_of}
use Rattle.ledger.specs.Ledger.{state_of}
use Rattle.spelling.specs.Count.{Short}
use Rattle.tree.specs.Spots.{spot_of, mode_of}
use Rattle.tree.specs.Turns.{turns}
use Rattle.tree.proofs.+walk_cell_walk_children_walk_one.Given as goal

abbrev pub decreases-walk_cell : goal.decreases-walk_cell
decreases-walk_cell l = l.levels * 65536 + (l.left + 1)

abbrev pub decreases-walk_children : goal.decreases-walk_children
decreases-walk_children l = l.levels * 65536 + (l.cells + 2)

abbrev pub decreases-walk_one : goal.decreases-walk_one
decreases-walk_one l = l.levels * 65536

abbrev pub invariant-walk_children-loop-left : goal.invariant-walk_children-loop-left
invariant-walk_children-loop-left l =
    let f = file_of l.image in let below = page_events f (mode_of l.mode) l.levels (spot_of l.spot) in record {
      within : l.left ≤ l.cells + 1;
      walked : run f.N (state_of l.image l.initial.kinds l.initial.namers l.initial.last) (turns f (mode_of l.mode) below l.root l.p l.cells l.right 0 (l.cells + 1))
          ≡ run f.N (state_of l.image l.kinds l.namers l.last) (turns f (mode_of l.mode) below l.root l.p l.cells l.right (l.cells + 1 - l.left) l.left);
      short : Short f l.h.pages l.short;
    }

abbrev pub decreases-walk_children-loop-left : goal.decreases-walk_children-loop-left
decreases-walk_children-loop-left l = l.left
