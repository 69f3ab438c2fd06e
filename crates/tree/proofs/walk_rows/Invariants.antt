use mathlib.Core.Path.{◌≡◌}
use Rattle.dealing.specs.File.{cells_of}
use Rattle.dealing.specs.Walk.{run, leaf_events}
use Rattle.dealing.proofs.WalkLaws.{rest_of}
use Rattle.image.specs.Image.{file_of}
use Rattle.ledger.specs.Ledger.{state_of}
use Rattle.tree.specs.Spots.{mode_of}
use Rattle.tree.proofs.walk_rows.Given as goal

-- the cells from the ith on are left
abbrev pub invariant-loop-i : goal.invariant-loop-i
invariant-loop-i l =
    let f = file_of l.image in let m = mode_of l.mode in
    run f.N (state_of l.image l.initial.kinds l.initial.namers l.initial.last) (leaf_events f m l.p 0 (cells_of f l.p))
    ≡ run f.N (state_of l.image l.kinds l.namers l.last) (leaf_events f m l.p l.i (rest_of f l.p l.i))
