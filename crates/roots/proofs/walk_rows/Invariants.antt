use mathlib.Core.Path.{◌≡◌}
use Rattle.dealing.specs.File.{cells_of}
use Rattle.dealing.specs.Walk.{run, root_events, leaf_roots}
use Rattle.dealing.proofs.WalkLaws.{rest_of}
use Rattle.image.specs.Image.{file_of}
use Rattle.ledger.specs.Ledger.{state_of}
use Rattle.spelling.specs.Count.{Short}
use Rattle.roots.proofs.walk_rows.Given as goal

abbrev pub invariant-loop-i : goal.invariant-loop-i
invariant-loop-i l =
    let f = file_of l.image in record {
      walked : run f.N (state_of l.image l.initial.kinds l.initial.namers l.initial.last) (root_events l.ordered f (leaf_roots f l.p 0 (cells_of f l.p)))
          ≡ run f.N (state_of l.image l.kinds l.namers l.last) (root_events l.ordered f (leaf_roots f l.p l.i (rest_of f l.p l.i)));
      short : Short f l.h.pages l.short;
    }
