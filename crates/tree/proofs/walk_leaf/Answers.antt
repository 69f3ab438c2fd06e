use Rattle.std.proofs.lemmas.Result.{err_from_is_err_and}
use mathlib.Core.Path.{◌∙◌}
use Rattle.dealing.specs.File.{cells_of}
use Rattle.dealing.specs.Walk.{leaf_events}
use Rattle.image.specs.Image.{file_of}
use Rattle.ledger.specs.Ledger.{state_of}
use Rattle.tree.specs.Spots.{mode_of}
use Rattle.tree.proofs.Leaves.{leaf-stops, leaf-goes}
use Rattle.tree.proofs.walk_leaf.Goals as goal

pub returns-in_err-next : goal.returns-in_err-next
returns-in_err-next c =
    let a = c.args in let b = a.image.now in let f = file_of b in
    let q = err_from_is_err_and c.from_residual.result c.from_residual.ensures.1 in
    rw (q.1, q.2) (leaf-stops f (mode_of a.mode) a.p a.levels (state_of b a.kinds.now a.namers.now a.t) _ _ _ (c.in_err-next.ensures f.N b a.kinds.now a.namers.now))

pub returns : goal.returns
returns c =
    let a = c.args in let b = a.image.now in let f = file_of b in
    leaf-goes f (mode_of a.mode) a.p a.levels (state_of b a.kinds.now a.namers.now a.t) _ (leaf_events f (mode_of a.mode) a.p 0 (cells_of f a.p))
    (c.in_ok-next.ensures f.N b a.kinds.now a.namers.now)
    ∙ c.walk_rows.ensures
