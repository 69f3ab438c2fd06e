use Rattle.std.proofs.lemmas.Result.{err_from_is_err_and}
use mathlib.Core.Path.{◌∙◌}
use mathlib.Core.List.{[]}
use Rattle.dealing.specs.File.{cells_of}
use Rattle.dealing.specs.Walk.{plain_tree, leaf_events}
use Rattle.image.specs.Image.{file_of}
use Rattle.ledger.specs.Ledger.{state_of}
use Rattle.ledger.proofs.Ways.{least-after-leaf}
use Rattle.tree.proofs.Leaves.{leaf-stops, leaf-goes}
use Rattle.tree.proofs.walk_calm.Goals as goal

pub quick_rows-requires : goal.quick_rows-requires
quick_rows-requires c =
    let P = c.requires in (P.0, P.1, P.2, P.3, least-after-leaf P.4 _ _ _ (λ b. c.in_ok-after.ensures 0 b [] []))

pub returns-in_err-after : goal.returns-in_err-after
returns-in_err-after c =
    let a = c.args in let b = a.image.now in let f = file_of b in
    let q = err_from_is_err_and c.from_residual.result c.from_residual.ensures.1 in
    rw (q.1, q.2) (leaf-stops f plain_tree a.p a.levels (state_of b a.kinds.now a.namers.now a.t) _ _ _ (c.in_err-after.ensures f.N b a.kinds.now a.namers.now))

pub returns : goal.returns
returns c =
    let a = c.args in let b = a.image.now in let f = file_of b in
    leaf-goes f plain_tree a.p a.levels (state_of b a.kinds.now a.namers.now a.t) _ (leaf_events f plain_tree a.p 0 (cells_of f a.p))
    (c.in_ok-after.ensures f.N b a.kinds.now a.namers.now)
    ∙ c.quick_rows.ensures
