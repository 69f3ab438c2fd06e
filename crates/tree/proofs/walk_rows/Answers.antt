use Rattle.std.proofs.lemmas.Result.{err_from_is_err_and}
use mathlib.Core.Path.{ap, ◌∙◌}
use native.Mathlib.Omega.{arith}
use Rattle.dealing.specs.Walk.{run, leaf_events}
use Rattle.dealing.proofs.WalkLaws.{rest_all, leaf-end, leaf-goes, leaf-stops}
use Rattle.image.specs.Image.{file_of}
use Rattle.ledger.specs.Ledger.{state_of}
use Rattle.tree.specs.Spots.{mode_of}
use Rattle.tree.proofs.walk_rows.Goals as goal

pub loop-i-init : goal.loop-i-init
loop-i-init c =
    let a = c.args in let f = file_of a.image.now in
    ap (λ x. run f.N (state_of a.image.now a.kinds.now a.namers.now a.t) (leaf_events f (mode_of a.mode) a.p 0 x)) (rest_all f a.p)

pub returns-in_err-last : goal.returns-in_err-last
returns-in_err-last c =
    let q = err_from_is_err_and c.from_residual.result c.from_residual.ensures.1 in
    rw (q.1, q.2) (c.loop-i.invariant ∙ leaf-stops _ _ _ _ _ (omega (arith, c.requires.3)) _ _ c.in_err-last.ensures)

pub loop-i-preserved : goal.loop-i-preserved
loop-i-preserved c = c.loop-i.invariant ∙ leaf-goes _ _ _ _ _ (omega (arith, c.requires.3)) _ c.in_ok-last.ensures

pub returns : goal.returns
returns c = c.loop-i.invariant ∙ leaf-end _ _ _ _ _ (omega (arith, c.requires.3))
