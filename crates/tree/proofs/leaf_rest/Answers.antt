use Rattle.std.proofs.lemmas.Result.{err_from_is_err_and}
use mathlib.Core.Path.{◌≡◌, ap, ◌∙◌}
use native.Mathlib.Omega.{arith}
use Rattle.dealing.specs.Walk.{run, went, payload_events}
use Rattle.image.specs.Image.{file_of}
use Rattle.ledger.specs.Ledger.{state_of}
use Rattle.tree.proofs.Cells.{cell-at, cell-payload, cell-walked}
use Rattle.tree.proofs.Leaves.{rest-payload-stops, rest-payload-goes}
use Rattle.tree.proofs.leaf_rest.Goals as goal
use Rattle.tree.proofs.leaf_rest.Goals.{In_ok-walk_payload}

pub walk_payload-requires : goal.walk_payload-requires
walk_payload-requires c = let P = c.requires in (cell-at P.0 P.3 P.4, P.1)

pub returns-in_err-walk_payload : goal.returns-in_err-walk_payload
returns-in_err-walk_payload c =
    let a = c.args in let b = a.image.now in let P = c.requires in
    let q = err_from_is_err_and c.from_residual.result c.from_residual.ensures.1 in
    rw (q.1, q.2) (rest-payload-stops _ _ _ _ _ _ _ (ap (run (file_of b).N (state_of b a.kinds.now a.namers.now a.t)) (cell-payload P.0 P.3 P.4) ∙ c.in_err-walk_payload.ensures _ _))

walked : (c : In_ok-walk_payload)
    → let a = c.args in let b = a.image.now in let f = file_of b in let w = c.walk_payload.new in
    run f.N (state_of b a.kinds.now a.namers.now a.t) (payload_events f a.p (f.cell a.p a.i)) ≡ went (state_of b w.kinds w.namers a.t)
walked c =
    let a = c.args in let b = a.image.now in let P = c.requires in
    ap (run (file_of b).N (state_of b a.kinds.now a.namers.now a.t)) (cell-payload P.0 P.3 P.4) ∙ c.in_ok-walk_payload.ensures _ _

pub leaf_last-requires : goal.leaf_last-requires
leaf_last-requires c =
    let P = c.requires in let v = cell-walked P.0 P.3 P.4 _ _ (walked (goal.at.leaf_last-requires c).In_ok-walk_payload) in
    (P.0, omega (arith, P.2), P.3, P.4, v.0, v.1)

pub returns : goal.returns
returns c = rest-payload-goes _ _ _ _ _ _ (walked (goal.at.returns c).In_ok-walk_payload) ∙ c.leaf_last.ensures _ _
