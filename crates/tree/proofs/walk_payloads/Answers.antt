use Rattle.std.proofs.lemmas.Result.{err_from_is_err_and}
use mathlib.Core.Path.{ap, ◌∙◌}
use native.Mathlib.Omega.{arith}
use borrow.Author.Rules.{rules}
use Rattle.dealing.specs.Walk.{state, run}
use Rattle.image.specs.Image.{file_of}
use Rattle.tree.proofs.Cells.{cell-at, cell-payload}
use Rattle.tree.proofs.Payloads.{payloads-end, payloads-go, payloads-stop}
use Rattle.tree.proofs.walk_payloads.Goals as goal

pub walk_payload-requires : goal.walk_payload-requires
walk_payload-requires c = let P = c.requires in (cell-at P.0 (omega (arith, P.2)) c.tree_cell-c.ensures, search rules)

pub returns-in_err-walk_payload : goal.returns-in_err-walk_payload
returns-in_err-walk_payload c =
    let P = c.requires in let f = file_of c.args.image.now in
    let q = err_from_is_err_and c.from_residual.result c.from_residual.ensures.1 in
    rw (q.1, q.2) (λ m n. c.loop-i.invariant m n
    ∙ payloads-stop _ _ _ _ _ (omega arith) _ _
    (ap (run f.N (state c.loop-i.kinds c.loop-i.namers m n)) (cell-payload P.0 (omega (arith, P.2)) c.tree_cell-c.ensures) ∙ c.in_err-walk_payload.ensures m n))

pub loop-i-preserved : goal.loop-i-preserved
loop-i-preserved c = λ m n.
    let P = c.requires in let f = file_of c.args.image.now in
    c.loop-i.invariant m n
    ∙ payloads-go _ _ _ _ _ (omega arith) _
    (ap (run f.N (state c.loop-i.kinds c.loop-i.namers m n)) (cell-payload P.0 (omega (arith, P.2)) c.tree_cell-c.ensures) ∙ c.in_ok-walk_payload.ensures m n)

pub returns : goal.returns
returns c = λ m n. c.loop-i.invariant m n ∙ payloads-end _ _ _ _ _ (omega arith)
