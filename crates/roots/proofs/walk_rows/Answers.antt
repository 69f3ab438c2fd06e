use Rattle.std.proofs.lemmas.Result.{err_from_is_err_and}
use mathlib.Core.Path.{ap, ◌∙◌}
use native.Mathlib.Omega.{arith}
use Rattle.dealing.specs.Walk.{run, root_events, leaf_roots}
use Rattle.dealing.proofs.WalkLaws.{rest_all, rows_end}
use Rattle.image.specs.Image.{file_of}
use Rattle.ledger.specs.Ledger.{state_of}
use Rattle.roots.proofs.RootLaws.{row-stops, row_goes}
use Rattle.roots.proofs.walk_rows.Goals as goal

pub loop-i-init : goal.loop-i-init
loop-i-init c =
    let a = c.args in let f = file_of a.image.now in record {
      walked = ap (λ l. run f.N (state_of a.image.now a.kinds.now a.namers.now a.t) (root_events a.ordered.now f (leaf_roots f a.p 0 l))) (rest_all f a.p);
      short = c.requires.5;
    }

pub returns-in_err-last : goal.returns-in_err-last
returns-in_err-last c =
    let q = err_from_is_err_and c.from_residual.result c.from_residual.ensures.1 in
    (rw (q.1, q.2) (c.loop-i.invariant.walked ∙ row-stops _ _ _ _ _ (omega (arith, c.requires.2)) _ _ c.in_err-last.ensures.0), c.walk_row.ensures.1)

pub loop-i-preserved : goal.loop-i-preserved
loop-i-preserved c = record {
  walked = c.loop-i.invariant.walked ∙ row_goes _ _ _ _ _ (omega (arith, c.requires.2)) _ c.in_ok-last.ensures.0;
  short = c.walk_row.ensures.1;
}

pub returns : goal.returns
returns c = let v = c.loop-i.invariant in (v.walked ∙ rows_end _ _ _ _ _ (omega (arith, c.requires.2)), v.short)
