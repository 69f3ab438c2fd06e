use Rattle.std.proofs.lemmas.Result.{err_from_is_err_and}
use mathlib.Core.Path.{◌∙◌}
use native.Mathlib.Omega.{arith}
use borrow.Author.Rules.{rules}
use Rattle.dealing.proofs.WalkLaws.{freelist-stops, freelist-goes}
use Rattle.dealing.proofs.Passed.{schema-passed}
use Rattle.image.specs.Image.{file_of}
use Rattle.image.proofs.Shape.{shape}
use Rattle.ledger.specs.Ledger.{mark_of}
use Rattle.verdict.proofs.walk_rest.Goals as goal

pub walk_roots-requires : goal.walk_roots-requires
walk_roots-requires c =
    let P = c.requires in let w = schema-passed (file_of c.args.image.now) _ _ P.1.goes in (
      record { opened = P.0; low = omega arith; high = (shape P.0).some },
      record { before = w.0; after = w.1; goes = w.2 },
      search rules,
      P.3,
      P.4,
    )

pub returns-in_err-walk_freelist : goal.returns-in_err-walk_freelist
returns-in_err-walk_freelist c =
    let P = c.requires in let a = c.args in
    let q = err_from_is_err_and c.from_residual.result c.from_residual.ensures.1 in
    (rw (q.1, q.2) (freelist-stops _ _ _ _ P.1.goes _ _ (c.in_err-walk_freelist.ensures (mark_of a.image.now a.t.last) a.t.leaf_at)), P.4)

pub returns : goal.returns
returns c =
    let P = c.requires in let a = c.args in
    (freelist-goes _ _ _ _ P.1.goes _ (c.in_ok-walk_freelist.ensures (mark_of a.image.now a.t.last) a.t.leaf_at) ∙ c.walk_roots.ensures.0, c.walk_roots.ensures.1)
