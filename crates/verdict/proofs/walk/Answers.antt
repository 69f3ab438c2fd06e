use Rattle.std.proofs.lemmas.Result.{err_from_is_err_and}
use native.Mathlib.Omega.{arith}
use borrow.Author.Rules.{rules}
use Rattle.dealing.proofs.WalkLaws.{schema-stops}
use Rattle.image.proofs.Shape.{shape}
use Rattle.verdict.proofs.VerdictLaws.{schema-run, room-schema}
use Rattle.verdict.proofs.walk.Goals as goal

pub walk_page-requires : goal.walk_page-requires
walk_page-requires c =
    let P = c.requires in (
      record { opened = P.0; low = omega arith; high = (shape P.0).some },
      search rules,
      room-schema P.0 c.args.ordered.now c.args.work.now P.2,
      P.3,
    )

pub walk_rest-requires : goal.walk_rest-requires
walk_rest-requires c =
    let P = c.requires in let z = c.begin.ensures in (
      P.0,
      record { goes = schema-run _ _ _ _ z.0 z.1 c.in_ok-t.ensures.0 },
      search rules,
      omega (arith, P.2),
      c.walk_page.ensures.1,
    )

pub returns-in_err-t : goal.returns-in_err-t
returns-in_err-t c =
    let z = c.begin.ensures in
    let q = err_from_is_err_and c.from_residual.result c.from_residual.ensures.1 in
    (rw (q.1, q.2) (schema-stops _ _ _ _ _ (schema-run _ _ _ _ z.0 z.1 c.in_err-t.ensures.0)), c.walk_page.ensures.1)
