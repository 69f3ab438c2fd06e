use native.Mathlib.Omega.{arith}
use mathlib.Core.Path.{refl}
use Rattle.std.proofs.lemmas.Result.{err_from_is_err_and}
use Rattle.refusal.proofs.Laws.{number-some}
use Rattle.page.proofs.Ways.{way-high, way-cell, all_noted}
use Rattle.page.proofs.OpenPage.soundness.Goals as goal

pub returns-then-self-clause-refused : goal.returns-then-self-clause-refused
returns-then-self-clause-refused c = way-high _ _ _ _ _ _ c.args.self.now.opened _ c.if-self.true

pub returns-in_err-held-clause-refused : goal.returns-in_err-held-clause-refused
returns-in_err-held-clause-refused c =
    let p = err_from_is_err_and c.from_residual.result c.from_residual.ensures.1 in
    rw (p.1, p.2) (way-cell _ _ _ _ _ _ c.args.self.now.opened _ _ c.clear.ensures _ _ _ _ c.in_err-held.ensures.refused (number-some _))

pub rest-requires : goal.rest-requires
rest-requires c = (
  c.if-self.false,
  omega (arith, c.requires),
  all_noted _ _ _ _ _ _ c.args.self.now.opened _ _ c.clear.ensures _ _ _ _ c.in_ok-held.ensures.noted refl,
)
