use Prim.Native.Nat.{◌-◌}
use mathlib.Core.Path.{refl}
use native.Mathlib.Omega.{arith}
use Rattle.std.proofs.lemmas.Result.{err_from_is_err_and}
use Rattle.refusal.proofs.Laws.{number-some}
use Rattle.page.proofs.Cells.{left-done, left-stop, left-more}
use Rattle.page.proofs.OpenPage.place_cells.Goals as goal

pub returns-in_err-cell-clause-refused : goal.returns-in_err-cell-clause-refused
returns-in_err-cell-clause-refused c =
    let p = err_from_is_err_and c.from_residual.result c.from_residual.ensures.1 in
    rw (p.1, p.2) (left-stop _ _ _ _ _ _ _ _ _ c.loop-i.invariant.1 c.loop-i-test.true c.args.self.now.count _ c.in_err-cell.ensures.refused (number-some _))

pub loop-i-preserved : goal.loop-i-preserved
loop-i-preserved c =
    let x = c.in_ok-cell.ensures.lies in (
      omega (arith, c.loop-i.invariant.0),
      left-more _ _ _ _ _ _ _ _ _ c.loop-i.invariant.1 c.loop-i-test.true _ _ x _ c.note.ensures _ c.fall-low.ensures,
      omega (arith, x.high refl, c.loop-i.invariant.2, c.args.self.now.opened.most),
    )

pub returns-clause-noted : goal.returns-clause-noted
returns-clause-noted c =
    left-done _ _ _ _ _ _ _ _ _ c.loop-i.invariant.1 c.args.self.now.count (omega arith) (omega (arith, c.loop-i.invariant, c.args.self.now.few))
