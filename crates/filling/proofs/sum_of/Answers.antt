use Prim.Native.Nat.{◌+◌}
use mathlib.Core.Path.{refl}
use native.Mathlib.Omega.{arith}
use Rattle.filling.proofs.Sums.{total-on, total-end}
use Rattle.filling.proofs.sum_of.Goals as goal

pub loop-m-preserved : goal.loop-m-preserved
loop-m-preserved c =
    let l = c.loop-m in (
      omega arith,
      omega (arith, c.type_inv.lengths (c.args.i + l.m)),
      total-on _ _ _ _ _ _ c.loop-m-test.true refl l.invariant.2,
    )

pub returns : goal.returns
returns c = total-end _ _ _ _ _ (omega arith) c.loop-m.invariant.2
