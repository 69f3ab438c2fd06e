use Prim.Native.Nat.{◌+◌, ◌-◌}
use mathlib.Core.Path.{◌≡◌}
use native.Mathlib.Omega.{arith}
use lib.ListN.{length}
use Rattle.wire.proofs.Laws.{same-part}
use Rattle.wire.proofs.same_at.Goals as goal

pub returns : goal.returns
returns c =
    let a = c.args in
    let e : a.at + length a.want.now - a.at ≡ length a.want.now = omega arith in
    same-part a.w.now a.want.now a.at _ c.eq.result e c.eq.ensures
