use Prim.Native.Nat.{◌+◌, ◌-◌, ◌*◌}
use mathlib.Core.Path.{◌≡◌}
use native.Mathlib.Omega.{arith}
use Rattle.header.specs.Header.{page_of}
use Rattle.header.proofs.Laws.{page-length}
use Rattle.header.proofs.page_of.Goals as goal

pub returns : goal.returns
unfolding page_of
returns c =
    let b = c.args.image.now in
    let z = c.args.size in
    let p = c.args.p in
    let e : (p - 1) * z + z - (p - 1) * z ≡ z = omega arith in
    (rw e, rw e (page-length _ _ _ c.requires))
