use Prim.Native.Nat.{ℕ, ◌+◌}
use mathlib.Core.Path.{◌≡◌, ap, subst}
use native.Mathlib.Omega.{arith}
use lib.ListN.{get_or}
use Rattle.filling.proofs.Sums.{KeysTaking, keys_on, keys-full, keys-done, key-most}
use Rattle.filling.proofs.inner_taken.Goals as goal
use Rattle.filling.proofs.inner_taken.Goals.{After-varint_size}

pub returns-then-used-gt1012 : goal.returns-then-used-gt1012
returns-then-used-gt1012 c =
    let l = c.loop-m in
    keys-full _ _ _ _ _ c.loop-m-test.true c.if-used-gt1012.true l.invariant

-- the key that is weighed
abbrev key : After-varint_size → ℕ
key c =
    get_or c.args.keys.now (c.args.i + c.loop-m.m) 0

pub overflow_add-used : goal.overflow_add-used
overflow_add-used c = omega (arith, c.varint_size.ensures, key-most (key (goal.at.overflow_add-used c).After-varint_size))

pub overflow_add-used-in-loop-m : goal.overflow_add-used-in-loop-m
overflow_add-used-in-loop-m c = omega (arith, c.varint_size.ensures, key-most (key (goal.at.overflow_add-used-in-loop-m c).After-varint_size), c.loop-m.invariant.fits)

pub loop-m-preserved : goal.loop-m-preserved
loop-m-preserved c =
    keys_on _ _ _ _ _ _ c.loop-m-test.true (omega (arith, c.if-used-gt1012.false)) (ap (λ x. 6 + x) c.varint_size.ensures)
    c.loop-m.invariant

pub returns : goal.returns
returns c =
    let a = c.args in
    let e : c.loop-m.m ≡ a.k = omega (arith, c.loop-m-test.false, c.loop-m.invariant) in
    keys-done _ _ _ _ _ (omega arith) (subst (λ m. KeysTaking a.keys.now a.k a.i m c.loop-m.used) e c.loop-m.invariant)
