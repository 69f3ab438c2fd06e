use Prim.Native.Nat.{◌+◌}
use mathlib.Core.Path.{ap}
use native.Mathlib.Omega.{arith}
use lib.ListN.{get_or}
use Rattle.number.specs.Varint.{varint_size}
use Rattle.filling.proofs.Sums.{total-on, total-end, key-most}
use Rattle.filling.proofs.keys_size.Goals as goal

pub overflow_add-sum : goal.overflow_add-sum
overflow_add-sum c =
    let a = c.args in
    let l = c.loop-m in
    omega (arith, c.varint_size.ensures, key-most (get_or a.keys.now (a.i + l.m) 0))

pub overflow_add-sum-in-loop-m : goal.overflow_add-sum-in-loop-m
overflow_add-sum-in-loop-m c =
    let a = c.args in
    let l = c.loop-m in
    omega (arith, c.varint_size.ensures, key-most (get_or a.keys.now (a.i + l.m) 0))

pub loop-m-preserved : goal.loop-m-preserved
loop-m-preserved c =
    let a = c.args in
    let l = c.loop-m in (
      omega arith,
      omega (arith, c.varint_size.ensures, key-most (get_or a.keys.now (a.i + l.m) 0)),
      total-on (λ j. 4 + varint_size (get_or a.keys.now j 0)) a.k a.i l.m l.sum _ c.loop-m-test.true (ap (λ x. 4 + x) c.varint_size.ensures) l.invariant.2,
    )

pub returns : goal.returns
returns c =
    let a = c.args in
    let l = c.loop-m in
    total-end (λ j. 4 + varint_size (get_or a.keys.now j 0)) a.k a.i l.m l.sum (omega arith) l.invariant.2
