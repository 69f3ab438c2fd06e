use Rattle.std.proofs.Common.{arith}
use Rattle.number.proofs.BeLaws.{gathered-starts, gathered-room, gathered-on}
use Rattle.number.proofs.be.Goals as goal

pub loop-i-init : goal.loop-i-init
loop-i-init c = gathered-starts _ _ _

pub overflow_mul-u : goal.overflow_mul-u
overflow_mul-u c = omega (arith, gathered-room c.loop-i.invariant (omega arith) (omega arith))

pub overflow_add-u : goal.overflow_add-u
overflow_add-u c =
    omega (arith, gathered-room c.loop-i.invariant (omega arith) (omega arith))

pub loop-i-preserved : goal.loop-i-preserved
loop-i-preserved c = gathered-on c.loop-i.invariant _ c.loop-i-test.true c.from.ensures (omega arith)
