use Rattle.std.proofs.Common.{arith}
use Rattle.number.proofs.VarintSteps.{reads_short, reads-ninth, reads-last, reads_on, room_next}
use Rattle.number.proofs.varint_rest.Goals as goal

pub overflow_mul-result : goal.overflow_mul-result
overflow_mul-result c = omega (arith, room_next c.loop-n.invariant (omega arith))

pub overflow_add-result-then-x-lt128 : goal.overflow_add-result-then-x-lt128
overflow_add-result-then-x-lt128 c = omega (arith, room_next c.loop-n.invariant (omega arith))

pub returns-then-x-lt128 : goal.returns-then-x-lt128
returns-then-x-lt128 c = reads-last c.loop-n.invariant _ (omega arith) (omega arith) c.from-x.ensures c.if-x-lt128.true

pub overflow_mul-bits : goal.overflow_mul-bits
overflow_mul-bits c = omega (arith, room_next c.loop-n.invariant (omega arith))

pub overflow_add-bits : goal.overflow_add-bits
overflow_add-bits c = omega (arith, room_next c.loop-n.invariant (omega arith))

pub loop-n-preserved : goal.loop-n-preserved
loop-n-preserved c = reads_on c.loop-n.invariant _ (omega arith) (omega arith) c.from-x.ensures (omega arith) c.if-x-lt128.false

pub returns-then-last-left : goal.returns-then-last-left
returns-then-last-left c = reads-ninth c.loop-n.invariant _ (omega arith) (omega arith) c.from.ensures

pub returns : goal.returns
returns c = reads_short c.loop-n.invariant (omega arith)
