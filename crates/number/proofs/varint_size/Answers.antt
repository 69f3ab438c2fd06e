use Rattle.std.proofs.Common.{arith}
use Rattle.number.proofs.SpellingLaws.{sizing-done, sizing-more, sizing-ends}
use Rattle.number.proofs.varint_size.Goals as goal

pub returns-then-rest-lt128 : goal.returns-then-rest-lt128
returns-then-rest-lt128 c = sizing-done c.loop-n.invariant (omega arith) c.if-rest-lt128.true

pub loop-n-preserved : goal.loop-n-preserved
loop-n-preserved c = sizing-more c.loop-n.invariant (omega arith) c.if-rest-lt128.false

pub returns : goal.returns
returns c = sizing-ends c.loop-n.invariant c.loop-n-test.false
