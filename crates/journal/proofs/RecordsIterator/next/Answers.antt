use Rattle.std.proofs.Common.{length, ap, arith, rules}
use Rattle.journal.proofs.ReadingLaws.{here-whole, next-taken, next-skipped, goes_on}
use Rattle.journal.proofs.RecordsIterator.next.Goals as goal

pub be32-number-requires : goal.be32-number-requires
be32-number-requires c = omega (arith, here-whole _ _ _ c.loop-at.invariant _ c.settle.ensures c.loop-at-test.true)

pub overflow_add-self : goal.overflow_add-self
overflow_add-self c = omega (arith, here-whole _ _ _ c.loop-at.invariant _ c.settle.ensures c.loop-at-test.true)

pub overflow_add-self-in-loop-at : goal.overflow_add-self-in-loop-at
overflow_add-self-in-loop-at c = omega (arith, here-whole _ _ _ c.loop-at.invariant _ c.settle.ensures c.loop-at-test.true)

pub overflow_add-result : goal.overflow_add-result
overflow_add-result c = omega (arith, here-whole _ _ _ c.loop-at.invariant _ c.settle.ensures c.loop-at-test.true)

pub returns-then-number-self-clause-steps : goal.returns-then-number-self-clause-steps
returns-then-number-self-clause-steps c =
    next-taken _ _ _ c.loop-at.invariant _ c.settle.ensures c.loop-at-test.true _ c.be32-number.ensures c.if-number-self.true

pub returns-then-number-self-clause-goes : goal.returns-then-number-self-clause-goes
returns-then-number-self-clause-goes c =
    let step = next-taken _ _ _ c.loop-at.invariant _ c.settle.ensures c.loop-at-test.true _ c.be32-number.ensures c.if-number-self.true in
    let shorter = ap length step in search rules

pub loop-at-smaller : goal.loop-at-smaller
loop-at-smaller c = goes_on _ _ _ c.loop-at.invariant _ c.settle.ensures c.loop-at-test.true

pub loop-at-preserved : goal.loop-at-preserved
loop-at-preserved c =
    next-skipped _ _ _ c.loop-at.invariant _ c.settle.ensures c.loop-at-test.true _ c.be32-number.ensures c.if-number-self.false
