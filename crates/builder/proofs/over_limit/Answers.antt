use Rattle.builder.proofs.Refused.{over-on, over-found, over-end}
use Rattle.builder.proofs.over_limit.Goals as goal

pub returns-then-length-gt65536 : goal.returns-then-length-gt65536
returns-then-length-gt65536 c =
    let l = c.loop-length in
    over-found _ _ c.loop-length-test.true c.if-length-gt65536.true l.invariant

pub loop-length-preserved : goal.loop-length-preserved
loop-length-preserved c =
    let l = c.loop-length in
    over-on _ _ c.loop-length-test.true c.if-length-gt65536.false l.invariant

pub returns : goal.returns
returns c = let l = c.loop-length in over-end _ _ c.loop-length-test.false l.invariant
