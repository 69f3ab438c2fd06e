use Prim.Native.Nat.{◌+◌, ◌-◌}
use native.Mathlib.Omega.{arith}
use lib.ListN.{get_or}
use Rattle.builder.proofs.Refused.{unread-turn, unread-on, unread-found, unread-end}
use Rattle.builder.proofs.unread.Goals as goal

pub slice_bounds-reads-end : goal.slice_bounds-reads-end
slice_bounds-reads-end c = let l = c.loop-length in omega (arith, unread-turn _ _ _ _ c.loop-length-test.true l.invariant)

pub returns-then-not-reads : goal.returns-then-not-reads
returns-then-not-reads c =
    let l = c.loop-length in
    unread-found _ _ _ _ c.loop-length-test.true l.invariant (l.off + get_or c.args.lengths.now l.length-index 0 - l.off) _
    (omega arith) c.reads.ensures c.if-not-reads.true

pub loop-length-preserved : goal.loop-length-preserved
loop-length-preserved c =
    let l = c.loop-length in
    unread-on _ _ _ _ c.loop-length-test.true l.invariant (l.off + get_or c.args.lengths.now l.length-index 0 - l.off) _
    (omega arith) c.reads.ensures c.if-not-reads.false

pub returns : goal.returns
returns c = let l = c.loop-length in unread-end _ _ _ _ c.loop-length-test.false l.invariant
