use Prim.Native.Nat.{◌+◌, ◌≤◌}
use native.Mathlib.Omega.{arith}
use Rattle.leaf.proofs.LocalLaws.{most-bound, word-ends, local-is}
use Rattle.leaf.proofs.local_cell.Goals as goal
use Rattle.leaf.proofs.local_cell.Goals.{Else-most-length}

-- the payload's length ends at or before the page's end
length-ends : (c : Else-most-length) →
    c.args.at + c.short-w.result.length ≤ c.args.u
length-ends c =
    let read = c.short-w in
    let some = c.if-n-eq0.false in
    word-ends _ _ _ read.result (read.ensures some).0 some

pub overflow_add-at-2 : goal.overflow_add-at-2
overflow_add-at-2 c = omega (arith, length-ends search)

pub begin_of-requires : goal.begin_of-requires
begin_of-requires c =
    (length-ends search, c.requires.1, c.requires.2, c.requires.5)

pub overflow_add-end : goal.overflow_add-end
overflow_add-end c =
    omega (arith, c.in_ok-start.ensures.within, most-bound c.args.u c.args.kind c.requires.1)

pub returns-clause-taken : goal.returns-clause-taken
returns-clause-taken c =
    let word = c.short-w.ensures c.if-n-eq0.false in
    local-is c.args.p.now c.args.u c.args.kind c.args.at c.requires.1 c.short-w.result c.if-n-eq0.false
    word.0 word.1 (omega arith) _ _ c.in_ok-start.ensures (omega arith) (omega arith)
