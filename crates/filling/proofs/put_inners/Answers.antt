use Prim.Native.Nat.{◌+◌, ◌-◌, ◌^◌, ◌<◌, ◌≤◌}
use native.Mathlib.Omega.{arith}
use lib.ListN.{length}
use Rattle.filling.proofs.Loops.{inners-turn, inners-room, inners-on, inners-end}
use Rattle.filling.proofs.put_inners.Goals as goal
use Rattle.filling.proofs.put_inners.Goals.{After-inner_group-count}

-- a page's children are found: it takes some of those that are left, and the page and their numbers fit
turn : (c : After-inner_group-count) → let l = c.loop-i in let n = c.inner_group-count.result in
    ((1 ≤ n) × (n ≤ c.args.k - l.i) × (l.place + 1024 ≤ length c.args.out.now) × (l.next + n < 2 ^ 32)) × (l.i ≤ c.args.k)
turn c =
    let left = c.loop-i.invariant in
    (inners-turn _ _ _ _ _ _ _ _ _ c.loop-i-test.true c.inner_group-count.ensures left, left.order)

pub overflow_sub-count : goal.overflow_sub-count
overflow_sub-count c = omega (arith, turn (goal.at.overflow_sub-count c).After-inner_group-count)

pub put_group-requires : goal.put_group-requires
put_group-requires c =
    inners-room _ _ _ _ _ _ _ _ _ c.loop-i-test.true c.inner_group-count.ensures c.loop-i.invariant

pub overflow_add-i : goal.overflow_add-i
overflow_add-i c = omega (arith, turn (goal.at.overflow_add-i c).After-inner_group-count)

pub overflow_cast-next : goal.overflow_cast-next
overflow_cast-next c = omega (arith, turn (goal.at.overflow_cast-next c).After-inner_group-count)

pub overflow_add-next : goal.overflow_add-next
overflow_add-next c = omega (arith, turn (goal.at.overflow_add-next c).After-inner_group-count)

pub loop-i-smaller : goal.loop-i-smaller
loop-i-smaller c = omega (arith, turn (goal.at.loop-i-smaller c).After-inner_group-count)

pub loop-i-preserved : goal.loop-i-preserved
loop-i-preserved c =
    inners-on _ _ _ _ _ _ _ _ _ c.loop-i-test.true c.inner_group-count.ensures c.loop-i.invariant _
    c.put_group.ensures

pub returns : goal.returns
returns c = inners-end _ _ _ _ _ _ _ _ (omega (arith, c.loop-i-test.false)) c.loop-i.invariant
