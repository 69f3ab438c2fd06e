use Prim.Native.Nat.{◌+◌, ◌-◌, ◌*◌, ◌^◌, ◌<◌, ◌≤◌}
use native.Mathlib.Omega.{arith}
use lib.ListN.{length}
use Rattle.filling.specs.Fill.{sum_from, links_from}
use Rattle.filling.proofs.Loops.{leaves-turn, leaves-room, leaves-off, leaves-on, leaves-end}
use Rattle.filling.proofs.put_leaves.Goals as goal
use Rattle.filling.proofs.put_leaves.Goals.{After-leaf_group-group}

-- a leaf's rows are found: it takes some of those that are left, their cells fit, and so do the leaf and its chains
turn : (c : After-leaf_group-group) → let rows = length c.args.rows.now in let l = c.loop-i in let g = c.leaf_group-group.result in
    ((1 ≤ g.count) × (g.count ≤ rows - l.i) × (2 * g.count ≤ g.used) × (g.used ≤ 1016) × (l.place + 1024 ≤ length c.args.out.now)
    × (l.next + links_from c.args.lengths.now g.count l.i < 2 ^ 32))
    × (l.i ≤ rows)
turn c =
    let left = c.loop-i.invariant in
    (leaves-turn _ _ _ _ _ _ _ _ _ _ _ _ c.loop-i-test.true c.leaf_group-group.ensures left, left.order)

pub overflow_mul-start : goal.overflow_mul-start
overflow_mul-start c = omega (arith, turn (goal.at.overflow_mul-start c).After-leaf_group-group)

pub overflow_sub-start : goal.overflow_sub-start
overflow_sub-start c = omega (arith, turn (goal.at.overflow_sub-start c).After-leaf_group-group)

pub put_leaf-requires : goal.put_leaf-requires
put_leaf-requires c =
    leaves-room _ _ _ _ _ _ _ _ _ _ _ _ c.loop-i-test.true c.leaf_group-group.ensures c.loop-i.invariant

pub sum_of-off-requires : goal.sum_of-off-requires
sum_of-off-requires c =
    omega (arith, turn (goal.at.sum_of-off-requires c).After-leaf_group-group, c.requires.same, c.requires.few)

-- their payloads are held
held : (c : After-leaf_group-group) → let l = c.loop-i in
    l.off + sum_from c.args.lengths.now c.leaf_group-group.result.count l.i ≤ length c.args.payloads.now
held c = leaves-off _ _ _ _ _ _ _ _ _ _ _ _ c.loop-i-test.true c.leaf_group-group.ensures c.loop-i.invariant

pub overflow_add-off : goal.overflow_add-off
overflow_add-off c = omega (arith, held (goal.at.overflow_add-off c).After-leaf_group-group, c.sum_of-off.ensures)

pub links_sum-requires : goal.links_sum-requires
links_sum-requires c =
    (omega (arith, turn (goal.at.links_sum-requires c).After-leaf_group-group, c.requires.same), omega (arith, turn (goal.at.links_sum-requires c).After-leaf_group-group, c.requires.few), c.requires.limits)

pub overflow_cast-next : goal.overflow_cast-next
overflow_cast-next c = omega (arith, turn (goal.at.overflow_cast-next c).After-leaf_group-group, c.links_sum.ensures)

pub overflow_add-next : goal.overflow_add-next
overflow_add-next c = omega (arith, turn (goal.at.overflow_add-next c).After-leaf_group-group, c.links_sum.ensures)

pub overflow_add-i : goal.overflow_add-i
overflow_add-i c = omega (arith, turn (goal.at.overflow_add-i c).After-leaf_group-group)

pub loop-i-smaller : goal.loop-i-smaller
loop-i-smaller c = omega (arith, turn (goal.at.loop-i-smaller c).After-leaf_group-group)

pub loop-i-preserved : goal.loop-i-preserved
loop-i-preserved c =
    leaves-on _ _ _ _ _ _ _ _ _ _ _ _ c.loop-i-test.true c.leaf_group-group.ensures c.loop-i.invariant _ _ _
    c.put_leaf.ensures c.sum_of-off.ensures c.links_sum.ensures

pub returns : goal.returns
returns c = leaves-end _ _ _ _ _ _ _ _ _ _ (omega (arith, c.loop-i-test.false)) c.loop-i.invariant
