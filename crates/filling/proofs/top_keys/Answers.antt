use Prim.Native.Nat.{◌-◌, ◌≤◌}
use mathlib.Core.Path.{refl}
use native.Mathlib.Omega.{arith}
use Rattle.filling.proofs.Sums.{key-bounds}
use Rattle.filling.proofs.Loops.{lasts_on, lasts-end}
use Rattle.filling.proofs.top_keys.Goals as goal
use Rattle.filling.proofs.top_keys.Goals.{After-inner_group-count}

-- a page's children are found: it takes some of those that are left
found : (c : After-inner_group-count) → let l = c.loop-i in let n = c.inner_group-count.result in
    ((1 ≤ n) × (n ≤ c.args.k - l.i)) × (l.i ≤ c.args.k)
found c =
    let l = c.loop-i in
    (key-bounds _ (c.args.k - l.i) _ _ (omega (arith, c.loop-i-test.true)) c.inner_group-count.ensures, l.invariant.order)

pub overflow_add-tops : goal.overflow_add-tops
overflow_add-tops c = omega (arith, found (goal.at.overflow_add-tops c).After-inner_group-count)

pub overflow_sub-tops : goal.overflow_sub-tops
overflow_sub-tops c = omega (arith, found (goal.at.overflow_sub-tops c).After-inner_group-count)

pub offset_bounds-keys-i : goal.offset_bounds-keys-i
offset_bounds-keys-i c =
    omega (arith, found (goal.at.offset_bounds-keys-i c).After-inner_group-count, c.requires.0)

pub bounds-keys-i : goal.bounds-keys-i
bounds-keys-i c =
    omega (arith, found (goal.at.bounds-keys-i c).After-inner_group-count, c.requires.0)

pub overflow_add-i : goal.overflow_add-i
overflow_add-i c = omega (arith, found (goal.at.overflow_add-i c).After-inner_group-count)

pub loop-i-smaller : goal.loop-i-smaller
loop-i-smaller c = omega (arith, found (goal.at.loop-i-smaller c).After-inner_group-count)

pub loop-i-preserved : goal.loop-i-preserved
loop-i-preserved c =
    let b = found (goal.at.loop-i-preserved c).After-inner_group-count in
    lasts_on _ _ _ _ _ _ _ _ _ _ _ c.loop-i-test.true c.requires.1 c.inner_group-count.ensures b.0.0 b.0.1 refl
    c.loop-i.invariant

pub returns : goal.returns
returns c = lasts-end _ _ _ _ _ _ _ _ _ (omega (arith, c.loop-i-test.false)) c.loop-i.invariant
