use borrow.Author.Rules.{rules}
use Prim.Native.Nat.{◌+◌, ◌-◌, ◌≤◌}
use mathlib.Core.Path.{ap, ◌∙◌}
use native.Mathlib.Omega.{arith}
use lib.ListN.{length, get_or}
use lib.IntN.{pos}
use borrow.Author.Rules.{sfits_of}
use mir.Syntax.{w64}
use mir.ValLaws.{to_z-of_z}
use Rattle.number.specs.Bytes.{word_of}
use Rattle.filling.proofs.Sums.{row-bounds}
use Rattle.filling.proofs.Loops.{lasts_on, lasts-end}
use Rattle.filling.proofs.leaf_keys.Goals as goal
use Rattle.filling.proofs.leaf_keys.Goals.{After-leaf_group-group}

-- a leaf's rows are found: it takes some of those that are left
found : (c : After-leaf_group-group) → let n = length c.args.rows.now in let l = c.loop-i in let count = c.leaf_group-group.result.count in
    ((1 ≤ count) × (count ≤ n - l.i)) × (l.i ≤ n)
found c =
    let l = c.loop-i in
    (row-bounds _ _ (length c.args.rows.now - l.i) _ _ (omega (arith, c.loop-i-test.true)) c.leaf_group-group.ensures.0, l.invariant.order)

pub overflow_add-i : goal.overflow_add-i
overflow_add-i c = omega (arith, found (goal.at.overflow_add-i c).After-leaf_group-group)

pub overflow_sub-i : goal.overflow_sub-i
overflow_sub-i c = omega (arith, found (goal.at.overflow_sub-i c).After-leaf_group-group)

pub offset_bounds-rows-i : goal.offset_bounds-rows-i
offset_bounds-rows-i c = omega (arith, found (goal.at.offset_bounds-rows-i c).After-leaf_group-group)

pub bounds-rows-i : goal.bounds-rows-i
bounds-rows-i c = omega (arith, found (goal.at.bounds-rows-i c).After-leaf_group-group)

pub overflow_add-i-in-loop-i : goal.overflow_add-i-in-loop-i
overflow_add-i-in-loop-i c = omega (arith, found (goal.at.overflow_add-i-in-loop-i c).After-leaf_group-group)

pub loop-i-smaller : goal.loop-i-smaller
loop-i-smaller c = omega (arith, found (goal.at.loop-i-smaller c).After-leaf_group-group)

pub loop-i-preserved : goal.loop-i-preserved
loop-i-preserved c =
    let group = c.leaf_group-group in
    let b = found (goal.at.loop-i-preserved c).After-leaf_group-group in
    let last = get_or c.args.rows.now (c.loop-i.i + group.result.count - 1) (pos 0) in
    lasts_on _ _ _ _ _ _ _ _ _ _ _ c.loop-i-test.true c.requires.2 group.ensures.0 b.0.0 b.0.1
    (c.word_of.ensures ∙ ap word_of (to_z-of_z w64 last (search (rules, sfits_of)))) c.loop-i.invariant

pub returns : goal.returns
returns c = lasts-end _ _ _ _ _ _ _ _ _ (omega (arith, c.loop-i-test.false)) c.loop-i.invariant
