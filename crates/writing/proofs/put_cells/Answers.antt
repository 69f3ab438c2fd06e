use lib.IntN.{ℤ, pos}
use mir.Val.{to_z, of_z}
use mir.Syntax.{w64}
use Prim.Native.Nat.{ℕ, ◌+◌, ◌-◌, ◌^◌, ◌<◌, ◌≤◌}
use native.Mathlib.Omega.{arith}
use borrow.Author.Rules.{rules}
use lib.ListN.{length, get_or}
use Rattle.writing.specs.Given.{links_for}
use Rattle.writing.proofs.LeafLaws.{left-ends, turn-held, turn-links, turn-place, turn_on}
use Rattle.writing.proofs.put_cells.Goals as goal
use Rattle.writing.proofs.put_cells.Goals.{In-loop-k}

-- the row of this turn, and the length of its payload
abbrev row_here : In-loop-k → ℤ
row_here c = get_or c.args.rows.now (c.args.i + c.loop-k.k) (pos 0)

abbrev bytes-here : In-loop-k → ℕ
bytes-here c = get_or c.args.lengths.now (c.args.i + c.loop-k.k) 0

-- its payload is held, and its links have numbers
held : (c : In-loop-k) → (bytes-here c ≤ 65536) × (c.loop-k.from + bytes-here c ≤ length c.args.payloads.now)
held c =
    turn-held _ _ _ _ _ _ _ _ c.args.count c.args.i _ _ _ c.requires.whole c.loop-k-test.true c.loop-k.invariant.1

numbered : (c : In-loop-k) → c.loop-k.next + links_for (bytes-here c) < 2 ^ 32
numbered c =
    turn-links _ _ _ _ _ _ _ _ c.args.count c.args.i _ _ _ c.requires.whole c.loop-k-test.true c.loop-k.invariant.1

pub overflow_add-from : goal.overflow_add-from
overflow_add-from c = omega (arith, held (goal.at.overflow_add-from c).In-loop-k)

pub slice_bounds-put_cell-end : goal.slice_bounds-put_cell-end
slice_bounds-put_cell-end c = omega (arith, held (goal.at.slice_bounds-put_cell-end c).In-loop-k)

pub put_cell-at-requires : goal.put_cell-at-requires
put_cell-at-requires c =
    let l = c.loop-k in
    turn-place _ _ _ _ _ _ _ _ c.args.count c.args.i _ _ _ c.requires.whole c.loop-k-test.true l.invariant.1
    (to_z w64 (of_z w64 (row_here (goal.at.put_cell-at-requires c).In-loop-k))) (l.from + bytes-here (goal.at.put_cell-at-requires c).In-loop-k - l.from) (search rules)
    (omega arith)

pub links_of-requires : goal.links_of-requires
links_of-requires c = omega (arith, held (goal.at.links_of-requires c).In-loop-k)

pub overflow_cast-next : goal.overflow_cast-next
overflow_cast-next c = omega (arith, c.links_of.ensures, numbered (goal.at.overflow_cast-next c).In-loop-k)

pub overflow_add-next : goal.overflow_add-next
overflow_add-next c = omega (arith, c.links_of.ensures, numbered (goal.at.overflow_add-next c).In-loop-k)

pub loop-k-preserved : goal.loop-k-preserved
loop-k-preserved c =
    let l = c.loop-k in (
      omega arith,
      turn_on _ _ _ _ _ _ _ _ c.args.count c.args.i _ _ _ c.requires.whole c.loop-k-test.true l.invariant.1
          (to_z w64 (of_z w64 (row_here (goal.at.loop-k-preserved c).In-loop-k))) (l.from + bytes-here (goal.at.loop-k-preserved c).In-loop-k - l.from) (search rules)
          (omega arith) _ _ _ c.put_cell-at.ensures c.links_of.ensures,
    )

pub returns : goal.returns
returns c =
    let l = c.loop-k in
    left-ends _ _ _ _ _ _ _ _ _ _ _ _ _ (omega arith) l.invariant.1
