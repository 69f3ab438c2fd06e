use Prim.Native.Nat.{◌+◌, ◌*◌, ◌^◌, ◌<◌, ◌≤◌}
use native.Mathlib.Omega.{arith}
use lib.ListN.{length, get_or}
use Rattle.writing.specs.Given.{links_for}
use Rattle.filling.proofs.Loops.{chains-turn, chains-on, chains-end}
use Rattle.filling.proofs.put_chains.Goals as goal
use Rattle.filling.proofs.put_chains.Goals.{In-loop-length}

-- a row is left: its payload is held, and its chain fits
turn : (c : In-loop-length) → let l = c.loop-length in let n = get_or c.args.lengths.now l.length-index 0 in
    (n ≤ 65536) × (l.off + n ≤ length c.args.payloads.now) × (l.place + 1024 * links_for n ≤ length l.out) × (l.next + links_for n < 2 ^ 32)
turn c = chains-turn _ _ _ _ _ _ _ _ _ c.loop-length-test.true c.loop-length.invariant

pub put_rest-links-requires : goal.put_rest-links-requires
put_rest-links-requires c = turn (goal.at.put_rest-links-requires c).In-loop-length

pub overflow_cast-next : goal.overflow_cast-next
overflow_cast-next c = omega (arith, turn (goal.at.overflow_cast-next c).In-loop-length, c.put_rest-links.ensures.0)

pub overflow_add-next : goal.overflow_add-next
overflow_add-next c = omega (arith, turn (goal.at.overflow_add-next c).In-loop-length, c.put_rest-links.ensures.0)

pub overflow_mul-place : goal.overflow_mul-place
overflow_mul-place c = omega (arith, turn (goal.at.overflow_mul-place c).In-loop-length, c.put_rest-links.ensures.0)

pub overflow_add-place : goal.overflow_add-place
overflow_add-place c = omega (arith, turn (goal.at.overflow_add-place c).In-loop-length, c.put_rest-links.ensures.0)

pub loop-length-preserved : goal.loop-length-preserved
loop-length-preserved c =
    let laid = c.put_rest-links.ensures in
    chains-on _ _ _ _ _ _ _ _ _ c.loop-length-test.true c.loop-length.invariant _ _ laid.0 laid.1

pub returns : goal.returns
returns c = chains-end _ _ _ _ _ _ _ _ _ (omega arith) c.loop-length.invariant
