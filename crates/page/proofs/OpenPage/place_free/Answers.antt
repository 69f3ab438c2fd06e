use Prim.Native.Nat.{◌<◌}
use native.Mathlib.Omega.{arith}
use Rattle.page.proofs.Free.{left, left_less, more-none, more-unfit, more-next}
use Rattle.page.proofs.OpenPage.place_free.Goals as goal
use Rattle.page.proofs.OpenPage.place_free.Goals.{In_ok-block}

pub returns-in_err-block-clause-unfit : goal.returns-in_err-block-clause-unfit
returns-in_err-block-clause-unfit c =
    rw c.from_residual.ensures (more-unfit _ _ _ _ _ _ _ _ c.loop-at.invariant.1 c.loop-at-test.true c.in_err-block.ensures.unfit)

-- less is left past the next freeblock
fewer : (c : In_ok-block) →
    let u = c.args.self.now.usable in left u c.in_ok-block.block.next < left u c.loop-at.at
fewer c =
    let r = c.in_ok-block.ensures.read in
    left_less _ _ _ (omega (arith, c.loop-at-test.true)) (omega (arith, r.head)) r.fine.rises

pub loop-at-preserved : goal.loop-at-preserved
loop-at-preserved c =
    let r = c.in_ok-block.ensures.read in
    let less = fewer (goal.at.loop-at-preserved c).In_ok-block in (
      omega (arith, c.loop-at.invariant.0),
      more-next _ _ _ _ _ _ _ _ c.loop-at.invariant.1 c.loop-at-test.true _ _ r _ c.note.ensures,
      omega (arith, c.loop-at.invariant.2, r.fine.high, c.args.self.now.opened.most),
    )

pub returns-clause-noted : goal.returns-clause-noted
returns-clause-noted c = (more-none _ _ _ _ _ _ _ _ c.loop-at.invariant.1 c.loop-at-test.false, omega (arith, c.loop-at.invariant.2))
