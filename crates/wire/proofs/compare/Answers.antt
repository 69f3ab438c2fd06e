use Prim.Native.Nat.{◌+◌, ◌*◌}
use mathlib.Core.Path.{◌≡◌, sym, ◌∙◌}
use native.Mathlib.Omega.{arith}
use lib.ListN.{length}
use Rattle.wire.proofs.Laws.{compared-length, front-is, compared-front, comparing-starts, compared-ends}
use Rattle.wire.proofs.Laws.{agreed, compared-here, comparing-more}
use Rattle.wire.proofs.compare.Goals as goal

pub returns-then-proposal-n : goal.returns-then-proposal-n
returns-then-proposal-n c =
    let a = c.args in
    compared-length a.proposal.now a.n a.kinds.now a.namers.now a.steps.now (λ e. omega (arith, c.if-proposal-n.true))

pub returns-then-not-same_at : goal.returns-then-not-same_at
returns-then-not-same_at c =
    let a = c.args in
    let f = c.frame_of-front in
    let s = c.same_at in
    let whole : length a.proposal.now ≡ 5 + a.n * 9 = omega (arith, c.if-proposal-n.false) in
    compared-front a.proposal.now a.n a.kinds.now a.namers.now a.steps.now whole f.result f.ensures s.result s.ensures c.if-not-same_at.true

pub loop-i-init : goal.loop-i-init
loop-i-init c =
    let a = c.args in
    let f = c.frame_of-front in
    let s = c.same_at in
    let whole : length a.proposal.now ≡ 5 + a.n * 9 = omega (arith, c.if-proposal-n.false) in
    comparing-starts a.proposal.now a.n a.kinds.now a.namers.now a.steps.now
    (sym (front-is a.proposal.now a.n a.kinds.now a.namers.now a.steps.now whole f.result f.ensures s.result s.ensures)
    ∙ c.if-not-same_at.false)

pub returns-then-not-same_at-2 : goal.returns-then-not-same_at-2
returns-then-not-same_at-2 c =
    let so_far = c.loop-i.invariant in
    let more = c.loop-i-test.true in
    let e = c.entry_at-want.ensures in
    compared-here _ _ _ _ _ _ so_far more _ e (sym (agreed _ _ _ _ _ _ so_far more _ e _ c.same_at-in-loop-i.ensures) ∙ c.if-not-same_at-2.true)

pub loop-i-preserved : goal.loop-i-preserved
loop-i-preserved c =
    let so_far = c.loop-i.invariant in
    let more = c.loop-i-test.true in
    let e = c.entry_at-want.ensures in
    comparing-more _ _ _ _ _ _ so_far more _ e (sym (agreed _ _ _ _ _ _ so_far more _ e _ c.same_at-in-loop-i.ensures) ∙ c.if-not-same_at-2.false)

pub returns : goal.returns
returns c =
    let a = c.args in
    compared-ends a.proposal.now a.n a.kinds.now a.namers.now a.steps.now c.loop-i.i c.loop-i.invariant
    c.loop-i-test.false
