use Prim.Native.Nat.{◌+◌, ◌-◌}
use native.Mathlib.Omega.{arith}
use borrow.Author.Tests.{eqb-true}
use Rattle.record.proofs.SerialLaws.{long-size}
use Rattle.leaf.proofs.RecordLaws.{Passed, passed_none, passed-one, passed-two, passed-three, passed-at, passed-all}
use Rattle.leaf.proofs.types_fill.Goals as goal
use Rattle.leaf.proofs.types_fill.Goals.{
  Joined-t-lt12,
  then-t-lt12+else-t-ge10,
  else-t-lt12+then-t-lt128,
  else-t-lt12+else-t-lt128+else-t-eq128+else-header-i+then-v-lt128,
  else-t-lt12+else-t-lt128+else-t-eq128+else-header-i+else-v-lt128+else-header-i-2+else-w-ge128,
}

next : (c : Joined-t-lt12) → Passed c.args.b.now c.args.header (c.if-t-lt12.i + 1) (c.loop-i.place + c.if-t-lt12.size)
next c =
    let g = c.requires in let s = c.loop-i.invariant in let q = c.loop-i.place in let t = c.wide-t.result in
    elim c.if-t-lt12.branch [
      | then-t-lt12+else-t-ge10 w ↦ passed-at q (omega (arith, w.i-is)) w.size-is
          (passed-one g s t _ (omega arith) (omega arith) (omega arith) (λ z. omega (arith, w.if-t-ge10.false)) (λ z. omega (arith, w.if-t-ge10.false))
          w.size_small-size.ensures.0 (omega (arith, w.size_small-size.ensures.1)))
      | else-t-lt12+then-t-lt128 w ↦ passed-at q (omega (arith, w.i-is)) w.size-is
          (passed-one g s t _ (omega arith) (omega arith) w.if-t-lt128.true (λ z. omega (arith, w.if-t-lt12.false)) (λ z. omega (arith, w.if-t-lt12.false))
          (long-size t w.if-t-lt12.false) (omega (arith, w.if-t-lt128.true)))
      | else-t-lt12+else-t-lt128+else-t-eq128+else-header-i+then-v-lt128 w ↦ passed-at q (omega (arith, w.i-is)) w.size-is
          (passed-two g s t w.wide-v.result (omega (arith, w.if-header-i.false)) (omega arith) (omega arith) (omega (arith, w.if-t-lt128.false))
          w.if-t-eq128.false w.wide-v.ensures.0 w.if-v-lt128.true)
      | else-t-lt12+else-t-lt128+else-t-eq128+else-header-i+else-v-lt128+else-header-i-2+else-w-ge128 w ↦ passed-at q (omega (arith, w.i-is)) w.size-is
          (passed-three g s t w.wide-v.result (omega (arith, w.if-header-i.false)) (omega arith) (omega arith) (omega (arith, w.if-t-lt128.false))
          w.if-t-eq128.false w.wide-v.ensures.0 w.wide-v.ensures.1 (omega (arith, w.if-v-lt128.false)) w.wide-w.result (omega (arith, w.if-header-i-2.false))
          w.wide-w.ensures.0 (omega (arith, w.if-w-ge128.false)))
    ]

pub loop-i-init : goal.loop-i-init
loop-i-init c = passed_none c.requires

pub loop-i-preserved : goal.loop-i-preserved
loop-i-preserved c = next (goal.at.loop-i-preserved c).Joined-t-lt12

pub returns : goal.returns
returns c = λ e. passed-all c.requires c.loop-i.invariant (omega arith) (eqb-true _ _ e)
