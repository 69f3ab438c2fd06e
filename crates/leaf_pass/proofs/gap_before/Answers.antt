use Prim.Native.Nat.{◌-◌}
use native.Mathlib.Omega.{arith}
use Rattle.leaf_pass.proofs.EndsLaws.{gap-none, gap-inside, gap_more}
use Rattle.leaf_pass.proofs.gap_before.Goals as goal

pub loop-gap-preserved : goal.loop-gap-preserved
loop-gap-preserved c =
    let i = c.loop-gap.invariant in (
      omega (arith, gap-inside _ _ _ _ c.requires.0 c.requires.1 i.0 c.if-s-at-ne0.false),
      gap_more _ _ _ _ c.requires.0 c.requires.1 i.0 c.if-s-at-ne0.false i.1,
    )

pub returns-then-s-at-ne0 : goal.returns-then-s-at-ne0
returns-then-s-at-ne0 c =
    let i = c.loop-gap.invariant in
    let a = c.args in
    let none = gap-none a.s.now (a.at - a.start - c.loop-gap.gap) (a.at - c.loop-gap.gap) c.if-s-at-ne0.true in
    (omega arith, λ l. omega (arith, i.1, none))
