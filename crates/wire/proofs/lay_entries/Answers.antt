use Prim.Native.Nat.{◌+◌, ◌*◌, ◌≤◌}
use mathlib.Core.Path.{refl, sym, subst, ◌∙◌}
use native.Mathlib.Omega.{arith}
use lib.ListN.{length}
use Rattle.wire.proofs.Laws.{laid_none, laid_more}
use Rattle.wire.specs.Laid.{Laid}
use Rattle.wire.proofs.lay_entries.Goals as goal

pub loop-i-init : goal.loop-i-init
loop-i-init c = (omega arith, refl, laid_none _ _ _ _)

pub loop-i-preserved : goal.loop-i-preserved
loop-i-preserved c =
    let l = c.loop-i in
    let y = c.lay in
    let e = c.entry_at-next in
    let room : 5 + l.i * 9 + 9 ≤ length c.args.out.now = omega (arith, c.requires.4, c.loop-i-test.true) in (
      omega (arith, c.loop-i-test.true),
      y.auto.out ∙ l.invariant.1,
      subst
          (Laid c.args.out.now c.args.kinds.now c.args.namers.now c.args.steps.now (l.i + 1)) (sym y.ensures)
          (laid_more c.args.out.now c.args.kinds.now c.args.namers.now c.args.steps.now l.i l.out e.result room l.invariant.2
          e.ensures),
    )
