use native.Mathlib.Omega.{arith}
use mir.Syntax.{w64}
use mir.ValLaws.{to_z-of_z}
use Rattle.setting.proofs.LayLaws as W
use Rattle.setting.proofs.put_all.Goals as goal

pub loop-k-init : goal.loop-k-init
loop-k-init c =
    W.all-starts _ _ _ _ _ _ _ _ c.requires.0 c.requires.1 (to_z-of_z w64 _ c.ranges.row)

pub put_at-top-requires : goal.put_at-top-requires
put_at-top-requires c =
    W.all-asks c.args.out.now _ _ _ _ _ _ _ c.requires.0 c.requires.1 (to_z-of_z w64 _ c.ranges.row) _ _ _ c.loop-k-test.true
    c.loop-k.invariant

pub loop-k-preserved : goal.loop-k-preserved
loop-k-preserved c =
    W.all-on c.args.out.now _ _ _ _ _ _ _ c.requires.0 c.requires.1 (to_z-of_z w64 _ c.ranges.row) _ _ _ c.loop-k-test.true
    c.loop-k.invariant _ _ c.put_at-top.ensures

pub returns : goal.returns
returns c =
    W.all-ends c.args.out.now _ _ _ _ _ _ _ c.requires.0 c.requires.1 (to_z-of_z w64 _ c.ranges.row) _ _ _ (omega arith)
    c.loop-k.invariant
