use native.Mathlib.Omega.{arith}
use mir.Syntax.{w64}
use mir.ValLaws.{to_z-of_z}
use Rattle.setting.proofs.LayLaws as W
use Rattle.setting.proofs.put_leaf.Goals as goal

pub overflow_mul-count : goal.overflow_mul-count
overflow_mul-count c = omega (arith, W.start-bounds c.requires.0 c.requires.1 c.requires.2)

pub overflow_add-count : goal.overflow_add-count
overflow_add-count c = omega (arith, W.start-bounds c.requires.0 c.requires.1 c.requires.2)

pub overflow_mul-count-2 : goal.overflow_mul-count-2
overflow_mul-count-2 c = omega (arith, W.start-bounds c.requires.0 c.requires.1 c.requires.2)

pub overflow_sub-start-2 : goal.overflow_sub-start-2
overflow_sub-start-2 c = omega (arith, W.start-bounds c.requires.0 c.requires.1 c.requires.2)

pub put_zeros-requires : goal.put_zeros-requires
put_zeros-requires c =
    W.zeros-asks c.args.out.now _ _ _ _ _ _ _ _ _ c.requires.0 c.requires.1 c.requires.2 (to_z-of_z w64 _ c.ranges.row) c.put_header.ensures

pub returns : goal.returns
returns c =
    W.leaf-whole c.args.out.now _ _ _ _ _ _ _ _ _ c.requires.0 c.requires.1 c.requires.2 (to_z-of_z w64 _ c.ranges.row)
    c.put_header.ensures _ c.put_zeros.ensures _ c.put_all.ensures
