use native.Mathlib.Omega.{arith}
use Rattle.setting.proofs.LayLaws as W
use Rattle.setting.proofs.put_at.Goals as goal

pub be16-from-requires : goal.be16-from-requires
be16-from-requires c =
    omega (arith, W.place-low c.requires.leaf c.requires.index, c.requires.leaf.whole)

pub slice_bounds-lay-end : goal.slice_bounds-lay-end
slice_bounds-lay-end c =
    W.part-within _ _ c.requires.leaf _ c.requires.index _ _ c.be16-from.ensures.0 c.part_size-n.ensures.0
