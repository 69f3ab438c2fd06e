use mathlib.Core.Path.{sym}
use native.Mathlib.Omega.{arith}
use Rattle.setting.proofs.LayLaws as W
use Rattle.setting.proofs.part_size.Goals as goal

pub cell_of-c-requires : goal.cell_of-c-requires
cell_of-c-requires c =
    let q = c.requires in
    (q.0.least, q.0.most, q.0.whole, omega arith, sym q.0.type, W.lies-low q.0 q.1)

pub overflow_mul-k : goal.overflow_mul-k
overflow_mul-k c =
    omega (arith, W.place-low c.requires.0 c.requires.1, c.requires.0.most)

pub overflow_add-k : goal.overflow_add-k
overflow_add-k c =
    omega (arith, W.place-low c.requires.0 c.requires.1, c.requires.0.most)

pub be16-at-requires : goal.be16-at-requires
be16-at-requires c =
    omega (arith, W.place-low c.requires.0 c.requires.1, c.requires.0.whole)

pub overflow_sub-result : goal.overflow_sub-result
overflow_sub-result c =
    W.part-order _ _ c.requires.0 _ c.requires.1 _ _ c.cell_of-c.ensures c.be16-at.ensures.0

pub returns : goal.returns
returns c =
    W.part-sized _ _ c.requires.0 _ c.requires.1 _ _ c.cell_of-c.ensures c.be16-at.ensures.0
