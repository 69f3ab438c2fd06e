use native.Mathlib.Omega.{arith}
use mir.Syntax.{w64}
use mir.ValLaws.{to_z-of_z}
use Rattle.setting.proofs.Ways as W
use Rattle.setting.proofs.room_for.Goals as goal

pub sizes-total-requires : goal.sizes-total-requires
sizes-total-requires c = (
  c.requires.0,
  c.be16-count.ensures.0,
  W.small-new _ _ _ _ c.fresh_size-n.ensures c.requires.0.least c.requires.0.most c.requires.1,
)

pub returns-then-u-count : goal.returns-then-u-count
returns-then-u-count c =
    W.no_room _ _ _ _ _ _ _ _ _ (to_z-of_z w64 _ c.ranges.row) c.be16-count.ensures.0 c.fresh_size-n.ensures c.sizes-total.ensures.0 (omega arith)

pub returns : goal.returns
returns c =
    W.has_room _ _ _ _ _ _ _ _ _ (to_z-of_z w64 _ c.ranges.row) c.be16-count.ensures.0 c.fresh_size-n.ensures c.sizes-total.ensures.0 (omega arith)
