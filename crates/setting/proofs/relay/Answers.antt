use mir.Syntax.{w64}
use mir.ValLaws.{to_z-of_z}
use Rattle.setting.proofs.Ways as W
use Rattle.setting.proofs.relay.Goals as goal

pub returns : goal.returns
returns c =
    W.laid-whole _ _ _ _ _ _ _ _ _ _ _ _ (to_z-of_z w64 _ c.ranges.row) c.requires c.build.ensures _ c.place_of-at.ensures _ c.lay.ensures
