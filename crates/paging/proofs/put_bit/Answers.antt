use Rattle.std.proofs.Common.{refl}
use Rattle.paging.proofs.BitLaws.{put-new}
use Rattle.paging.proofs.put_bit.Goals as goal

pub returns : goal.returns
returns c = put-new _ _ c.requires _ refl
