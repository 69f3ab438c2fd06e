use Rattle.setting.proofs.LayLaws as W
use Rattle.setting.proofs.put_header.Goals as goal

pub returns : goal.returns
returns c =
    W.header-laid _ _ _ _ _ _ _ _ c.requires c.put_half.ensures c.put_zeros.ensures c.put_half-2.ensures c.put_half-3.ensures
    c.put_zeros-2.ensures
