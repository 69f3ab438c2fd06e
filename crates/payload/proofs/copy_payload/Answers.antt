use mathlib.Core.Path.{refl}
use Rattle.payload.proofs.CopyLaws.{payload-copied}
use Rattle.payload.proofs.copy_payload.Goals as goal

pub returns : goal.returns
returns c =
    payload-copied _ _ _ _ _ c.requires _ _ _ refl c.lay_part.ensures c.copy_chain.ensures
