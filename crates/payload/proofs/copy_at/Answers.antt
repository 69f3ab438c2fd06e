use native.Mathlib.Omega.{arith}
use lib.ListN.{length-take, length-drop}
use Rattle.payload.proofs.CopyLaws.{copied_from, fetchable-wider}
use Rattle.payload.proofs.copy_at.Goals as goal

pub copy_payload-requires : goal.copy_payload-requires
copy_payload-requires c =
    let l = c.requires.1 in
    fetchable-wider _ (simp (length-take, length-drop) (omega arith)) c.requires.0

pub returns : goal.returns
returns c = copied_from _ _ _ _ _ c.requires.0 _ _ _ (omega (arith, c.requires.1)) c.copy_payload.ensures
