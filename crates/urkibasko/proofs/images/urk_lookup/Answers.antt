use mir.Syntax.{w64}
use mir.ValLaws.{to_z-of_z}
use Rattle.urkibasko.proofs.ImageLaws.{found-good}
use Rattle.urkibasko.proofs.images.urk_lookup.Goals as goal

pub returns-clause-good : goal.returns-clause-good
returns-clause-good c =
    let good = rw (to_z-of_z w64 c.args.row c.ranges.row) at c.lookup.ensures.good in
    λ d w t. found-good _ c.into.ensures (good d w t)
