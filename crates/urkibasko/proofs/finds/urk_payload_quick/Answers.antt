use Rattle.urkibasko.proofs.ImageLaws.{fetched-good}
use Rattle.urkibasko.proofs.finds.urk_payload_quick.Goals as goal

pub returns-clause-good : goal.returns-clause-good
returns-clause-good c = λ d w t. fetched-good _ c.into.ensures (c.payload_quick.ensures.good d w t)
