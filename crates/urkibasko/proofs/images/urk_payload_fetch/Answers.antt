use Rattle.urkibasko.proofs.ImageLaws.{fetched-good}
use Rattle.urkibasko.proofs.images.urk_payload_fetch.Goals as goal

pub returns-clause-good : goal.returns-clause-good
returns-clause-good c = λ d w t. fetched-good _ c.into.ensures (c.payload.ensures.good d w t)
