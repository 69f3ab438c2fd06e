use Rattle.urkibasko.proofs.ImageLaws.{verdict-means}
use Rattle.urkibasko.proofs.images.urk_check.Goals as goal

pub returns-clause-meaning : goal.returns-clause-meaning
returns-clause-meaning c = verdict-means _ _ _ _ _ c.plain.ensures.answer c.told.ensures c.plain.ensures.meaning
