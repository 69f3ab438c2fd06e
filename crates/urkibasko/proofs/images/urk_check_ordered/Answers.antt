use Rattle.urkibasko.proofs.ImageLaws.{verdict-means}
use Rattle.urkibasko.proofs.images.urk_check_ordered.Goals as goal

pub returns-clause-meaning : goal.returns-clause-meaning
returns-clause-meaning c = verdict-means _ _ _ _ _ c.verdict.ensures.answer c.told.ensures c.verdict.ensures.meaning
