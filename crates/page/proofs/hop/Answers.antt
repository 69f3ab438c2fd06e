use Rattle.page.proofs.Table.{hop-gap, hop-over}
use Rattle.page.proofs.hop.Goals as goal

pub returns-then-from-rest : goal.returns-then-from-rest
returns-then-from-rest c = hop-gap _ _ _ c.from.ensures c.if-from-rest.true

pub returns : goal.returns
returns c = hop-over _ _ _ _ _ c.from.ensures c.if-from-rest.false c.from-2.ensures c.from-3.ensures
