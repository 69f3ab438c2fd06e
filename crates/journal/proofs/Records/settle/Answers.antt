use Rattle.journal.proofs.ReadingLaws.{settle-out}
use Rattle.journal.proofs.Records.settle.Goals as goal

pub returns : goal.returns
returns c = settle-out _ _ c.loop-self.invariant c.loop-self-test.false _ c.ends_at.ensures
