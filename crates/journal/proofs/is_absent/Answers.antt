use Rattle.number.proofs.Cases.{cases}
use Rattle.journal.specs.Header.{absent}
use Rattle.journal.proofs.ReadingLaws.{absent-magic}
use Rattle.journal.proofs.is_absent.Goals as goal

pub returns-then-bytes-lt28 : goal.returns-then-bytes-lt28
unfolding absent
returns-then-bytes-lt28 c = search cases depth 8

pub returns-else-bytes-lt28 : goal.returns-else-bytes-lt28
returns-else-bytes-lt28 c = absent-magic _ _ c.if-bytes-lt28.false c.is_magic.ensures
