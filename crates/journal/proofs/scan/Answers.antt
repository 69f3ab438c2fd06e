use Rattle.std.proofs.Common.{arith}
use Rattle.journal.proofs.ReadingLaws.{none-short}
use Rattle.journal.proofs.ScanLaws.{scan-none}
use Rattle.journal.proofs.scan.Goals as goal

pub returns-then-journal-lt28 : goal.returns-then-journal-lt28
returns-then-journal-lt28 c = scan-none _ _ _ (none-short _ (omega (arith, c.requires.0.sizes.is_size, c.requires.0.sizes.least)) c.if-journal-lt28.true _ _ _)
