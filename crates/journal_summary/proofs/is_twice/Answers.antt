use Rattle.paging.proofs.BitLaws.{none-set}
use Rattle.journal_summary.proofs.TellLaws.{scanned-twice}
use Rattle.journal_summary.proofs.is_twice.Goals as goal

pub returns-then-journal-le65536 : goal.returns-then-journal-le65536
returns-then-journal-le65536 c = scanned-twice _ _ _ _ _ (record { none = none-set 8192 }) c.scan.ensures

pub returns : goal.returns
returns c = scanned-twice _ _ _ _ _ (record { none = none-set 275000 }) c.scan-2.ensures
