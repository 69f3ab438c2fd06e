use Rattle.number.proofs.Cases.{cases}
use Rattle.journal_summary.specs.Summary.{header_stop}
use Rattle.journal_summary.proofs.StopLaws.{stop-sizes, stop-magic}
use Rattle.journal_summary.proofs.header_stop.Goals as goal

pub returns-then-bytes-s : goal.returns-then-bytes-s
unfolding header_stop
returns-then-bytes-s c = search cases depth 12

pub returns-then-is_magic : goal.returns-then-is_magic
returns-then-is_magic c = stop-sizes _ _ c.if-bytes-s.false _ c.is_magic.ensures c.if-is_magic.true

pub returns-else-is_magic : goal.returns-else-is_magic
returns-else-is_magic c = stop-magic _ _ c.if-bytes-s.false _ c.is_magic.ensures c.if-is_magic.false
