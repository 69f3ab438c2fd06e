use Rattle.std.proofs.Common.{sym, ◌∙◌}
use borrow.Author.Tests.{lt-leb}
use Rattle.journal.proofs.ReadingLaws.{not-headed}
use Rattle.journal_summary.proofs.is_headed.Goals as goal

pub returns-else-s-journal : goal.returns-else-s-journal
returns-else-s-journal c = lt-leb _ _ c.if-s-journal.false ∙ sym (not-headed _ _ c.if-s-journal.false)
