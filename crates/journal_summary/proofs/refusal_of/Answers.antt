use Rattle.journal_summary.proofs.TellLaws.{refusal-42, refusal-45, refusal-0}
use Rattle.journal_summary.proofs.refusal_of.Goals as goal

pub returns-then-journal-gt-PAGE_LIMIT : goal.returns-then-journal-gt-PAGE_LIMIT
returns-then-journal-gt-PAGE_LIMIT c = refusal-42 _ _ _ _ c.args.journal.now.fields c.if-journal-gt-PAGE_LIMIT.true

pub returns-then-is_twice : goal.returns-then-is_twice
returns-then-is_twice c =
    refusal-45 _ _ _ _ c.args.journal.now.fields c.if-journal-gt-PAGE_LIMIT.false _ c.is_twice.ensures c.if-is_twice.true

pub returns-else-is_twice : goal.returns-else-is_twice
returns-else-is_twice c =
    refusal-0 _ _ _ _ c.args.journal.now.fields c.if-journal-gt-PAGE_LIMIT.false _ c.is_twice.ensures c.if-is_twice.false
