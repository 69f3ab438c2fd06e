use Rattle.journal.proofs.ReadingLaws.{next-far, next-short, next-some, next-none}
use Rattle.journal.proofs.Journal.next_header.Goals as goal

pub returns-then-long-at : goal.returns-then-long-at
returns-then-long-at c = next-far _ _ _ c.args.self.now.fields.sizes _ c.if-long-at.true

pub returns-then-long-at-2 : goal.returns-then-long-at-2
returns-then-long-at-2 c =
    next-short _ _ _ c.args.self.now.fields.sizes _ _ c.gap-skipped.ensures.0 c.if-long-at.false c.if-long-at-2.true

pub returns-then-headed_at : goal.returns-then-headed_at
returns-then-headed_at c =
    next-some _ _ _ c.args.self.now.fields.sizes _ _ c.gap-skipped.ensures.0 _ c.if-long-at.false c.if-long-at-2.false
    c.headed_at.ensures c.if-headed_at.true

pub returns-else-headed_at : goal.returns-else-headed_at
returns-else-headed_at c =
    next-none _ _ _ c.args.self.now.fields.sizes _ _ c.gap-skipped.ensures.0 _ c.headed_at.ensures c.if-headed_at.false
