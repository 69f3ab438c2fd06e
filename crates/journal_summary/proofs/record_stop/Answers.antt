use Rattle.journal_summary.proofs.StopLaws.{stop-cut, stop-all, stop-counted, stop-zero, stop-lock, stop-sum}
use Rattle.journal_summary.proofs.record_stop.Goals as goal

pub returns-then-at-long : goal.returns-then-at-long
returns-then-at-long c = stop-cut _ _ _ _ c.args.journal.now.fields.sizes.is_size c.if-long-at.true c.if-at-long.true

pub returns-then-be32 : goal.returns-then-be32
returns-then-be32 c =
    stop-all _ _ _ _ c.args.journal.now.fields.sizes.is_size c.if-long-at.true c.if-at-long.false _ c.be32.ensures c.if-be32.true

pub returns-then-long-at : goal.returns-then-long-at
returns-then-long-at c =
    stop-counted _ _ _ _ c.args.journal.now.fields.sizes.is_size c.if-long-at.true c.if-at-long.false _ c.be32.ensures c.if-be32.false

pub returns-then-p-eq0 : goal.returns-then-p-eq0
returns-then-p-eq0 c = stop-zero _ _ _ _ c.args.journal.now.fields.sizes.is_size c.if-long-at.false _ c.be32-p.ensures c.if-p-eq0.true

pub returns-then-p-lock_page : goal.returns-then-p-lock_page
returns-then-p-lock_page c =
    stop-lock _ _ _ _ c.args.journal.now.fields.sizes.is_size c.if-long-at.false _ c.be32-p.ensures c.if-p-eq0.false _ c.lock_page.ensures
    c.if-p-lock_page.true

pub returns : goal.returns
returns c =
    stop-sum _ _ _ _ c.args.journal.now.fields.sizes.is_size c.if-long-at.false _ c.be32-p.ensures c.if-p-eq0.false _ c.lock_page.ensures
    c.if-p-lock_page.false
