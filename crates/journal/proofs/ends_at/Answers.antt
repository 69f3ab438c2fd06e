use Rattle.journal.proofs.RecordLaws.{ends-far, ends-short, ends-zero, ends-lock, ends-sum}
use Rattle.journal.proofs.ends_at.Goals as goal
use Rattle.journal.proofs.ends_at.Goals.{then-long-at-via-then-long-at, then-long-at-via-else-long-at+then-long-at-2}
use Rattle.journal.proofs.ends_at.Goals.{then-p-eq0-via-then-p-eq0, then-p-eq0-via-else-p-eq0+then-p-lock_page}

pub returns-then-long-at : goal.returns-then-long-at
returns-then-long-at c = elim c.then-long-at.branch [
  | then-long-at-via-then-long-at w ↦ ends-far _ _ _ w.if-long-at.true
  | then-long-at-via-else-long-at+then-long-at-2 w ↦ ends-short _ _ _ _ c.requires.2 w.if-long-at.false w.if-long-at-2.true
]

pub returns-then-p-eq0 : goal.returns-then-p-eq0
returns-then-p-eq0 c =
    let is_size = c.requires.2 in
    elim c.then-p-eq0.branch [
      | then-p-eq0-via-then-p-eq0 w ↦ ends-zero _ _ _ _ _ is_size c.if-long-at.false c.if-long-at-2.false c.be32-p.ensures w.if-p-eq0.true
      | then-p-eq0-via-else-p-eq0+then-p-lock_page w ↦ ends-lock _ _ _ _ _ _ is_size c.if-long-at.false c.if-long-at-2.false c.be32-p.ensures
          w.if-p-eq0.false w.lock_page.ensures w.if-p-lock_page.true
    ]

pub returns : goal.returns
returns c =
    ends-sum _ _ _ _ _ _ _ _ c.requires.2 c.if-long-at.false c.if-long-at-2.false c.be32-p.ensures c.if-p-eq0.false
    c.lock_page.ensures c.if-p-lock_page.false c.be32-stored.ensures c.page_sum.ensures
