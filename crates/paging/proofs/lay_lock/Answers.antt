use Rattle.std.proofs.Common.{arith}
use Rattle.paging.proofs.LockLaws.{lock-above, lock-within, lock-filled}
use Rattle.paging.proofs.lay_lock.Goals as goal
use Rattle.paging.proofs.lay_lock.Goals.{else-lock-n-via-then-lock-n+else-long-lock, else-lock-n-via-else-lock-n}

pub returns-then-long-lock : goal.returns-then-long-lock
returns-then-long-lock c =
    lock-filled _ _ _ _ c.requires.1 _ c.lock_page-lock.ensures c.if-lock-n.true c.if-long-lock.true _ (c.fill.ensures.after (λ y e. e))

pub returns-else-lock-n : goal.returns-else-lock-n
returns-else-lock-n c = elim c.else-lock-n.branch [
  | else-lock-n-via-then-lock-n+else-long-lock w ↦ lock-within _ _ _ _ c.requires.1 (omega (arith, c.lock_page-lock.ensures, w.if-lock-n.true)) (rw c.lock_page-lock.ensures at w.if-long-lock.false)
  | else-lock-n-via-else-lock-n w ↦ lock-above _ _ _ _ c.requires.1 (omega (arith, c.lock_page-lock.ensures, w.if-lock-n.false))
]
