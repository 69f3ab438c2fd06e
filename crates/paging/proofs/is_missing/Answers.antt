use Rattle.std.proofs.Common.{sym, ◌∙◌}
use Rattle.paging.proofs.BitLaws.{lacks-none, lacks-found, lacks-marked, lacks-within}
use Rattle.paging.proofs.is_missing.Goals as goal
use Rattle.paging.proofs.is_missing.Goals.{else-not-has_bit-via-then-not-has_bit+else-long-k, else-not-has_bit-via-else-not-has_bit}

pub loop-k-init : goal.loop-k-init
loop-k-init c = lacks-none _ _ _

pub returns-then-long-k : goal.returns-then-long-k
returns-then-long-k c =
    lacks-found _ _ _ _ c.loop-k.invariant _ c.loop-k-test.true (sym c.has_bit.ensures ∙ c.if-not-has_bit.true) c.if-long-k.true

pub loop-k-preserved : goal.loop-k-preserved
loop-k-preserved c = elim c.else-not-has_bit.branch [
  | else-not-has_bit-via-then-not-has_bit+else-long-k w ↦ lacks-within _ _ _ _ c.loop-k.invariant w.if-long-k.false
  | else-not-has_bit-via-else-not-has_bit w ↦ lacks-marked _ _ _ _ c.loop-k.invariant (sym c.has_bit.ensures ∙ w.if-not-has_bit.false)
]
