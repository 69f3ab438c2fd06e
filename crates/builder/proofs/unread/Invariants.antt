use Rattle.builder.proofs.Refused.{UnreadLeft}
use Rattle.builder.proofs.unread.Given as goal

abbrev pub invariant-loop-length : goal.invariant-loop-length
invariant-loop-length l = UnreadLeft l.lengths l.payloads l.length-index l.off
