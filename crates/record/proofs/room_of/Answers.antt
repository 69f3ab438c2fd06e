use mathlib.Core.Path.{sym}
use Rattle.record.proofs.SerialLaws.{low-type}
use Rattle.record.proofs.room_of.Goals as goal

pub returns-then-t-lt10 : goal.returns-then-t-lt10
returns-then-t-lt10 c = simp (sym (low-type c.args.t c.if-t-lt10.true), c.size_of.ensures)
