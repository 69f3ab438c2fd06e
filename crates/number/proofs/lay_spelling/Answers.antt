use Rattle.std.proofs.Common.{arith}
use Rattle.number.proofs.SpellingLaws.{laid-nine, laid-under}
use Rattle.number.proofs.lay_spelling.Goals as goal

pub returns-then-n-eq9 : goal.returns-then-n-eq9
returns-then-n-eq9 c =
    laid-nine _ _ _ (omega arith) (omega arith) _ c.if-n-eq9.true c.lay_groups.ensures

pub returns-else-n-eq9 : goal.returns-else-n-eq9
returns-else-n-eq9 c = laid-under _ _ _ (omega arith) (omega arith) _ (omega arith) c.lay_groups-else-n-eq9.ensures
