use Rattle.std.proofs.Common.{sym, ◌∙◌, arith}
use Rattle.number.proofs.SpellingLaws.{groups-step, groups-laid}
use Rattle.number.proofs.lay_groups.Goals as goal

pub loop-i-preserved : goal.loop-i-preserved
loop-i-preserved c = sym (groups-step _ _ _ c.loop-i-test.true (omega arith)) ∙ c.loop-i.invariant

pub returns : goal.returns
returns c = groups-laid _ _ _ c.loop-i-test.false ∙ c.loop-i.invariant
