use Rattle.std.proofs.Common.{eqb, sym, ap}
use Rattle.number.proofs.SpellingLaws.{size-one, size-two}
use Rattle.number.proofs.is_shortest.Goals as goal

pub returns-then-bits-lt128 : goal.returns-then-bits-lt128
returns-then-bits-lt128 c = ap (eqb c.args.length) (sym (size-one c.args.bits c.if-bits-lt128.true))

pub returns-then-bits-lt16384 : goal.returns-then-bits-lt16384
returns-then-bits-lt16384 c = ap (eqb c.args.length) (sym (size-two c.args.bits c.if-bits-lt128.false c.if-bits-lt16384.true))
