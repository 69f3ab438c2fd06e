use Rattle.std.proofs.Common.{arith, rules}
use Rattle.number.proofs.BeLaws.{be2-is}
use Rattle.number.proofs.be16.Goals as goal

pub returns : goal.returns
returns c =
    (omega (arith, be2-is c.args.b.now c.args.at), search rules)
