use Rattle.std.proofs.Common.{arith}
use Rattle.number.proofs.BeLaws.{be4-is}
use Rattle.number.proofs.be32.Goals as goal

pub returns : goal.returns
returns c = omega (arith, be4-is c.args.b.now c.args.at)
