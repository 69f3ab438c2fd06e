use Rattle.std.proofs.Common.{arith}
use Rattle.number.proofs.SignedLaws.{two-halves, half-small}
use Rattle.number.proofs.signed_be.Goals as goal

pub signed-requires : goal.signed-requires
signed-requires c =
    omega (arith, two-halves c.args.width (omega arith), half-small c.args.width (omega arith))
