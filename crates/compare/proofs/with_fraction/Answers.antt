use native.Mathlib.Omega.{arith}
use Rattle.compare.proofs.NumberLaws.{by-parts}
use Rattle.compare.proofs.with_fraction.Goals as goal

pub returns : goal.returns
returns c = by-parts c.args.n c.args.whole c.args.down (omega arith) _ _ _ c.cmp.ensures c.cmp-2.ensures c.then.ensures
