use native.Mathlib.Omega.{arith}
use Rattle.compare.proofs.NumberLaws.{above-small, below-great, with-whole, with-parts}
use Rattle.compare.proofs.magnitudes.Goals as goal

pub returns-in-0-to-1022 : goal.returns-in-0-to-1022
returns-in-0-to-1022 c = above-small c.args.n c.args.bits (omega arith) (omega arith)

pub returns-in-1023-to-1074 : goal.returns-in-1023-to-1074
returns-in-1023-to-1074 c = with-parts c.args.n c.args.bits c.with_fraction.result (omega arith) (omega arith) c.with_fraction.ensures

pub returns-in-1075-to-1086 : goal.returns-in-1075-to-1086
returns-in-1075-to-1086 c = with-whole c.args.n c.args.bits c.cmp-in-1075-to-1086.result (omega arith) (omega arith) c.cmp-in-1075-to-1086.ensures

pub returns-in_default : goal.returns-in_default
returns-in_default c = below-great c.args.n c.args.bits (omega arith) (omega arith)
