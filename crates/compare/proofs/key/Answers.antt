use lib.Dec.{T}
use lib.Ieee.{binary64, fits}
use borrow.Author.Rules.{rules}
use native.Mathlib.Omega.{arith}
use Rattle.compare.proofs.NumberLaws.{bits_small}
use Rattle.compare.proofs.key.Goals as goal

pub overflow_sub-result-else-bits-lt-SIGN : goal.overflow_sub-result-else-bits-lt-SIGN
overflow_sub-result-else-bits-lt-SIGN c = let f : T (fits binary64 c.args.x) = search rules in omega (arith, bits_small c.args.x f)
