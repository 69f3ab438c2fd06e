use native.Mathlib.Omega.{arith}
use Rattle.header.specs.Header.{size_for}
use Rattle.header.proofs.size_for.Goals as goal

pub returns-in-1 : goal.returns-in-1
unfolding size_for
returns-in-1 c = grind arith

pub returns-in-512 : goal.returns-in-512
unfolding size_for
returns-in-512 c = grind arith

pub returns-in_default : goal.returns-in_default
unfolding size_for
returns-in_default c = grind arith
