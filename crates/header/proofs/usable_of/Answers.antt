use native.Mathlib.Omega.{arith}
use Rattle.header.specs.Header.{usable_of}
use Rattle.header.proofs.usable_of.Goals as goal

pub returns : goal.returns
unfolding usable_of
returns c = omega arith
