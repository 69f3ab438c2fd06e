use native.Mathlib.Omega.{arith}
use Rattle.leaf.proofs.RecordLaws.{size_low}
use Rattle.leaf.proofs.size_small.Goals as goal

pub returns : goal.returns
returns c = (size_low c.args.t (omega arith), omega arith)
