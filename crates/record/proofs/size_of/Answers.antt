use native.Mathlib.Omega.{arith}
use Rattle.record.proofs.SerialLaws.{short-size, gap-size, long-size}
use Rattle.record.proofs.size_of.Goals as goal

pub returns-in-0-to-9 : goal.returns-in-0-to-9
returns-in-0-to-9 c = short-size c.args.t (omega arith)

pub returns-in-10 : goal.returns-in-10
returns-in-10 c = gap-size c.args.t (omega arith) (omega arith)

pub returns-in_default : goal.returns-in_default
returns-in_default c = long-size c.args.t (omega arith)
