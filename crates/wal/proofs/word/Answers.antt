use native.Mathlib.Omega.{arith}
use Rattle.wal.proofs.SumLaws.{le4-is}
use Rattle.wal.proofs.word.Goals as goal

pub returns-in-Little : goal.returns-in-Little
returns-in-Little c = rw c.in-Little.is (omega (arith, le4-is c.args.b.now c.args.at, c.from_le_bytes.ensures))
