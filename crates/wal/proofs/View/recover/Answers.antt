use native.Mathlib.Omega.{arith}
use Rattle.paging.proofs.BitLaws.{none-set}
use Rattle.wal.proofs.View.recover.Goals as goal

pub recover_with-requires : goal.recover_with-requires
recover_with-requires c = (omega arith, record { none = none-set 8192 })

pub recover_with-requires-2 : goal.recover_with-requires-2
recover_with-requires-2 c = (omega (arith, c.args.self.now.bounds.few), record { none = none-set 275000 })
