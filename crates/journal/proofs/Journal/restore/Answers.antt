use Rattle.std.proofs.Common.{arith}
use Rattle.paging.proofs.BitLaws.{none-set}
use Rattle.journal.proofs.Journal.restore.Goals as goal

pub restore_in-requires : goal.restore_in-requires
restore_in-requires c = (c.requires, omega (arith, c.if-self-le65536.true), record { none = none-set 8192 })

pub restore_in-requires-2 : goal.restore_in-requires-2
restore_in-requires-2 c = (c.requires, omega (arith, c.requires), record { none = none-set 275000 })
