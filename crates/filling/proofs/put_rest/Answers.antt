use native.Mathlib.Omega.{arith}
use Rattle.cell.proofs.SplitLaws.{local-le}
use Rattle.filling.proofs.Loops.{rest-room}
use Rattle.filling.proofs.put_rest.Goals as goal

pub overflow_add-off : goal.overflow_add-off
overflow_add-off c =
    omega (arith, c.local_size-local.ensures, local-le 1024 13 c.args.size (omega arith), c.requires.1)

pub put_chain-requires : goal.put_chain-requires
put_chain-requires c =
    rest-room _ _ _ _ _ _ _ _ c.requires c.local_size-local.ensures c.links_of-links.ensures
