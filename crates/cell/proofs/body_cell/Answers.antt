use native.Mathlib.Omega.{arith}
use borrow.Author.Rules.{rules}
use Rattle.cell.proofs.SplitLaws.{local-le}
use Rattle.cell.proofs.CellWays.{body_refused, body-read}
use Rattle.cell.proofs.body_cell.Goals as goal

pub local_end-requires : goal.local_end-requires
local_end-requires c =
    omega (arith, local-le c.args.u c.args.kind c.args.payload (search rules))

pub returns-then-u-end : goal.returns-then-u-end
returns-then-u-end c =
    body_refused _ _ _ _ _ _ _ _ _ _ _ c.local_size-local.ensures c.local_end.ensures
    c.at_least_4-end.ensures c.refused.result c.if-u-end.true c.refused.ensures

pub returns : goal.returns
returns c =
    body-read _ _ _ _ _ _ _ _ _ _ _ c.local_size-local.ensures c.local_end.ensures
    c.at_least_4-end.ensures _ _ c.if-u-end.false c.child_of-child.ensures c.first_of-first.ensures
