use mathlib.Core.Path.{◌∙◌}
use Rattle.wal.proofs.OrderLaws.{ordered, unordered}
use Rattle.wal.proofs.log_state.Goals as goal

pub returns-in-Some : goal.returns-in-Some
returns-in-Some c =
    let of_order = ordered _ c.if-log-lt32.false _ _ c.be32.ensures c.order_of.ensures _ c.in-Some.is in
    record { told = c.state_in.ensures.told ∙ of_order; forced = c.state_in.ensures.forced }

pub returns-in-None : goal.returns-in-None
returns-in-None c = record { told = unordered _ c.if-log-lt32.false _ _ c.be32.ensures c.order_of.ensures c.in-None.is; forced = tt }
