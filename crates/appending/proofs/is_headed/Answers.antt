use mathlib.Core.Path.{◌∙◌}
use Rattle.appending.proofs.TailLaws.{headed-by, headed-none}
use Rattle.appending.proofs.is_headed.Goals as goal

pub returns-in-Some : goal.returns-in-Some
returns-in-Some c = c.is_headed.ensures ∙ headed-by _ c.if-log-lt32.false _ _ c.be32.ensures c.order_of.ensures _ c.in-Some.is

pub returns-in-None : goal.returns-in-None
returns-in-None c = headed-none _ c.if-log-lt32.false _ _ c.be32.ensures c.order_of.ensures c.in-None.is
