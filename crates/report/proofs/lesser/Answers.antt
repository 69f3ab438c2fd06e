use Rattle.std.proofs.Common.{Bool, cond, sym, ap}
use Rattle.report.specs.Summary.{lesser}
use Rattle.report.proofs.lesser.Goals as goal

pub returns-then-x-earlier : goal.returns-then-x-earlier
unfolding lesser
returns-then-x-earlier c = sym (ap (λ (t : Bool). cond t c.args.x c.args.earlier) c.if-x-earlier.true)

pub returns-else-x-earlier : goal.returns-else-x-earlier
unfolding lesser
returns-else-x-earlier c = sym (ap (λ (t : Bool). cond t c.args.x c.args.earlier) c.if-x-earlier.false)
