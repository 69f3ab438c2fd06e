use Rattle.std.proofs.Common.{Bool, cond, sym, ap}
use Rattle.report.specs.Summary.{greater}
use Rattle.report.proofs.greater.Goals as goal

pub returns-then-earlier-x : goal.returns-then-earlier-x
unfolding greater
returns-then-earlier-x c = sym (ap (λ (t : Bool). cond t c.args.x c.args.earlier) c.if-earlier-x.true)

pub returns-else-earlier-x : goal.returns-else-earlier-x
unfolding greater
returns-else-earlier-x c = sym (ap (λ (t : Bool). cond t c.args.x c.args.earlier) c.if-earlier-x.false)
