use Rattle.log_summary.proofs.TellLaws.{of-short, of-order, of_other}
use Rattle.log_summary.proofs.Theorems.{agrees, stops}
use Rattle.log_summary.proofs.inspect.Goals as goal

pub returns-then-log-lt32 : goal.returns-then-log-lt32
returns-then-log-lt32 c =
    let e = of-short _ _ c.if-log-lt32.true c.untold.ensures in
    record { answer = e; recovery = agrees _ _ e; stop = λ big h. stops big _ _ h e }

pub returns-in-Some : goal.returns-in-Some
returns-in-Some c =
    let e = of-order _ _ c.if-log-lt32.false _ _ c.be32.ensures c.order_of.ensures _ c.in-Some.is c.inspect_in.ensures in
    record { answer = e; recovery = agrees _ _ e; stop = λ big h. stops big _ _ h e }

pub returns-in-None : goal.returns-in-None
returns-in-None c =
    let e = of_other _ _ c.if-log-lt32.false _ _ c.be32.ensures c.order_of.ensures c.in-None.is c.untold-in-None.ensures in
    record { answer = e; recovery = agrees _ _ e; stop = λ big h. stops big _ _ h e }
