use Rattle.ledger.proofs.Ways.{leaf_first, leaf-even, leaf-uneven}
use Rattle.ledger.proofs.take_leaf.Goals as goal
use Rattle.ledger.proofs.take_leaf.Goals.{else-t-ne0-via-then-t-ne0+else-t-levels, else-t-ne0-via-else-t-ne0}

pub returns-then-t-levels : goal.returns-then-t-levels
returns-then-t-levels c = λ n b ks ns.
    let a = c.args in
    leaf-uneven n b ks ns a.t a.page a.levels c.if-t-ne0.true c.if-t-levels.true

pub returns : goal.returns
returns c = λ n b ks ns.
    let a = c.args in
    elim c.else-t-ne0.branch [
      | else-t-ne0-via-then-t-ne0+else-t-levels w ↦ leaf-even n b ks ns a.t a.page a.levels w.if-t-ne0.true w.if-t-levels.false
      | else-t-ne0-via-else-t-ne0 w ↦ leaf_first n b ks ns a.t a.page a.levels w.if-t-ne0.false
    ]
