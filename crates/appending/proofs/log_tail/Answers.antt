use Rattle.std.proofs.Common.{◌≡◌, List, ℕ, ◌++◌, drop, sym, ap, ◌∙◌, arith}
use Rattle.appending.specs.Tail.{tail_of}
use Rattle.appending.proofs.TailLaws.{scan-passed, read-tail, scan-words, is-tail}
use Rattle.appending.proofs.log_tail.Goals as goal
use Rattle.appending.proofs.log_tail.Goals.{After-put_tail}

laid : (c : After-put_tail) → c.put_tail.new.tail ≡ tail_of c.args.log.now ++ drop 8 c.args.tail.now
laid c =
    let told = c.in_ok-state.ensures in
    c.put_tail.ensures
    ∙ ap (λ (x : List ℕ). x ++ drop 8 c.args.tail.now)
    (read-tail _ _ (sym told.refuses) _ told.state _ _ _ _ _ _ _ c.be32-page_size.ensures
    c.seal_at-seal.ensures c.be32.ensures c.be32-4.ensures c.be32-5.ensures c.be32-2.ensures c.be32-3.ensures _ c.order_by-order.ensures)

pub returns-clause-words : goal.returns-clause-words
returns-clause-words c =
    scan-words c.args.log.now c.args.tail.now _ (sym c.in_ok-state.ensures.refuses) (laid (goal.at.returns-clause-words c).After-put_tail)

pub returns-clause-told : goal.returns-clause-told
returns-clause-told c =
    is-tail _ _ _ (scan-passed _ _ (sym c.in_ok-state.ensures.refuses)).header (λ i. omega (arith, c.type_inv.log i)) (laid (goal.at.returns-clause-told c).After-put_tail)
