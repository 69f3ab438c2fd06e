use Rattle.std.proofs.Common.{◌≡◌, ◌≢◌, take, ◌∙◌, rules, arith}
use Rattle.std.proofs.lemmas.Iterator.{YieldsList-from_slice, IsFirst-from_position}
use borrow.Author.Tests.{tests}
use Rattle.ledger_entries.proofs.Laws.{first-none, first-found}
use Rattle.ledger_entries.proofs.first_zero.Goals as goal

pub returns-then-least-ne0 : goal.returns-then-least-ne0
returns-then-least-ne0 c =
    (first-none c.args.kinds.now c.args.n c.requires (λ j q z. omega (arith, c.least.ensures j q)), omega arith)

pub returns : goal.returns
returns c =
    let ks = c.args.kinds.now in
    let found =
    first-found ks c.args.n c.requires c.position.result
    (IsFirst-from_position _ _ c.position.result (λ x. x ≡ 0) (λ x. x ≢ 0) c.position.ensures.ran (YieldsList-from_slice (take c.args.n ks) cc)
    (λ x q k. search (rules, tests)) (λ x q k. search (rules, tests))) in
    (c.unwrap_or.ensures ∙ found.0, omega (arith, c.unwrap_or.ensures, found.1))
