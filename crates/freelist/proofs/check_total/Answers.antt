use mathlib.Core.Path.{sym, ◌∙◌}
use Rattle.dealing.specs.Walk.{state}
use Rattle.freelist.proofs.Laws.{total-good, total-bad}
use Rattle.freelist.proofs.check_total.Goals as goal

pub returns-then-total-be32 : goal.returns-then-total-be32
returns-then-total-be32 c =
    λ n ks ns m l. total-bad n (state ks ns m l) c.args.total _ (λ e. c.if-total-be32.true (e ∙ sym c.be32.ensures))

pub returns : goal.returns
returns c =
    λ n ks ns m l. total-good n (state ks ns m l) c.args.total _ (c.if-total-be32.false ∙ c.be32.ensures)
