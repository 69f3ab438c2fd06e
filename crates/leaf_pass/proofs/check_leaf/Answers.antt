use mathlib.Core.Path.{sym, ◌∙◌}
use Rattle.std.proofs.lemmas.Option.{IfSome_then}
use Rattle.leaf_pass.proofs.LeafLaws.{calm-passed}
use Rattle.leaf_pass.proofs.check_leaf.Goals as goal

pub returns-clause-calm : goal.returns-clause-calm
returns-clause-calm c =
    IfSome_then c.pass.result c.pass.ensures.passed
    (λ leaf k. calm-passed _ _ _ _ _ leaf k (sym c.suits.ensures ∙ c.if-not-suits.false) (c.is_leaf.ensures c.if-not-is_leaf.false))
