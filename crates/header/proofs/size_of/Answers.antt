use mathlib.Core.Path.{ap, ◌∙◌}
use Rattle.header.specs.Header.{size_of, size_for}
use Rattle.header.proofs.size_of.Goals as goal

pub returns : goal.returns
unfolding size_of
returns c = c.size_for.ensures ∙ ap size_for c.be16.ensures.0
