use mathlib.Core.Path.{◌∙◌}
use Rattle.names.proofs.Laws.{named_any}
use Rattle.names.proofs.is_named.Goals as goal

pub returns : goal.returns
returns c = c.contains.ensures.value ∙ named_any c.args.ordered.now c.args.root
