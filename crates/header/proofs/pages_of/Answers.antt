use mathlib.Core.Path.{sym, ◌∙◌}
use Rattle.header.proofs.Tests.{pages-counted, pages-present}
use Rattle.header.proofs.pages_of.Goals as goal

pub returns-then-count_holds : goal.returns-then-count_holds
returns-then-count_holds c = pages-counted _ _ c.be32.ensures (sym c.count_holds.ensures ∙ c.if-count_holds.true)

pub returns-else-count_holds : goal.returns-else-count_holds
returns-else-count_holds c = pages-present _ _ c.requires.1 (sym c.count_holds.ensures ∙ c.if-count_holds.false)
