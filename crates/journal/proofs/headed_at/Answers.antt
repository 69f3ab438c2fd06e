use Rattle.std.proofs.Common.{sym, ◌∙◌, eqb-true}
use borrow.Author.Tests.{eqb-false}
use mathlib.Core.Bool.{true≢false}
use Rattle.journal.proofs.ReadingLaws.{head-none, head-sector, head-size}
use Rattle.journal.proofs.headed_at.Goals as goal
use Rattle.journal.proofs.headed_at.Goals.{then-is_magic, else-is_magic}

pub returns-then-be32-sector : goal.returns-then-be32-sector
returns-then-be32-sector c = elim c.if-is_magic.branch [
  | then-is_magic w ↦ head-size _ _ c.requires.1 _ c.is_magic.ensures w.if-is_magic.true _ c.requires.0.is_sector _ w.be32.ensures
      (eqb-true _ _ (sym w.value-is ∙ c.if-be32-sector.true)) _ _ c.be32-then-be32-sector.ensures c.requires.0.is_size
  | else-is_magic w ↦ absurd (true≢false (sym c.if-be32-sector.true ∙ w.value-is ∙ w.if-is_magic.false))
]

pub returns-else-be32-sector : goal.returns-else-be32-sector
returns-else-be32-sector c = elim c.if-is_magic.branch [
  | then-is_magic w ↦ c.if-be32-sector.false ∙ head-sector _ _ c.requires.1 _ c.is_magic.ensures w.if-is_magic.true _ c.requires.0.is_sector _ w.be32.ensures
      (eqb-false _ _ (sym w.value-is ∙ c.if-be32-sector.false))
  | else-is_magic w ↦ c.if-be32-sector.false ∙ head-none _ _ c.requires.1 _ c.is_magic.ensures w.if-is_magic.false
]
