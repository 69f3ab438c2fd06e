use Rattle.std.proofs.Common.{sym, ◌∙◌}
use Rattle.journal.proofs.EndLaws.{has-fields}
use Rattle.journal.proofs.Journal.new.Goals as goal

pub invariant_of-result : goal.invariant_of-result
invariant_of-result c =
    record {
      whole = c.requires;
      fields = has-fields _ _ _ _ c.be32-size.ensures (sym c.size_fits.ensures ∙ c.if-not-size_fits.false) c.be32-sector.ensures
          (sym c.size_fits-else-not-size_fits.ensures ∙ c.if-not-size_fits-2.false) c.be32.ensures;
    }
