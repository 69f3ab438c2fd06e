use native.Mathlib.Omega.{arith}
use mathlib.Core.Path.{sym, ◌∙◌}
use Rattle.paging.proofs.PagesLaws.{fits-range}
use Rattle.log_summary.proofs.inspect_in.Goals as goal

pub tell-requires : goal.tell-requires
tell-requires c =
    let range = fits-range _ (sym c.size_fits.ensures ∙ c.if-not-size_fits.false) in
    (c.requires, omega (arith, range.0), range.1, sym c.is_headed.ensures ∙ c.if-not-is_headed.false)
