use native.Mathlib.Omega.{arith}
use mathlib.Core.Path.{sym, ◌∙◌}
use Rattle.paging.proofs.PagesLaws.{fits-range}
use Rattle.wal.specs.Sums.{is_big}
use Rattle.wal.proofs.FrameLaws.{in-force-whole}
use Rattle.wal.proofs.state_in.Goals as goal

pub scan-found-requires : goal.scan-found-requires
scan-found-requires c =
    let fits = fits-range _ (sym c.size_fits.ensures ∙ c.if-not-size_fits.false) in
    (c.requires, omega (arith, fits.0), fits.1, sym c.is_headed.ensures ∙ c.if-not-is_headed.false)

pub state_at-requires : goal.state_at-requires
state_at-requires c =
    let fits = fits-range _ (sym c.size_fits.ensures ∙ c.if-not-size_fits.false) in
    (fits.1, rw c.scan-found.ensures (in-force-whole (is_big c.args.order) c.be32-size.result c.args.log.now c.requires))
