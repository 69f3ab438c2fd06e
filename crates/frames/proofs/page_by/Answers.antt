use Prim.Native.Nat.{◌-◌, ◌≤◌}
use mathlib.Core.Path.{sym, ◌∙◌}
use native.Mathlib.Omega.{arith}
use Rattle.paging.proofs.PagesLaws.{fits-range}
use Rattle.frames.proofs.page_by.Goals as goal
use Rattle.frames.proofs.page_by.Goals.{Else-not-size_fits}

-- the page size is one of 512 to 65536
sized : (c : Else-not-size_fits) → (512 ≤ c.args.size) × (c.args.size ≤ 65536)
sized c = fits-range c.args.size (sym c.size_fits.ensures ∙ c.if-not-size_fits.false)

pub lock_page-requires : goal.lock_page-requires
lock_page-requires c = omega (arith, sized (goal.at.lock_page-requires c).Else-not-size_fits)

pub entry_part-requires : goal.entry_part-requires
entry_part-requires c =
    let some = c.if-p-eq0.false in
    (omega arith, omega arith, (sized (goal.at.entry_part-requires c).Else-not-size_fits).1, omega (arith, c.type_inv.table (c.args.page - 1)))
