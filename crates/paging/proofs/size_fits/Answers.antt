use Rattle.std.proofs.Common.{rules}
use Rattle.paging.proofs.PagesLaws.{fits-some, fits-none}
use Rattle.paging.proofs.size_fits.Goals as goal

pub returns-in-512 : goal.returns-in-512
returns-in-512 c = fits-some _ c.in-512.is

pub returns-in_default : goal.returns-in_default
returns-in_default c = search (rules, fits-none)
