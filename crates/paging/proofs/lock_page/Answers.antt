use mathlib.Core.Path.{refl}
use Rattle.paging.specs.Pages.{lock_page}
use Rattle.paging.proofs.lock_page.Goals as goal

pub returns : goal.returns
unfolding lock_page
returns c = refl
