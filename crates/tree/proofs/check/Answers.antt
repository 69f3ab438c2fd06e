use mathlib.Core.Path.{ap}
use Rattle.page.specs.Checked.{told}
use Rattle.tree.specs.Spots.{spot_of}
use Rattle.tree.proofs.Tests.{tests-refused, tests-page}
use Rattle.tree.proofs.check.Goals as goal

pub returns-in-Err-clause-found : goal.returns-in-Err-clause-found
returns-in-Err-clause-found c =
    tests-refused c.args.p c.place_of-place.result (spot_of c.args.spot) c.requires.0.opened c.place_of-place.ensures
    (told c.tree_page.result) c.tree_page.ensures _ (ap told c.in-Err.is)

pub returns-in-Ok-clause-found : goal.returns-in-Ok-clause-found
returns-in-Ok-clause-found c =
    tests-page c.args.p c.place_of-place.result (spot_of c.args.spot) c.requires.0.opened c.place_of-place.ensures
    (told c.tree_page.result) c.tree_page.ensures _ _ _ (ap told c.in-Ok.is)
