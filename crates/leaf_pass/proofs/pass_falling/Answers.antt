use mathlib.Core.Path.{◌≡◌, ap}
use mathlib.Core.Bool.{false}
use Rattle.leaf_pass.specs.Way.{marks}
use Rattle.leaf_pass.proofs.LeafLaws.{passed-falling}
use Rattle.leaf_pass.proofs.pass_falling.Goals as goal
use Rattle.leaf_pass.proofs.pass_falling.Goals.{then-fragments-eq0, else-fragments-eq0}

pub returns-clause-passed : goal.returns-clause-passed
returns-clause-passed c =
    let scanned = c.in_ok-scan.ensures.scanned in
    let unmarked : marks c.if-fragments-eq0.way' ≡ false =
    elim c.if-fragments-eq0.branch [ then-fragments-eq0 w ↦ ap marks w.way'-is | else-fragments-eq0 w ↦ ap marks w.way'-is ] in
    rw c.leaf_of.ensures (passed-falling _ _ _ _ _ _ c.args.page.now.opened _ c.args.page.now.count _ scanned.taken _ _ _ _ scanned.rows (scanned.falls unmarked)
    c.requires.1 c.requires.2 (c.may_fall.ensures c.if-not-may_fall.false) _ c.from-fragments.ensures c.if-fragments-gt60.false c.if-scan-fragments.false)
