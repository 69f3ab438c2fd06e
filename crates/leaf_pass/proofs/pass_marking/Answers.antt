use mathlib.Core.Path.{refl}
use Rattle.leaf_pass.proofs.LeafLaws.{passed-marking}
use Rattle.leaf_pass.proofs.pass_marking.Goals as goal

pub returns-clause-passed : goal.returns-clause-passed
returns-clause-passed c =
    let scanned = c.in_ok-scan.ensures.scanned in
    rw c.leaf_of.ensures (passed-marking _ _ _ _ _ _ c.args.page.now.opened _ c.args.page.now.count _ scanned.taken _ _ _ _
    scanned.rows _ _ _ _ c.clear.ensures (scanned.marks refl) _ _ c.be16-block.ensures.0
    c.in_ok-free.ensures.marked.0 c.requires.1 c.requires.2
    _ c.from-fragments.ensures c.if-fragments-gt60.false c.if-scan-free.false _ _ _ c.gap_before-top.ensures.1 c.gaps_cells-cells.ensures.gaps
    c.gaps_free-all.ensures c.if-all-fragments.false)
