use native.Mathlib.Omega.{arith}
use mathlib.Core.Path.{◌≡◌, sym, ap, ◌∙◌}
use Rattle.cursor.proofs.Ways.{index-found, index-passed, index-over}
use Rattle.cursor.proofs.index_for.Goals as goal

pub returns-then-row-c : goal.returns-then-row-c
returns-then-row-c c = (sym (c.loop-i.invariant ∙ index-found c.requires _ _ (omega arith) c.tree_cell-c.ensures _ c.if-row-c.true), omega arith)

pub loop-i-preserved : goal.loop-i-preserved
loop-i-preserved c = c.loop-i.invariant ∙ index-passed c.requires _ _ (omega arith) c.tree_cell-c.ensures _ c.if-row-c.false

pub returns : goal.returns
returns c =
    let z : c.loop-i.i ≡ c.args.count = omega arith in
    (sym z ∙ sym (c.loop-i.invariant ∙ index-over c.requires _ _ (omega arith)), omega arith)
