use mathlib.Core.Path.{sym, ◌∙◌}
use native.Mathlib.Omega.{arith}
use Rattle.image.proofs.Shape.{shape}
use Rattle.spelling.proofs.Laws.{over-starts, over_open, over_closed, over-ends}
use Rattle.spelling.proofs.count_long.Goals as goal
use Rattle.spelling.proofs.count_long.Goals.{then-is_open, else-is_open}

pub loop-i-init : goal.loop-i-init
loop-i-init c = over-starts _ _

pub overflow_cast-i : goal.overflow_cast-i
overflow_cast-i c = omega (arith, (shape c.requires.0.opened).few)

pub overflow_add-i : goal.overflow_add-i
overflow_add-i c = omega (arith, (shape c.requires.0.opened).few)

pub overflow_add-total : goal.overflow_add-total
overflow_add-total c = omega (arith, c.loop-i.invariant.small, c.tree_long-total.ensures.1, (shape c.requires.0.opened).few)

pub loop-i-preserved : goal.loop-i-preserved
loop-i-preserved c =
    let o = c.loop-i.invariant in
    elim c.if-is_open.branch [
      | then-is_open w ↦
          rw w.total-is
          (over_open o c.requires.1 _ (sym c.is_open.ensures ∙ w.if-is_open.true) w.tree_long-total.ensures.0 w.tree_long-total.ensures.1)
      | else-is_open w ↦ rw w.total-is (over_closed o c.requires.1 (sym c.is_open.ensures ∙ w.if-is_open.false))
    ]

pub returns : goal.returns
returns c = let l = c.loop-i in over-ends _ l.invariant (shape c.requires.0.opened).N-is (omega arith) c.loop-i-test.false
