use Prim.Native.Nat.{ℕ, ◌+◌}
use mathlib.Core.Path.{sym, ap, ◌∙◌}
use native.Mathlib.Omega.{arith}
use Rattle.number.specs.Bytes.{byte_at}
use Rattle.cell.proofs.CellParts.{width-le}
use Rattle.cell.proofs.CellSpelled.{lead-inside, quick-other}
use Rattle.spelling.proofs.Laws.{inside, long-few}
use Rattle.spelling.proofs.cell_long.Goals as goal

pub returns-then-kind-eq-TABLE_LEAF : goal.returns-then-kind-eq-TABLE_LEAF
returns-then-kind-eq-TABLE_LEAF c = long-few c.requires c.leaf_long.ensures

pub overflow_add-at : goal.overflow_add-at
overflow_add-at c = omega (arith, inside c.requires, c.child_width.ensures, width-le c.args.kind)

pub bounds-p-at : goal.bounds-p-at
bounds-p-at c =
    let a = c.args in
    omega (arith, inside c.requires, c.child_width.ensures, lead-inside a.p.now a.u a.kind a.at c.requires.reads)

pub returns-then-p-at : goal.returns-then-p-at
returns-then-p-at c = long-few c.requires c.read_long.ensures

pub returns : goal.returns
returns c =
    let a = c.args in
    let w = c.child_width.ensures in
    long-few c.requires (sym (quick-other a.p.now a.u a.kind a.at c.requires.reads c.if-kind-eq-TABLE_LEAF.false (λ e. c.if-p-at.false (ap (λ (n : ℕ). byte_at a.p.now (a.at + n)) w ∙ e))))
