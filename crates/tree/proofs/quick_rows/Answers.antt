use Rattle.std.proofs.lemmas.Result.{err_from_is_err_and}
use Prim.Native.Nat.{◌-◌, ◌<◌}
use mathlib.Core.Path.{◌≡◌, sym, ap, ◌∙◌}
use mathlib.Core.Bool.{true}
use mathlib.Core.Option.{some}
use native.Mathlib.Omega.{arith}
use Rattle.dealing.specs.File.{is_table}
use Rattle.dealing.specs.Good.{a_row}
use Rattle.dealing.specs.Walk.{follows}
use Rattle.image.specs.Image.{file_of}
use Rattle.ledger.specs.Ledger.{mark_of}
use Rattle.ledger.proofs.Ways.{least-follows}
use Rattle.tree.proofs.Cells.{table_is}
use Rattle.tree.proofs.Payloads.{marked}
use Rattle.tree.proofs.Calm.{first-before, quick-none, quick-index, quick-goes, quick-stops}
use Rattle.tree.proofs.quick_rows.Goals as goal
use Rattle.tree.proofs.quick_rows.Goals.{After-walk_payloads}

-- there is a cell
some-cell : (c : After-walk_payloads) → let a = c.args in 0 < (file_of a.image.now).count a.p
some-cell c = omega (arith, c.requires.2)

-- on a table leaf the first row may follow
first : (c : After-walk_payloads) → let a = c.args in let f = file_of a.image.now in
    is_table f a.p ≡ true → follows (mark_of a.image.now a.t.last) (a_row (f.cell a.p 0).row) ≡ true
first c t =
    let P = c.requires in let q = P.3 in
    least-follows P.4 c.args.image.now _ (q.begins t (some-cell c)) (omega (arith, first-before _ _ _ _ _ _ q t (some-cell c)))

pub returns-then-cells-eq0 : goal.returns-then-cells-eq0
returns-then-cells-eq0 c = quick-none _ _ _ _ _ _ c.requires.3 _ (sym c.requires.2 ∙ c.if-cells-eq0.true)

pub returns-in_err-walk_payloads : goal.returns-in_err-walk_payloads
returns-in_err-walk_payloads c =
    let w = (goal.at.returns-in_err-walk_payloads c).After-walk_payloads in
    let q = err_from_is_err_and c.from_residual.result c.from_residual.ensures.1 in
    rw (q.1, q.2) (quick-stops _ _ _ _ _ _ c.requires.3 _ (some-cell w) (first w) _ _ (c.in_err-walk_payloads.ensures _ _))

pub returns-then-not-is_table : goal.returns-then-not-is_table
returns-then-not-is_table c =
    quick-index _ _ _ _ _ _ c.requires.3 _ (sym (table_is _ _ _ c.requires.0.kind_is) ∙ sym c.if-not-is_table.ensures) ∙ c.in_ok-walk_payloads.ensures _ _

pub overflow_sub-result : goal.overflow_sub-result
overflow_sub-result c =
    let w = (goal.at.overflow_sub-result c).After-walk_payloads in
    omega (arith, c.requires.3.ends (sym (table_is _ _ _ c.requires.0.kind_is) ∙ sym c.if-not-is_table.ensures) (some-cell w))

pub returns : goal.returns
returns c =
    let w = (goal.at.returns c).After-walk_payloads in let t = sym (table_is _ _ _ c.requires.0.kind_is) ∙ sym c.if-not-is_table.ensures in
    quick-goes _ _ _ _ _ _ c.requires.3 _ (some-cell w) t (first w t) ∙ ap (marked (some (a_row (c.args.next - 1)))) (c.in_ok-walk_payloads.ensures _ _)
