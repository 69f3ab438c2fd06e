use Rattle.std.proofs.lemmas.Result.{err_from_is_err_and}
use mathlib.Core.Path.{◌≡◌, sym, ap, ◌∙◌}
use Rattle.dealing.specs.File.{is_table}
use Rattle.dealing.specs.Walk.{run, row_of}
use Rattle.image.specs.Image.{file_of}
use Rattle.ledger.specs.Ledger.{state_of}
use Rattle.tree.proofs.Cells.{table_is, cell_row}
use Rattle.tree.proofs.Leaves.{cell-stops, cell-goes}
use Rattle.tree.proofs.leaf_cell.Goals as goal
use Rattle.tree.proofs.leaf_cell.Goals.{After-take_row}

-- the row number that is taken is the file's
row : (c : After-take_row)
    → let a = c.args in let b = a.image.now in let f = file_of b in let s = state_of b a.kinds.now a.namers.now a.t in
    run f.N s (row_of (is_table f a.p) a.p (f.cell a.p a.i).row) ≡ run f.N s (row_of c.is_table-table.result a.p c.tree_cell-c.result.row)
row c =
    let a = c.args in let P = c.requires in let b = a.image.now in let f = file_of b in let s = state_of b a.kinds.now a.namers.now a.t in
    ap (λ x. run f.N s (row_of x a.p (f.cell a.p a.i).row)) (sym (table_is f a.p a.kind P.0.kind_is) ∙ sym c.is_table-table.ensures)
    ∙ ap (λ x. run f.N s (row_of c.is_table-table.result a.p x)) (sym (cell_row P.0 P.3 c.tree_cell-c.ensures))

pub returns-in_err-next : goal.returns-in_err-next
returns-in_err-next c =
    let a = c.args in let b = a.image.now in
    let q = err_from_is_err_and c.from_residual.result c.from_residual.ensures.1 in
    rw (q.1, q.2) (cell-stops _ _ _ _ _ _ _ (row (goal.at.returns-in_err-next c).After-take_row ∙ c.in_err-next.ensures (file_of b).N b a.kinds.now a.namers.now))

pub returns : goal.returns
returns c =
    let a = c.args in let b = a.image.now in
    cell-goes _ _ _ _ _ _ (row (goal.at.returns c).After-take_row ∙ c.in_ok-next.ensures (file_of b).N b a.kinds.now a.namers.now)
    ∙ c.leaf_rest.ensures
