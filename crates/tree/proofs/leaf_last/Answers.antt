use mathlib.Core.Path.{◌≡◌, sym, ap, ◌∙◌}
use mathlib.Core.List.{[], ◌∷◌}
use Rattle.schema.specs.Row.{row_is}
use Rattle.dealing.specs.Walk.{entry, run}
use Rattle.image.specs.Image.{file_of}
use Rattle.ledger.specs.Ledger.{state_of}
use Rattle.tree.specs.Spots.{mode_of}
use Rattle.tree.proofs.Cells.{table_is, room-two, cell-key, row_told}
use Rattle.tree.proofs.Leaves.{row-unfit, row-fit, last-plain, last-table, last_entry, last-unfit, last_fit}
use Rattle.tree.proofs.leaf_last.Goals as goal
use Rattle.tree.proofs.leaf_last.Goals.{After-row_at}

-- the row of the schema, as it was read
row : (c : After-row_at)
    → let a = c.args in let f = file_of a.image.now in c.row_at.result ≡ row_is f.N (f.column4 a.p a.i)
row c = let P = c.requires in row_told P.0 P.2 P.3 _ c.row_at.ensures

pub returns-in-Plain : goal.returns-in-Plain
returns-in-Plain c = λ ks ns. last-plain _ _ _ _ _ (ap mode_of c.in-Plain.is)

pub returns-then-is_table : goal.returns-then-is_table
returns-then-is_table c = λ ks ns. last-table _ _ _ _ _ (ap mode_of c.in-Ordered.is) (sym (table_is _ _ _ c.requires.0.kind_is) ∙ sym c.if-is_table.ensures)

pub take_entry-requires : goal.take_entry-requires
take_entry-requires c = let P = c.requires in (P.4, P.5, room-two c.args.h c.args.mode _ c.in-Ordered.is P.1)

pub returns-else-is_table : goal.returns-else-is_table
returns-else-is_table c =
    let a = c.args in let P = c.requires in let b = a.image.now in let f = file_of b in
    λ ks ns.
    last_entry _ _ _ _ _ (ap mode_of c.in-Ordered.is) (sym (table_is _ _ _ P.0.kind_is) ∙ sym c.if-is_table.ensures)
    ∙ ap (λ v. run f.N (state_of b ks ns a.t) (entry a.p v ∷ [])) (cell-key P.0 P.2 P.3)
    ∙ c.take_entry.ensures ks ns

pub returns-in-Err : goal.returns-in-Err
returns-in-Err c =
    let z = row-unfit _ _ _ (row (goal.at.returns-in-Err c).After-row_at) _ c.in-Err.is in
    λ ks ns. rw z.1 (last-unfit _ _ _ _ _ (ap mode_of c.in-Schema.is) z.0)

pub returns-in-Ok : goal.returns-in-Ok
returns-in-Ok c = λ ks ns. last_fit _ _ _ _ _ (ap mode_of c.in-Schema.is) (row-fit _ _ _ (row (goal.at.returns-in-Ok c).After-row_at) _ c.in-Ok.is)
