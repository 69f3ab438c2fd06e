use mathlib.Core.Path.{sym, ◌∙◌}
use borrow.Author.Tests.{eqb-true, eqb-false}
use Rattle.builder.proofs.PlanLaws.{table_none, table_empty, table-some}
use Rattle.builder.proofs.put_table.Goals as goal

pub put_leaf-requires : goal.put_leaf-requires
put_leaf-requires c = table_none _ _ _ _ _ _ (eqb-true _ 0 (sym c.is_empty.ensures ∙ c.if-is_empty.true)) c.requires

pub returns-then-is_empty : goal.returns-then-is_empty
returns-then-is_empty c =
    let a = c.args in
    table_empty a.rows.now a.lengths.now a.payloads.now a.out.now _ a.at a.t (eqb-true _ 0 (sym c.is_empty.ensures ∙ c.if-is_empty.true))
    c.put_leaf.ensures

pub returns : goal.returns
returns c =
    let a = c.args in
    table-some a.rows.now a.lengths.now a.payloads.now a.out.now _ a.at a.t (eqb-false _ 0 (sym c.is_empty.ensures ∙ c.if-is_empty.false)) c.requires.held
    c.put_leaves.ensures
