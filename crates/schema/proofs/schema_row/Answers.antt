use mathlib.Core.Path.{◌∙◌, ap, sym}
use borrow.Author.Rules.{rules}
use lib.IntN.{ℤ}
use mir.Syntax.{w64}
use mir.ValLaws.{to_z-of_z}
use Rattle.dealing.specs.File.{integer}
use Rattle.schema.specs.Row.{row_is}
use Rattle.schema.proofs.RowLaws.{unread-unfit, not-five-unfit, missing-unfit, column-decides, integer-names, null-names, other-unfit}
use Rattle.schema.proofs.schema_row.Goals as goal

pub returns-in_default : goal.returns-in_default
returns-in_default c = unread-unfit _ _ (sym c.in_default.is ∙ c.column_count.ensures)

pub returns-then-count-ne5 : goal.returns-then-count-ne5
returns-then-count-ne5 c = not-five-unfit _ _ _ (sym c.in-Some.is ∙ c.column_count.ensures) c.if-count-ne5.true

pub returns-in_default-column_at : goal.returns-in_default-column_at
returns-in_default-column_at c =
    missing-unfit _ _ _ (sym c.in-Some.is ∙ c.column_count.ensures) c.if-count-ne5.false _ c.column_at.ensures c.in_default-column_at.not-Ok

pub returns-in-Null : goal.returns-in-Null
returns-in-Null c =
    column-decides _ _ _ (sym c.in-Some.is ∙ c.column_count.ensures) c.if-count-ne5.false _ c.in-Ok.column _ c.column_at.ensures c.in-Ok.is
    (null-names _ _ c.in-Null.is)

pub returns-in_default-column-2 : goal.returns-in_default-column-2
returns-in_default-column-2 c =
    column-decides _ _ _ (sym c.in-Some.is ∙ c.column_count.ensures) c.if-count-ne5.false _ c.in-Ok.column _ c.column_at.ensures c.in-Ok.is
    (other-unfit _ _ c.in_default-column.not-Null c.in_default-column-2.not-Int)

pub returns : goal.returns
returns c =
    integer-names _ _ _ (sym c.in-Some.is ∙ c.column_count.ensures) c.if-count-ne5.false _ c.in-Ok.column c.in-Int.page _ c.column_at.ensures c.in-Ok.is c.in-Int.is
    (c.root_of.ensures ∙ ap (λ (z : ℤ). row_is c.args.n (integer z)) (to_z-of_z w64 c.in-Int.page (search rules)))
