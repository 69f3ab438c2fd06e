use mathlib.Core.Bool.{not}
use mathlib.Core.Path.{◌∙◌, ap, sym}
use borrow.Author.Rules.{rules}
use Rattle.std.specs.Prelude.{Ok}
use Rattle.builder.proofs.Refused.{schema-root, schema-err, schema-none}
use Rattle.builder.proofs.bad_schema.Goals.{in-Ok-Some, in_default, in_default-2}
use Rattle.builder.proofs.bad_schema.Goals as goal

pub returns-after-matches : goal.returns-after-matches
returns-after-matches c =
    let short = c.if-schema-gt911.false in
    elim c.match-matches.branch [
      | in-Ok-Some w ↦ ap not w.matches-is ∙ schema-root _ _ short (sym (w.in-Ok-Some.is ∙ ap Ok w.in-Ok-Some.field-0-is) ∙ c.schema_row.ensures)
      | in_default w ↦ ap not w.matches-is ∙ schema-none _ _ _ short c.schema_row.ensures w.in_default.is (search rules)
      | in_default-2 w ↦ ap not w.matches-is ∙ schema-err _ _ _ short c.schema_row.ensures w.in_default.is
    ]
