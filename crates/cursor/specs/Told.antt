-- What the code answers, as the definitions have it.
use Rattle.std.specs.Prelude.{Result, Ok, Err, Option, Some, None}
use Rattle.refusal.specs.declared.Refusal.{Refusal}
use Rattle.refusal.specs.Rule.{number_of}
use Rattle.cursor.specs.Shown.{Shown, End, Row, Refused}
use Rattle.cursor.specs.Stepped.{Stepped}
use Rattle.cursor.specs.declared.Row as D
use Rattle.cursor.specs.declared.Cursor.{Cursor}
use Rattle.cursor.specs.declared.Stepped as S
use Rattle.cursor.specs.declared.Standing.{Standing}
use Rattle.cursor.specs.Answers.{blank, stepped}

-- what is shown, and the cursor that is handed back
abbrev pub told_shown : Result (Option D.Row) Refusal → Shown
told_shown (Ok None) = End
told_shown (Ok (Some r)) = Row r.page r.cell r.length r.number
told_shown (Err e) = Refused (number_of e.rule) e.page

abbrev pub told_stepped : S.Stepped → Stepped
told_stepped s = stepped (told_shown s.shown) s.cursor

-- what the parts of the code find: at the end the cursor is blank, and a refusal keeps the one that there was
abbrev pub told_row : Option Standing → Stepped
told_row None = stepped End blank
told_row (Some s) = stepped (Row s.row.page s.row.cell s.row.length s.row.number) s.cursor

abbrev pub told : (kept : Cursor) → Result (Option Standing) Refusal → Stepped
told kept (Ok shown) = told_row shown
told kept (Err refusal) = stepped (Refused (number_of refusal.rule) refusal.page) kept
