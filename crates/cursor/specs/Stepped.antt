-- What is shown, and the cursor that stands there.
use Rattle.cursor.specs.Shown.{Shown}
use Rattle.cursor.specs.declared.Cursor.{Cursor}

pub record Stepped : Type 0 where
  pub shown : Shown
  pub cursor : Cursor
