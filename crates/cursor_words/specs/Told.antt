-- What the code answers, as the definitions have it.
pub use Rattle.cursor.specs.Told.{told_shown}
