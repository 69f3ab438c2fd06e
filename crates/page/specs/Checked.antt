-- What checking a tree page finds: the refusal's number; or the page's type, the number of its cells and the right pointer.
use Rattle.std.specs.Prelude.{ℕ, Result, Ok, Err}
use Rattle.refusal.specs.declared.Rule.{Rule}
use Rattle.refusal.specs.Rule.{number_of}
use Rattle.page.specs.declared.TreePage.{TreePage}

pub data Checked : Type 0 where
  Refused : (number : ℕ) → Checked
  Page : (kind cells right : ℕ) → Checked

-- what the code answers
abbrev pub told : Result TreePage Rule → Checked
told (Ok page) = Page page.kind page.cells page.right
told (Err rule) = Refused (number_of rule)
