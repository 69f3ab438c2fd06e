-- What a page says to the search for a row: its refusal's number or a cell's; no cell carries the number; the cell that does, with its payload's length;
-- the child to go on with.
use Rattle.std.specs.Prelude.{ℕ, Result, Ok, Err}
use Rattle.refusal.specs.declared.Rule.{Rule}
use Rattle.refusal.specs.Rule.{number_of}
use Rattle.quick.specs.declared.Step as S

pub data Step : Type 0 where
  Refused : (number : ℕ) → Step
  Nothing : Step
  Cell : (index length : ℕ) → Step
  Child : (child : ℕ) → Step

-- what the code answers
abbrev pub told_step : Result S.Step Rule → Step
told_step (Ok S.TheVariants.Nothing) = Nothing
told_step (Ok (S.TheVariants.Cell index length)) = Cell index length
told_step (Ok (S.TheVariants.Child child)) = Child child
told_step (Err rule) = Refused (number_of rule)
