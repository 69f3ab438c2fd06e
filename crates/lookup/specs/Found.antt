-- What looking for a row finds: nothing; page, index from 0 and payload's length of the cell that carries its number; or the refusal's number and the page that it reports.
use Rattle.std.specs.Prelude.{ℕ, Option, Some, None, Result, Ok, Err}
use Rattle.refusal.specs.declared.Refusal.{Refusal}
use Rattle.refusal.specs.Rule.{number_of}
use Rattle.lookup.specs.declared.At as A

pub data Found : Type 0 where
  Nothing : Found
  At : (page cell length : ℕ) → Found
  Refused : (number page : ℕ) → Found

-- what the code answers
abbrev pub told_found : Result (Option A.At) Refusal → Found
told_found (Ok None) = Nothing
told_found (Ok (Some c)) = At c.page c.cell c.length
told_found (Err e) = Refused (number_of e.rule) e.page
