-- What a verdict answers: accepted, with the number of pages and of numbers spelled long; or the refusal's number and the page that it reports.
use Rattle.std.specs.Prelude.{ℕ, Result, Ok, Err}
use Rattle.refusal.specs.declared.Refusal.{Refusal}
use Rattle.refusal.specs.Rule.{number_of}
use Rattle.verdict.specs.declared.Accepted as A

pub data Answer : Type 0 where
  Accepted : (pages long : ℕ) → Answer
  Refused : (number page : ℕ) → Answer

-- what the code answers
abbrev pub told : Result A.Accepted Refusal → Answer
told (Ok a) = Accepted a.pages a.long
told (Err e) = Refused (number_of e.rule) e.page
