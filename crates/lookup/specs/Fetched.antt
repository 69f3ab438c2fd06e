-- What fetching a payload says: the length of what was copied; or the refusal's number and the page that it reports.
use Rattle.std.specs.Prelude.{ℕ, Result, Ok, Err}
use Rattle.refusal.specs.declared.Refusal.{Refusal}
use Rattle.refusal.specs.Rule.{number_of}

pub data Fetched : Type 0 where
  Copied : (length : ℕ) → Fetched
  Refused : (number page : ℕ) → Fetched

-- what the code answers
abbrev pub told_fetched : Result ℕ Refusal → Fetched
told_fetched (Ok n) = Copied n
told_fetched (Err e) = Refused (number_of e.rule) e.page
