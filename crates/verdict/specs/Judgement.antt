-- The same before numbers are counted.
use Rattle.std.specs.Prelude.{ℕ, Result, Ok, Err}
use Rattle.refusal.specs.declared.Refusal.{Refusal}
use Rattle.refusal.specs.Rule.{number_of}

pub data Judgement : Type 0 where
  Accepted : (pages : ℕ) → Judgement
  Refused : (number page : ℕ) → Judgement

-- what the code judges
abbrev pub judged : Result ℕ Refusal → Judgement
judged (Ok n) = Accepted n
judged (Err e) = Refused (number_of e.rule) e.page
