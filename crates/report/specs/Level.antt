-- What a row gives: a real, nothing that counts, or the refusal's number and the page reported.
use Rattle.std.specs.Prelude.{ℕ, Float, Result, Ok, Err, Option, Some, None}
use Rattle.refusal.specs.declared.Refusal.{Refusal}
use Rattle.refusal.specs.Rule.{number_of}

pub data Level : Type 0 where
  Real : Float → Level
  Passed : Level
  Refused : (number page : ℕ) → Level

-- what the code answers
abbrev pub told_real : Option Float → Level
told_real None = Passed
told_real (Some x) = Real x

abbrev pub told_level : Result (Option Float) Refusal → Level
told_level (Ok level) = told_real level
told_level (Err e) = Refused (number_of e.rule) e.page
