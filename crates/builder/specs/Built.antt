-- What the builder answers: the refusal's number, or 0 and the image's number of pages.
use Rattle.std.specs.Prelude.{ℕ, Result, Ok, Err}
use Rattle.refusal.specs.declared.Rule.{Rule}
use Rattle.refusal.specs.Rule.{number_of}

pub record Built : Type 0 where
  pub refusal : ℕ
  pub pages : ℕ

-- what the code answers
abbrev pub told : Result ℕ Rule → Built
told (Ok n) = record { refusal = 0; pages = n }
told (Err r) = record { refusal = number_of r; pages = 0 }
