-- What the fill answers: a refusal by its number, or 0; n and the page size in force, both 0 on refusal.
use Rattle.std.specs.Prelude.{ℕ, Result, Ok, Err}
use Rattle.refusal.specs.declared.Rule.{Rule}
use Rattle.refusal.specs.Rule.{number_of}
use Rattle.frames.specs.declared.Filled as F

pub record Filled : Type 0 where
  pub refusal : ℕ
  pub pages : ℕ
  pub size : ℕ

-- as the code answers it
abbrev pub filled_told : Result F.Filled Rule → Filled
filled_told (Ok f) = record { refusal = 0; pages = f.pages; size = f.size }
filled_told (Err rule) = record { refusal = number_of rule; pages = 0; size = 0 }
