-- What the check of 1 to 4, or of 1 to 5, answers, with the refusal's number or 0. Where it refuses, the other fields are 0.
use Rattle.std.specs.Prelude.{ℕ}

pub record Pages : Type 0 where
  pub refusal : ℕ
  pub size : ℕ
  pub pages : ℕ
