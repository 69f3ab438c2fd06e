-- What recovery of a whole file answers: a refusal by its number, or 0; the pages, and their length.
use Rattle.std.specs.Prelude.{ℕ}

pub record Recovered : Type 0 where
  pub refusal : ℕ
  pub pages : ℕ
  pub length : ℕ
