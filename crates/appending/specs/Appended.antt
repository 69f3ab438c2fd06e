-- What the calls answer, with a refusal by its number, or 0; on refusal all else is 0.
use Rattle.std.specs.Prelude.{ℕ}

-- what a log's tail tells
pub record Tail : Type 0 where
  pub refusal : ℕ
  pub page_size : ℕ
  pub frames : ℕ
  pub pages : ℕ

-- what is to be written to a log: `length` bytes at `at`
pub record Appended : Type 0 where
  pub refusal : ℕ
  pub at : ℕ
  pub length : ℕ
