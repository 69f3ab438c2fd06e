-- What recovery answers, by the definitions: where `refusal` is not 0 the other fields are 0; with no journal no pages are counted.
use Rattle.std.specs.Prelude.{ℕ}

pub record Recovered : Type 0 where
  pub refusal : ℕ
  pub pages : ℕ
  pub length : ℕ
