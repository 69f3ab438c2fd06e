-- Where a page is shown from: a part of the log or else of the image, with a refusal by its number, or 0.
use Rattle.std.specs.Prelude.{ℕ, Bool}

pub record Part : Type 0 where
  pub refusal : ℕ
  pub logged : Bool
  pub start : ℕ
  pub length : ℕ
