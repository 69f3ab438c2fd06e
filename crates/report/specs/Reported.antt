-- The refusal's number and the page reported, 0 where there is none; the summary; and whether its sum turned to NaN, which is told as zero.
use Rattle.std.specs.Prelude.{ℕ, Bool}
use Rattle.report.specs.declared.Summary.{Summary}

pub record Reported : Type 0 where
  pub refusal : ℕ
  pub page : ℕ
  pub summary : Summary
  pub nan : Bool
