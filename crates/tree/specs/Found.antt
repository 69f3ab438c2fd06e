-- What the check of a tree page finds: 22, 23, 26 or 0; for 0 its type, the number of its cells and its right pointer.
use Rattle.std.specs.Prelude.{ℕ, Result, Ok, Err}
use Rattle.refusal.specs.Rule.{number_of}
use Rattle.refusal.specs.declared.Refusal.{Refusal}
use Rattle.page.specs.declared.TreePage.{TreePage}

pub record Found : Type 0 where
  pub fault : ℕ
  pub kind : ℕ
  pub cells : ℕ
  pub right : ℕ

-- what the code answers
abbrev pub told : Result TreePage Refusal → Found
told (Ok page) = record { fault = 0; kind = page.kind; cells = page.cells; right = page.right }
told (Err e) = record { fault = number_of e.rule; kind = 0; cells = 0; right = 0 }
