-- What the checker answers: yes; no, the proposal differs, first at that page, or, page 0, in its length or version; no, the verdict refuses, with the page it reports.
use Rattle.std.specs.Prelude.{ℕ, Option, Some, None, Result, Ok, Err}
use Rattle.refusal.specs.declared.Refusal.{Refusal}
use Rattle.refusal.specs.Rule.{number_of}

pub data Checked : Type 0 where
  Yes : Checked
  No : (page : ℕ) → Checked
  Refused : (number page : ℕ) → Checked

-- what the code answers
abbrev pub told : Result (Option ℕ) Refusal → Checked
told (Ok None) = Yes
told (Ok (Some page)) = No page
told (Err e) = Refused (number_of e.rule) e.page
